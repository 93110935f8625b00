-- Before the first bytes the log begins with them, and later its first page is there.
use Rattle.std.proofs.Common.{rules, ◌≡◌, ◌≢◌, ℕ, ◌≤◌, List, [], ◌++◌, length, sym, ◌∙◌, subst, arith}
use Rattle.std.proofs.lemmas.Bool.{eqb-false}
use Rattle.std.proofs.lemmas.List.{nil_from_length}
use Rattle.repl_page.specs.Page.{header_length}
use Rattle.repl_record.proofs.Pages.{header_is}
use Rattle.repl_check.specs.Fits.{rest_of}
use Rattle.repl_check.specs.Machine.{IsAtStage, check_identity}
use Rattle.repl_check.proofs.Stages.{rest_more, stage_placed}
use Rattle.repl_check.proofs.log_check.LogCheck.begun.Goals as goal

pub returns-then-eq-clause-stage : goal.returns-then-eq-clause-stage
returns-then-eq-clause-stage c timeline floor log judged =
    let ident = check_identity c.args.self.now in
    let bytes = c.args.bytes.now in
    let stage = c.first_stage.result in
    let here : c.args.self.now.at ≡ c.args.self.now.floor = search rules in
    let empty : log ≡ [] = nil_from_length log (omega (arith, here, judged.begins, judged.past)) in
    subst (λ (t : List ℕ). IsAtStage ident timeline (rest_of ident floor (t ++ bytes)) floor t stage) (sym empty)
    (subst (λ (f : ℕ). IsAtStage ident timeline (rest_of ident f bytes) f [] stage) judged.begins (c.first_stage.ensures.stage timeline))

pub returns-else-eq-clause-stage : goal.returns-else-eq-clause-stage
returns-else-eq-clause-stage c timeline floor log judged =
    let ident = check_identity c.args.self.now in
    let away : c.args.self.now.at ≢ c.args.self.now.floor = eqb-false _ _ (sym c.eq.ensures ∙ c.if-eq.false) in
    let enough : header_length ident.size floor ≤ length log = omega (
      arith,
      away,
      judged.begins,
      judged.past,
      judged.on_page,
      c.requires.page,
      header_is ident.size floor,
    ) in
    subst (λ (n : ℕ). IsAtStage ident timeline n floor log c.args.self.now.stage) (rest_more ident floor log c.args.bytes.now enough)
    judged.at_stage

pub returns-else-eq-clause-placed : goal.returns-else-eq-clause-placed
returns-else-eq-clause-placed c =
    let some = c.requires.judging.1 in
    let judged = some.judged in
    stage_placed (check_identity c.args.self.now) c.requires.judging.0 _ some.floor c.args.self.now.at some.log c.args.self.now.stage judged.on_page
    judged.past c.requires.page judged.at_stage
