-- What was found goes on.
use Rattle.std.proofs.Common.{ℕ, ◌+◌, ◌++◌, length, sym, ap, ◌∙◌, subst, arith}
use Rattle.repl_page.specs.Page.{IsPage}
use Rattle.repl_check.specs.declared.log_check.LogCheck.{LogCheck}
use Rattle.repl_check.specs.Fits.{rest_of}
use Rattle.repl_check.specs.Machine.{IsAtStage, check_identity}
use Rattle.repl_check.proofs.Stages.{judged_on}
use Rattle.repl_check.proofs.log_check.LogCheck.take.Goals as goal

pub returns-clause-judged : goal.returns-clause-judged
returns-clause-judged c timeline floor log judged on =
    let old = c.args.self.now in
    let bytes = c.args.bytes.now in
    let all = log ++ bytes in
    let begun = subst (λ (f : ℕ). IsAtStage (check_identity old) timeline (rest_of (check_identity old) floor all) f log c.begun-begun.result)
    (sym judged.begins) (c.begun-begun.ensures.stage timeline floor log judged) in
    let stage = c.through-self-inside.ensures timeline (rest_of (check_identity old) floor all) log begun
    (subst IsPage (sym judged.begins) judged.on_page) (judged.past ∙ ap (λ (f : ℕ). f + length log) (sym judged.begins)) on in
    let same = c.self.view_is in
    judged_on old _ timeline floor log bytes (ap (λ (check : LogCheck). check.ident) same) (ap (λ (check : LogCheck). check.floor) same)
    (omega (arith, ap (λ (check : LogCheck). check.at) same)) judged stage
