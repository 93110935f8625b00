-- The rest goes on, is wrong, or is whole, and then records follow.
use Rattle.std.proofs.Common.{◌≡◌, ℕ, ◌-◌, List, ◌++◌, length, take, drop, sym, ap, ◌∙◌, subst, arith, append_assoc, length-drop}
use Rattle.std.proofs.lemmas.List.{length-take, take-append-drop, take_rest}
use Rattle.repl_page.specs.declared.ident.Ident.{Ident}
use Rattle.repl_page.specs.Page.{IsPage}
use Rattle.repl_record.specs.Walker.{AreOn, position}
use Rattle.repl_walk.specs.Rest.{IsRestBegun, IsRestFault, IsRestWhole}
use Rattle.repl_check.specs.declared.log_check.LogCheck.{LogCheck}
use Rattle.repl_check.specs.Machine.{IsAtStage, check_floor, check_identity}
use Rattle.repl_check.proofs.Stages.{rest_done}
use Rattle.repl_check.proofs.log_check.LogCheck.through_rest.Goals as goal

pub new-walker-requires : goal.new-walker-requires
new-walker-requires c =
    omega (arith, c.in-Whole.ensures.takes.2, c.requires.page, ap (λ (check : LogCheck). check.at) c.self.view_is)

pub through_records-requires : goal.through_records-requires
through_records-requires c =
    let rest = drop c.in-Whole.used c.args.bytes.now in
    record {
      room = omega (
        arith,
        (c.new-walker.ensures.stands (λ page. page)).keeps.past,
        c.requires.room,
        c.in-Whole.ensures.takes.1,
        ap (λ (check : LogCheck). check.at) c.self.view_is,
        length-take (length c.args.bytes.now - c.in-Whole.used) rest,
        length-drop c.in-Whole.used c.args.bytes.now,
      );
    }

pub returns-in-Short : goal.returns-in-Short
returns-in-Short c timeline count log is on_page past on =
    let ident = check_identity c.args.self.now in
    let floor = check_floor c.args.self.now in
    let bytes = c.args.bytes.now in
    let passed = is.passed (subst IsPage past c.requires.page) in
    let pages = subst (λ (p : ℕ). AreOn timeline c.args.tli p (length bytes)) (sym c.requires.placed) on in
    record {
      some = is.some;
      of_log = c.in-Short.ensures.ident ∙ is.of_log;
      begun = subst (λ (i : Ident). IsRestBegun i timeline count floor (log ++ bytes)) is.of_log (c.in-Short.ensures.answers timeline count
          floor log passed pages);
      passed = c.in-Short.ensures.goes_on timeline count floor log passed pages;
    }

pub returns-in-Bad : goal.returns-in-Bad
returns-in-Bad c timeline count log is on_page past on =
    let floor = check_floor c.args.self.now in
    let bytes = c.args.bytes.now in
    let passed = is.passed (subst IsPage past c.requires.page) in
    let pages = subst (λ (p : ℕ). AreOn timeline c.args.tli p (length bytes)) (sym c.requires.placed) on in (
      is.some,
      subst (λ (i : Ident). IsRestFault i timeline count floor (log ++ bytes) c.in-Bad.at c.in-Bad.why) is.of_log
          (c.in-Bad.ensures.answers timeline count floor log passed pages),
    )

pub returns-in-Whole : goal.returns-in-Whole
returns-in-Whole c timeline count log is on_page past on =
    let ident = check_identity c.args.self.now in
    let floor = check_floor c.args.self.now in
    let bytes = c.args.bytes.now in
    let used = c.in-Whole.used in
    let end = c.in-Whole.end in
    let walker = c.new-walker.result in
    let at = ap (λ (check : LogCheck). check.at) c.self.view_is in
    let takes = c.in-Whole.ensures.takes in
    let passed = is.passed (subst IsPage past c.requires.page) in
    let pages = subst (λ (p : ℕ). AreOn timeline c.args.tli p (length bytes)) (sym c.requires.placed) on in
    let whole = subst (λ (i : Ident). IsRestWhole i timeline count floor (log ++ bytes) end) is.of_log (c.in-Whole.ensures.answers timeline
    count floor log passed pages) in
    let goes = c.in-Whole.ensures.goes_on timeline count floor log passed pages in
    let begun = rest_done ident timeline count floor end used _ log bytes walker on_page is.some whole goes (omega (arith, takes.1)) (omega (
      arith,
      at,
      past,
    )) (c.new-walker.ensures.ident ∙ ap (λ (check : LogCheck). check.ident) c.self.view_is) (c.new-walker.ensures.stands timeline) in
    let rest = drop used bytes in
    let part : take (length bytes - used) rest ≡ rest = take_rest bytes used in
    let next : AreOn timeline c.args.tli (position walker) (length (take (length bytes - used) rest)) = λ page is_page from below.
    on page is_page (omega (arith, (c.new-walker.ensures.stands timeline).keeps.past, at, from)) (omega (
      arith,
      (c.new-walker.ensures.stands timeline).keeps.past,
      at,
      below,
      takes.1,
      length-drop used bytes,
      ap length part,
    )) in
    let all : (log ++ take used bytes) ++ take (length bytes - used) rest ≡ log ++ bytes = ap (λ (t : List ℕ). (log ++ take used bytes) ++ t)
    part ∙ append_assoc log (take used bytes) rest ∙ ap (λ (t : List ℕ). log ++ t) (take-append-drop used bytes) in
    subst (λ (t : List ℕ). IsAtStage ident timeline count floor t c.through_records.result) all
    (c.through_records.ensures timeline count (log ++ take used bytes) begun on_page next)
