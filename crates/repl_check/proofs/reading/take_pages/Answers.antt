-- Each page is taken on the timeline of its first byte.
use Rattle.std.proofs.Common.{◌≡◌, ℕ, ◌+◌, ◌-◌, ◌%◌, ◌≤◌, ◌⊎◌, List, ◌++◌, length, take, drop, ap, ◌∙◌, subst, inl, inr, arith, length-drop}
use Rattle.std.proofs.lemmas.Bool.{cases_lt}
use Rattle.std.proofs.lemmas.List.{length-take, take_all}
use Rattle.repl_lsn.specs.Path.{timeline_at}
use Rattle.repl_check.specs.Machine.{HasJudged, check_position}
use Rattle.repl_check.proofs.Pieces.{given_more, page_on}
use Rattle.repl_check.proofs.reading.take_pages.Goals as goal

pub take-requires-clause-judging : goal.take-requires-clause-judging
take-requires-clause-judging c =
    let taken = c.requires.taken in (
      timeline_at c.args.path.now,
      record {
        floor = taken.floor;
        log = taken.log ++ take c.pages.used c.args.bytes.now;
        judged = c.pages.invariant.judged taken.floor taken.log taken.judged;
      },
    )

pub pages-preserved : goal.pages-preserved
pages-preserved c =
    let timeline : ℕ → ℕ = timeline_at c.args.path.now in
    let bytes = c.args.bytes.now in
    let used = c.pages.used in
    let end = c.min-end.result in
    let given = c.pages.invariant in
    let some = c.pages-test.true in
    let part = take (end - used) (drop used bytes) in
    let least = c.min-end.ensures in
    let above : used ≤ end = omega (arith, least, some) in
    let within : end ≤ length bytes = omega (arith, least) in
    let few : end ≤ used + 8192 = omega (arith, least) in
    let counted : length part ≡ end - used = omega (arith, length-take (end - used) (drop used bytes), length-drop used bytes, within) in
    let whole : (end ≡ used + 8192) ⊎ (end ≡ length bytes) = elim (cases_lt (used + 8192) (length bytes)) [
      | inl page ↦ inl (omega (arith, least))
      | inr all ↦ inr (omega (arith, least))
    ] in
    let aligned : check_position c.pages.check % 8192 ≡ 0 = elim given.full [
      | inl all ↦ absurd (omega (arith, some))
      | inr pages ↦ omega (arith, given.at, c.requires.page, pages)
    ] in
    let told = c.timeline_at-tli.ensures.value ∙ ap timeline c.position.ensures in
    given_more c.args.check.now c.pages.check c.take.new.self timeline bytes used end given some above within whole c.take.ensures.ident
    (c.take.ensures.position ∙ ap (λ (n : ℕ). check_position c.pages.check + n) counted) (λ floor log was.
    c.take.ensures.judged timeline floor log was (page_on timeline c.timeline_at-tli.result (check_position c.pages.check) (length part) aligned
    (omega (arith, counted, few)) told))

pub returns-clause-judged : goal.returns-clause-judged
returns-clause-judged c floor log judged =
    let bytes = c.args.bytes.now in
    let all : take c.pages.used bytes ≡ bytes = take_all c.pages.used bytes (omega (arith, c.pages-test.false)) in
    subst (λ (t : List ℕ). HasJudged c.pages.check (timeline_at c.args.path.now) floor (log ++ t)) all
    (c.pages.invariant.judged floor log judged)
