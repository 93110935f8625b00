-- What is read is named, and the first thing that is wrong.
use Rattle.std.proofs.Common.{◌≡◌, rules, ◌<◌, refl, inr, sym, ap, ◌∙◌, subst, drop, codes, Ok, arith}
use Rattle.std.proofs.lemmas.Grind.{common_steps}
use Rattle.repl_lsn.specs.Segment.{NamesHistory}
use Rattle.repl_lsn.proofs.HistoryNames.{lacks_none, number_of_name, past_is, name_read, suffix_tested}
use Rattle.repl_lsn.proofs.file_names.parse_history_name.Goals as goal

pub returns-in_err-timeline-clause-only : goal.returns-in_err-timeline-clause-only
returns-in_err-timeline-clause-only c = λ tli n. absurd (lacks_none c.args.text.now tli _ n c.in_err-timeline.ensures.refused)

pub returns-in_err-tli-clause-only : goal.returns-in_err-tli-clause-only
returns-in_err-tli-clause-only c = λ tli n.
    let none : 0 < c.in_ok-timeline.timeline → ⊥ = grind (arith, common_steps) in
    absurd (none (omega (
      arith,
      number_of_name c.args.text.now tli c.in_ok-timeline.timeline n c.in_ok-timeline.ensures.read,
      n.timeline.0,
    )))

pub returns-then-ne-clause-only : goal.returns-then-ne-clause-only
returns-then-ne-clause-only c = λ tli n.
    absurd ((suffix_tested c.args.text.now c.ne.result c.ne.ensures).0 c.if-ne.true (past_is c.args.text.now tli n))

pub returns-then-ne-clause-refused : goal.returns-then-ne-clause-refused
returns-then-ne-clause-refused c =
    let some : 0 < c.in_ok-timeline.timeline = search rules in
    inr (inr (
      refl,
      (c.in_ok-timeline.timeline, some, c.in_ok-timeline.ensures.read),
      (suffix_tested c.args.text.now c.ne.result c.ne.ensures).0 c.if-ne.true,
    ))

pub returns-clause-read : goal.returns-clause-read
returns-clause-read c =
    let some : 0 < c.in_ok-timeline.timeline = search rules in
    let same : c.in_ok-timeline.timeline ≡ c.in_ok-tli.tli = search rules in
    let past : drop 8 c.args.text.now ≡ codes ".history" =
    (suffix_tested c.args.text.now c.ne.result c.ne.ensures).1 c.if-ne.false in
    subst (NamesHistory c.args.text.now) same (name_read c.args.text.now c.in_ok-timeline.timeline c.in_ok-timeline.ensures.read some
    past)

pub returns-clause-only : goal.returns-clause-only
returns-clause-only c = λ tli n.
    let same : c.in_ok-timeline.timeline ≡ c.in_ok-tli.tli = search rules in
    let number = number_of_name c.args.text.now tli c.in_ok-timeline.timeline n c.in_ok-timeline.ensures.read in
    ap Ok (sym same ∙ number)
