-- What is read is named, and the first thing that is wrong.
use Rattle.std.proofs.Common.{rules, ◌<◌, ◌≤◌, arith}
use Rattle.std.proofs.lemmas.Grind.{common_steps}
use Rattle.std.proofs.lemmas.Result.{err_from_is_err_and}
use Rattle.repl_lsn.specs.Segment.{in_four_gib}
use Rattle.repl_lsn.proofs.Names.{numbers_of, names_read}
use Rattle.repl_lsn.proofs.NameFaults.{fault_in_timeline, fault_in_high, fault_in_low, fault_of_low, fault_past, no_lack, no_large_low, no_zero, only_these}
use Rattle.repl_lsn.proofs.segment.parse_seg_name.Goals as goal

pub returns-in_err-timeline-clause-only : goal.returns-in_err-timeline-clause-only
returns-in_err-timeline-clause-only c = λ tli seg named.
    let n = numbers_of c.args.size c.args.text.now tli seg c.in_four_gib-count.ensures.size named in
    absurd (no_lack c.args.size c.args.text.now tli seg 0 _ n (omega arith) c.in_err-timeline.ensures.refused)

pub returns-in_err-timeline-clause-refused : goal.returns-in_err-timeline-clause-refused
returns-in_err-timeline-clause-refused c =
    let exit = err_from_is_err_and c.from_residual.result c.from_residual.ensures.1 in
    rw (exit.1, exit.2) (fault_in_timeline c.args.size c.args.text.now _ c.in_err-timeline.ensures.refused)

pub returns-in_err-tli-clause-only : goal.returns-in_err-tli-clause-only
returns-in_err-tli-clause-only c = λ tli seg named.
    let none : 0 < c.in_ok-timeline.timeline → ⊥ = grind (arith, common_steps) in
    absurd (no_zero c.args.size c.args.text.now tli seg c.in_ok-timeline.timeline c.in_four_gib-count.ensures.size named
    c.in_ok-timeline.ensures.read none)

pub returns-in_err-high-clause-only : goal.returns-in_err-high-clause-only
returns-in_err-high-clause-only c = λ tli seg named.
    let n = numbers_of c.args.size c.args.text.now tli seg c.in_four_gib-count.ensures.size named in
    absurd (no_lack c.args.size c.args.text.now tli seg 8 _ n (omega arith) c.in_err-high.ensures.refused)

pub returns-in_err-high-clause-refused : goal.returns-in_err-high-clause-refused
returns-in_err-high-clause-refused c =
    let some : 0 < c.in_ok-timeline.timeline = search rules in
    let exit = err_from_is_err_and c.from_residual-in_err-high.result c.from_residual-in_err-high.ensures.1 in
    rw (exit.1, exit.2) (fault_in_high c.args.size c.args.text.now c.in_ok-timeline.timeline _ c.in_ok-timeline.ensures.read some
    c.in_err-high.ensures.refused)

pub returns-in_err-low-clause-only : goal.returns-in_err-low-clause-only
returns-in_err-low-clause-only c = λ tli seg named.
    let n = numbers_of c.args.size c.args.text.now tli seg c.in_four_gib-count.ensures.size named in
    absurd (no_lack c.args.size c.args.text.now tli seg 16 _ n (omega arith) c.in_err-low.ensures.refused)

pub returns-in_err-low-clause-refused : goal.returns-in_err-low-clause-refused
returns-in_err-low-clause-refused c =
    let some : 0 < c.in_ok-timeline.timeline = search rules in
    let exit = err_from_is_err_and c.from_residual-in_err-low.result c.from_residual-in_err-low.ensures.1 in
    rw (exit.1, exit.2) (fault_in_low c.args.size c.args.text.now c.in_ok-timeline.timeline c.in_ok-high.high _
    c.in_ok-timeline.ensures.read some c.in_ok-high.ensures.read c.in_err-low.ensures.refused)

pub returns-then-from-count-clause-only : goal.returns-then-from-count-clause-only
returns-then-from-count-clause-only c = λ tli seg named.
    let n = numbers_of c.args.size c.args.text.now tli seg c.in_four_gib-count.ensures.size named in
    let large : in_four_gib c.args.size ≤ c.in_ok-low.low = search rules in
    absurd (no_large_low c.args.size c.args.text.now tli seg c.in_ok-low.low c.in_four_gib-count.ensures.size n c.in_ok-low.ensures.read
    large)

pub returns-then-from-count-clause-refused : goal.returns-then-from-count-clause-refused
returns-then-from-count-clause-refused c =
    let some : 0 < c.in_ok-timeline.timeline = search rules in
    let large : in_four_gib c.args.size ≤ c.in_ok-low.low = search rules in
    fault_of_low c.args.size c.args.text.now c.in_ok-timeline.timeline c.in_ok-high.high c.in_ok-low.low c.in_ok-timeline.ensures.read some
    c.in_ok-high.ensures.read c.in_ok-low.ensures.read large

pub returns-then-text-gt-NAME_LENGTH-clause-only : goal.returns-then-text-gt-NAME_LENGTH-clause-only
returns-then-text-gt-NAME_LENGTH-clause-only c = λ tli seg named.
    let n = numbers_of c.args.size c.args.text.now tli seg c.in_four_gib-count.ensures.size named in
    absurd (omega (arith, n.long))

pub returns-then-text-gt-NAME_LENGTH-clause-refused : goal.returns-then-text-gt-NAME_LENGTH-clause-refused
returns-then-text-gt-NAME_LENGTH-clause-refused c =
    let some : 0 < c.in_ok-timeline.timeline = search rules in
    let below : c.in_ok-low.low < in_four_gib c.args.size = search rules in
    fault_past c.args.size c.args.text.now c.in_ok-timeline.timeline c.in_ok-high.high c.in_ok-low.low c.in_ok-timeline.ensures.read some
    c.in_ok-high.ensures.read c.in_ok-low.ensures.read below c.if-text-gt-NAME_LENGTH.true

pub returns-clause-read : goal.returns-clause-read
returns-clause-read c =
    let some : 0 < c.in_ok-timeline.timeline = search rules in
    let below : c.in_ok-low.low < in_four_gib c.args.size = search rules in
    let named = names_read c.args.size c.args.text.now c.in_ok-timeline.timeline c.in_ok-high.high c.in_ok-low.low
    c.in_four_gib-count.ensures.size c.in_ok-timeline.ensures.read c.in_ok-high.ensures.read c.in_ok-low.ensures.read some below
    c.if-text-gt-NAME_LENGTH.false in
    search rules

pub returns-clause-only : goal.returns-clause-only
returns-clause-only c = λ tli seg named.
    let n = numbers_of c.args.size c.args.text.now tli seg c.in_four_gib-count.ensures.size named in
    let same = only_these c.args.size c.args.text.now tli seg c.in_ok-timeline.timeline c.in_ok-high.high c.in_ok-low.low n
    c.in_ok-timeline.ensures.read c.in_ok-high.ensures.read c.in_ok-low.ensures.read in
    search (rules, same.0, same.1)
