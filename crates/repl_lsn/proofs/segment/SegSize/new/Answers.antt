-- A power of two in the range is a size.
use Rattle.std.proofs.Common.{◌^◌, ◌≤◌, refl, sym, rules}
use Rattle.repl_lsn.specs.Segment.{IsSegSize}
use Rattle.repl_lsn.proofs.Sizes.{size_from_test, test_of_size}
use Rattle.repl_lsn.proofs.segment.SegSize.new.Goals as goal
use Rattle.repl_lsn.proofs.segment.SegSize.new.Goals.{Then-is_power_of_two, else-in_range-via-then-in_range+else-is_power_of_two, else-in_range-via-else-in_range}

is_size : (c : goal.Then-is_power_of_two) → IsSegSize c.args.bytes
is_size c =
    let least : 2 ^ 20 ≤ c.args.bytes = search rules in
    let most : c.args.bytes ≤ 2 ^ 30 = search rules in
    size_from_test c.args.bytes (sym c.if-is_power_of_two.ensures) least most

pub invariant_of-result : goal.invariant_of-result
invariant_of-result c = is_size c

pub returns-then-is_power_of_two : goal.returns-then-is_power_of_two
returns-then-is_power_of_two c = (is_size c, refl)

pub returns-else-in_range : goal.returns-else-in_range
returns-else-in_range c = λ h. elim c.else-in_range.branch [
  | else-in_range-via-then-in_range+else-is_power_of_two w ↦ let test = test_of_size c.args.bytes h in let other =
      w.if-is_power_of_two.ensures in cc
  | else-in_range-via-else-in_range w ↦ let out = w.if-in_range.ensures in search rules
]
