-- The bytes so far are digits, and what they write.
use Rattle.std.proofs.Common.{◌≡◌, ◌-◌, ◌^◌, true, min, take}
use Rattle.std.specs.Char.{is_ascii_digit}
use Rattle.std.specs.List.{All}
use Rattle.std.specs.Str.Parse.{digits_value}
use Rattle.repl_lsn.proofs.history_line.decimal_value.Given as goal

abbrev pub invariant-loop-digit : goal.invariant-loop-digit
invariant-loop-digit l = record {
  digits : All (λ c. is_ascii_digit c ≡ true) (take l.digit-index l.digits);
  value : l.value ≡ min (digits_value 10 (take l.digit-index l.digits)) (2 ^ 64 - 1);
}
