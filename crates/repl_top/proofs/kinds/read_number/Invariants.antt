-- The value is that of the digits so far.
use Rattle.repl_top.proofs.Digits.{ReadsDigits}
use Rattle.repl_top.proofs.kinds.read_number.Given as goal

abbrev pub invariant-loop-byte : goal.invariant-loop-byte
invariant-loop-byte l = ReadsDigits l.fn.base l.byte-items l.byte-index l.value
