-- What each turn of the loop in `unquoted` keeps, and that it ends.
use Rattle.std.proofs.Common.{length, ◌-◌}
use Rattle.repl_token.proofs.Quoting.{ReadsQuoted}
use Rattle.repl_token.proofs.quotes.unquoted.Given as goal

abbrev pub invariant-loop-size : goal.invariant-loop-size
invariant-loop-size l = ReadsQuoted l.quote l.rest l.from l.text.items

abbrev pub decreases-loop-size : goal.decreases-loop-size
decreases-loop-size l = length l.rest - l.from
