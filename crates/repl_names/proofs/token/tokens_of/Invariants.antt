-- What each turn of the loop in `tokens_of` keeps, and that it ends.
use Rattle.std.proofs.Common.{length, ◌-◌}
use Rattle.repl_token.proofs.Leading.{Leads}
use Rattle.repl_names.specs.Token.{list_class, list_token}
use Rattle.repl_names.proofs.token.tokens_of.Given as goal

abbrev pub invariant-loop-tokens : goal.invariant-loop-tokens
invariant-loop-tokens l = Leads list_class list_token l.text l.tokens.items l.at

abbrev pub decreases-loop-tokens : goal.decreases-loop-tokens
decreases-loop-tokens l = length l.text - l.at
