-- What each turn of the loop in `put_quoted` keeps, and that it ends.
use Rattle.std.proofs.Common.{◌≡◌, ◌≤◌, ◌∷◌, ◌++◌, flat_map, length}
use Rattle.repl_token.specs.Token.{doubled}
use Rattle.repl_token.proofs.quotes.put_quoted.Given as goal

abbrev pub invariant-loop-place : goal.invariant-loop-place
invariant-loop-place l = record {
  within : length l.rest ≤ length l.text;
  spelled : l.out.items ++ flat_map (doubled l.quote) l.rest ≡ l.fn.out.items ++ l.quote ∷ flat_map (doubled l.quote) l.text;
}

abbrev pub decreases-loop-place : goal.decreases-loop-place
decreases-loop-place l = length l.rest
