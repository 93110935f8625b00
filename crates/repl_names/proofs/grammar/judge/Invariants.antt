-- What each turn of the loop in `judge` keeps, and that it ends.
use Rattle.std.proofs.Common.{◌≡◌, take, Some}
use Rattle.repl_names.specs.declared.grammar.State.TheVariants as state
use Rattle.repl_names.proofs.GrammarWalk.{goes}
use Rattle.repl_names.proofs.grammar.judge.Given as goal

abbrev pub invariant-loop-index : goal.invariant-loop-index
invariant-loop-index l = goes (Some state.Start) (take l.index l.tokens) ≡ Some l.state
