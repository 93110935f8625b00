-- What the loop of `gather` keeps: what was lost is what stands in the buffer, and the other reads were quiet.
use Rattle.std.proofs.Common.{◌-◌, ◌≤◌, vec_len}
use Rattle.repl_effects.specs.Counts.{RoseBy, Stood}
use Rattle.repl_effects.specs.Told.{Lost}
use Rattle.repl_filter.proofs.gather.gather.Given as goal

abbrev pub invariant-loop : goal.invariant-loop
invariant-loop g l = record {
  few : vec_len l.bytes ≤ l.fn.limit;
  lost : Lost (g.S.Source.source l.initial.input).left (g.S.Source.source l.input).left l.bytes.items;
  quiets : RoseBy (l.counter - vec_len l.bytes) (g.S.Source.source l.initial.input).quiets (g.S.Source.source l.input).quiets;
  faults : Stood (g.S.Source.source l.initial.input).faults (g.S.Source.source l.input).faults;
}
