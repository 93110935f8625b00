-- What each turn of the loop in `count_streaming` keeps: those so far are counted.
use Rattle.std.proofs.Common.{◌≡◌, ◌≤◌, length, filter, take}
use Rattle.repl_sync.specs.State.{Session}
use Rattle.repl_sync.specs.Inside.{sessions_of}
use Rattle.repl_sync.proofs.session.count_streaming.Given as goal

abbrev pub invariant-loop-entry : goal.invariant-loop-entry
invariant-loop-entry l = record {
  counted : l.count ≡ length (filter (λ (s : Session). s.streaming) (sessions_of (take l.entry-index l.entries)));
  few : l.count ≤ l.entry-index;
}
