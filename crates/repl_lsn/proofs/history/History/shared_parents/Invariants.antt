-- The steps so far are shared.
use Rattle.std.proofs.Common.{◌≡◌, length, map, take}
use Rattle.repl_lsn.specs.Path.{step}
use Rattle.repl_lsn.proofs.history.History.shared_parents.Given as goal

abbrev pub invariant-loop-mine : goal.invariant-loop-mine
invariant-loop-mine l =
    record {
      next : (goal.iterator-loop-mine).can_next l.mine-iterator;
      finite : (goal.iterator-loop-mine).is_finite l.mine-iterator;
      count : l.shared ≡ length l.yielded;
      same : take l.shared (map step l.self.parents) ≡ take l.shared (map step l.other.parents);
    }
