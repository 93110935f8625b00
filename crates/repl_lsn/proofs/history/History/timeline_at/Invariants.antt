-- The timelines passed so far end at the position or before it.
use Rattle.std.proofs.Common.{◌≡◌, ℕ, ◌≤◌, drop, Option}
use Rattle.repl_lsn.specs.Path.{Holds}
use Rattle.repl_lsn.proofs.history.History.timeline_at.Given as goal

-- the rest of the path starts at the position or before it, and what the rest holds, the path holds
abbrev pub invariant-loop-part : goal.invariant-loop-part
invariant-loop-part l =
    record {
      parents : l.part-items ≡ l.self.parents;
      origin : ℕ;
      from : origin ≤ l.at;
      rest : (tli start : ℕ) (end : Option ℕ) → Holds origin (drop l.part-index l.self.parents) l.self.own tli start end
          → Holds 0 l.self.parents l.self.own tli start end;
    }
