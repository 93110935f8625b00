-- No timeline so far has the number.
use Rattle.std.proofs.Common.{◌≡◌, ◌≤◌, List, ◌∷◌, ◌++◌, length}
use Rattle.repl_lsn.specs.declared.history.Part.{Part}
use Rattle.repl_lsn.proofs.history.History.place_of.Given as goal

-- where the timeline stands among the parents, it stands no earlier
abbrev pub invariant-loop-place : goal.invariant-loop-place
invariant-loop-place l =
    record {
      parents : l.part-items ≡ l.self.parents;
      past : (before : List Part) (p : Part) (after : List Part) → l.self.parents ≡ before ++ p ∷ after → p.tli ≡ l.tli
          → l.place ≤ length before;
    }
