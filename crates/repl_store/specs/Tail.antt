-- The tail of what was written, which is not certain yet: it stands in one segment.
use Rattle.std.specs.Prelude.{◌≡◌, ℕ, ◌+◌, ◌/◌, min, List, Some}
use Rattle.repl_store.specs.Backing.{State, appended}
use Rattle.repl_store.specs.Durable.{segment_file}
use Rattle.repl_store.specs.Head.{Head, IsAt}

-- the file in which the written end stands
abbrev pub end_file : Head → List ℕ
end_file head = segment_file head.size head.path (head.written / head.size)

-- the name of that file is there, and what is not synced stands in it
pub record IsReady (head : Head) : Type 0 where
  pub named : head.unsynced ≡ Some (end_file head)
  pub one : head.synced / head.size ≡ head.written / head.size

-- the same store, with as many bytes synced
abbrev pub KeepsEnds : Head → Head → Type 0
KeepsEnds old new = IsAt old new old.written × (new.synced ≡ old.synced)

-- the same store, whose bytes are all synced
abbrev pub SyncsAll : Head → Head → Type 0
SyncsAll old new = IsAt old new old.written × (new.synced ≡ old.written)

-- the same store, with so many bytes more, none of which is synced
abbrev pub Grows : Head → Head → ℕ → Type 0
Grows old new count = IsAt old new (old.written + count) × (new.synced ≡ old.synced)

-- bytes past this position are forgotten
abbrev pub PutsBack : Head → Head → ℕ → Type 0
PutsBack old new written = IsAt old new written × (new.synced ≡ min old.synced written)

-- some bytes were appended
abbrev pub SomeAppended : State → State → Type 0
SomeAppended s t = (more : List ℕ) × (t ≡ appended s more)
