-- What a disk in memory keeps of a file, and of each write into it so that it can be taken back.
use Rattle.std.specs.Prelude.{ℕ, ◌+◌, ◌≤◌, min, Bool, true, false, not, List, [], ◌∷◌, ◌++◌, length, take, drop}
use Rattle.repl_disk.specs.Folder.{overwritten}

-- The bytes that a write wrote over, the place where they stood, and how many bytes the file had. The place is the first
-- that was written, or the file's end where that is before it.
pub record Cut : Type 0 where
  pub at : ℕ
  pub cut : List ℕ
  pub len : ℕ

-- A file: its name, its bytes, whether it was made since its last sync, and the writes since then, the latest first.
pub record Stored : Type 0 where
  pub name : List ℕ
  pub bytes : List ℕ
  pub made : Bool
  pub undos : List Cut

-- a file's bytes before a write
abbrev pub unwritten : Cut → List ℕ → List ℕ
unwritten undo now = take undo.len (take undo.at now ++ undo.cut ++ drop (undo.at + length undo.cut) now)

-- a file's bytes before these writes, of which the latest comes first
abbrev pub unwritten_all : List Cut → List ℕ → List ℕ
unwritten_all [] now = now
unwritten_all (undo ∷ earlier) now = unwritten_all earlier (unwritten undo now)

-- the bytes that each wrote over stood within the file
abbrev pub AreWithin : List Cut → List ℕ → Type 0
AreWithin [] now = Unit {0}
AreWithin (undo ∷ earlier) now = (undo.at + length undo.cut ≤ length now) × AreWithin earlier (unwritten undo now)

-- ---- one file

-- how a write of so many bytes at this place is taken back
abbrev pub undo_of : List ℕ → ℕ → ℕ → Cut
undo_of old at count = record { at = min at (length old); cut = take count (drop at old); len = length old }

-- after a write
abbrev pub rewritten : Stored → ℕ → List ℕ → Stored
rewritten file at bytes = record {
  name = file.name;
  bytes = overwritten file.bytes at bytes;
  made = file.made;
  undos = undo_of file.bytes at (length bytes) ∷ file.undos;
}

-- made by a first write
abbrev pub fresh : List ℕ → ℕ → List ℕ → Stored
fresh name at bytes = record { name = name; bytes = overwritten [] at bytes; made = true; undos = [] }

-- with no write to take back
abbrev pub settled : Stored → Stored
settled file = record { name = file.name; bytes = file.bytes; made = false; undos = [] }

-- as it was before the writes since its last sync
abbrev pub reverted : Stored → Stored
reverted file = record { name = file.name; bytes = unwritten_all file.undos file.bytes; made = false; undos = [] }

abbrev pub renamed : Stored → List ℕ → Stored
renamed file name = record { name = name; bytes = file.bytes; made = file.made; undos = file.undos }

-- it was not made since its last sync
abbrev pub is_kept : Stored → Bool
is_kept file = not file.made
