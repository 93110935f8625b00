-- The calls that a disk in memory did, each with what takes it back. They stand in proofs alone: at run time a disk keeps
-- of its past what its files hold (Stored).
use Rattle.std.specs.Prelude.{ℕ, List, Option, None, length}
use Rattle.repl_disk.specs.Files.{folder_of, found, undo_after}
use Rattle.repl_disk.specs.Folder.{content, put}
use Rattle.repl_disk.specs.Stored.{Cut, Stored}

-- a call that changed files, or made them certain
pub data Done : Type 0 where
  -- so many bytes were written at this place; without an undo the file was made
  Wrote : List ℕ → ℕ → ℕ → Option Cut → Done
  Synced : List ℕ → Done
  -- the bytes of the file that had the second name are those taken
  Renamed : List ℕ → List ℕ → Option (List ℕ) → Done
  -- the file had the bytes that are taken
  Removed : List ℕ → List ℕ → Done

-- ---- a call, by the files before it

abbrev pub write_of : List Stored → List ℕ → ℕ → List ℕ → Done
write_of files name at bytes = Wrote name at (length bytes) (undo_after (found files name) at bytes)

abbrev pub rename_of : List Stored → List ℕ → List ℕ → Done
rename_of files from to = Renamed from to (put (folder_of files) from None to)

abbrev pub removal_of : List Stored → List ℕ → Done
removal_of files name = Removed name (content (folder_of files name))
