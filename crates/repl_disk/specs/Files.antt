-- The files of a disk in memory, as a list that is sorted by the names.
use Rattle.std.specs.Prelude.{◌≡◌, ℕ, suc, length, List, [], ◌∷◌, Option, Some, None, Result, Ok, Err, bytes_eq, if◌then◌else◌}
use Rattle.std.specs.Ordering.{nat_cmp}
use Rattle.std.specs.declared.cmp.Ordering.{Ordering}
use Rattle.std.specs.declared.cmp.Ordering.TheVariants.{Less, Equal, Greater}
use Rattle.std.specs.Cmp.Lexicographic.{slice_cmp}
use Rattle.repl_disk.specs.Folder.{Folder, IsBefore}
use Rattle.repl_disk.specs.Stored.{Cut, Stored, unwritten_all, undo_of, fresh, rewritten}

-- the file of a name, of which the first counts
abbrev pub found : List Stored → List ℕ → Option Stored
found [] = λ name. None
found (file ∷ files) = λ name. if bytes_eq name file.name then Some file else found files name

-- the files as they read
abbrev pub folder_of : List Stored → Folder
folder_of [] = λ name. None
folder_of (file ∷ files) = λ name. if bytes_eq name file.name then Some file.bytes else folder_of files name

-- what is certain of a file: nothing if it was made since its last sync
abbrev pub certain_of : Stored → Option (List ℕ)
certain_of file = if file.made then None else Some (unwritten_all file.undos file.bytes)

-- the same of the files of a list
abbrev pub certain_folder : List Stored → Folder
certain_folder [] = λ name. None
certain_folder (file ∷ files) = λ name. if bytes_eq name file.name then certain_of file else certain_folder files name

-- the name stands before that of each file
abbrev pub StandsBefore : List ℕ → List Stored → Type 0
StandsBefore name [] = Unit {0}
StandsBefore name (file ∷ files) = IsBefore name file.name × StandsBefore name files

-- sorted by the names, of which no two are the same
abbrev pub AreOrdered : List Stored → Type 0
AreOrdered [] = Unit {0}
AreOrdered (file ∷ files) = StandsBefore file.name files × AreOrdered files

-- ---- a place in the list

abbrev pub one_later : Result ℕ ℕ → Result ℕ ℕ
one_later (Ok place) = Ok (suc place)
one_later (Err place) = Err (suc place)

abbrev pub place_by : Ordering → Result ℕ ℕ → Result ℕ ℕ
place_by Less rest = one_later rest
place_by Equal rest = Ok 0
place_by Greater rest = Err 0

-- the place of the file with this name, or else the one where it would stand
abbrev pub place_of : List Stored → List ℕ → Result ℕ ℕ
place_of [] name = Err 0
place_of (file ∷ files) name = place_by (slice_cmp nat_cmp file.name name) (place_of files name)

-- ---- a change of one file

-- The list is sorted, the name has this file now, or none, and each other what it had.
pub record Changed (old new : List Stored) (name : List ℕ) (file : Option Stored) : Type 0 where
  pub ordered : AreOrdered new
  pub files : (other : List ℕ) → found new other ≡ (if bytes_eq other name then file else found old other)

-- the file of this name after a write, which makes it where it is not there
abbrev pub file_after : Option Stored → List ℕ → ℕ → List ℕ → Stored
file_after None name at bytes = fresh name at bytes
file_after (Some file) name at bytes = rewritten file at bytes

-- how that is taken back, where the file was there
abbrev pub undo_after : Option Stored → ℕ → List ℕ → Option Cut
undo_after None at bytes = None
undo_after (Some file) at bytes = Some (undo_of file.bytes at (length bytes))

-- the file's bytes
abbrev pub bytes_of : Option Stored → Option (List ℕ)
bytes_of None = None
bytes_of (Some file) = Some file.bytes
