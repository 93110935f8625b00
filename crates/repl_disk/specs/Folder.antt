-- A folder's files: what each name holds, if it is there.
use Rattle.std.specs.Prelude.{◌≡◌, ℕ, ◌+◌, ◌-◌, ◌<◌, ◌⊎◌, ◌↔◌, List, [], ◌∷◌, ◌++◌, length, take, drop, replicate, min, Option, Some, None, IsSome, bytes_eq, if◌then◌else◌, Contains}
use Rattle.std.specs.Option.{option_map}

abbrev pub Folder : Type 0
Folder = List ℕ → Option (List ℕ)

-- no file is there
abbrev pub empty : Folder
empty = λ name. None

-- the name holds this, or is not there, and every other is as it was
abbrev pub put : Folder → List ℕ → Option (List ℕ) → Folder
put folder name content = λ other. if bytes_eq other name then content else folder other

-- the file of the first name has the second, whose own file is gone
abbrev pub moved : Folder → List ℕ → List ℕ → Folder
moved folder from to = put (put folder from None) to (folder from)

-- the bytes, if the name is there, and none else
abbrev pub content : Option (List ℕ) → List ℕ
content None = []
content (Some bytes) = bytes

-- with these bytes at this place; zeros stand between the old end and the place
abbrev pub overwritten : List ℕ → ℕ → List ℕ → List ℕ
overwritten old at bytes = take at old ++ replicate (at - length old) 0 ++ bytes ++ drop (at + length bytes) old

-- the same of a file, which is made where it is not there
abbrev pub written : Folder → List ℕ → ℕ → List ℕ → Folder
written folder name at bytes = put folder name (Some (overwritten (content (folder name)) at bytes))

-- ---- what is read

-- from this place on the file has so many bytes for the room, and its end or the room's stands after them
pub record ReadsAt (file : Option (List ℕ)) (at count : ℕ) (before after : List ℕ) : Type 0 where
  pub bytes : List ℕ
  pub there : file ≡ Some bytes
  pub counted : count ≡ min (length before) (length bytes - at)
  pub read : after ≡ take count (drop at bytes) ++ drop count before

-- the first name stands before the second, byte by byte
abbrev pub IsBefore : List ℕ → List ℕ → Type 0
IsBefore [] [] = ⊥
IsBefore [] (b ∷ bs) = Unit {0}
IsBefore (a ∷ rest) [] = ⊥
IsBefore (a ∷ rest) (b ∷ bs) = (a < b) ⊎ ((a ≡ b) × IsBefore rest bs)

abbrev pub AreSorted : List (List ℕ) → Type 0
AreSorted [] = Unit {0}
AreSorted (a ∷ []) = Unit {0}
AreSorted (a ∷ b ∷ names) = IsBefore a b × AreSorted (b ∷ names)

-- these are the names that are there, sorted by their bytes
pub record AreNames (folder : Folder) (names : List (List ℕ)) : Type 0 where
  pub sorted : AreSorted names
  pub all : (name : List ℕ) → Contains names name ↔ IsSome (folder name)

-- ---- where an object tells its files

abbrev pub ToldFiles : Type 0
ToldFiles = Option Folder

abbrev pub IfTold : ToldFiles → (Folder → Type 0) → Type 0
IfTold None P = Unit {0}
IfTold (Some folder) P = P folder

-- the files after an effect
abbrev pub Became : ToldFiles → ToldFiles → (Folder → Folder) → Type 0
Became before now effect = now ≡ option_map effect before

-- the files are as they were
abbrev pub Stayed : ToldFiles → ToldFiles → Type 0
Stayed before now = now ≡ before
