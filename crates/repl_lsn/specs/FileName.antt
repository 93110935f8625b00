-- Names of segments that are not whole, and the forms in which names of the log's files stand (PostgreSQL 17 manual, section
-- "WAL Internals").
use Rattle.std.specs.Prelude.{◌≡◌, ◌≢◌, ℕ, ◌^◌, ◌<◌, ◌⊎◌, List, ◌++◌, length, take, drop, codes}
use Rattle.repl_lsn.specs.Segment.{Fits, partial_name, Names, IsNameFault, AreDigits}

-- the text is the name of this segment that is not whole
pub record NamesPartial (size : ℕ) (text : List ℕ) (tli seg : ℕ) : Type 0 where
  pub timeline : (0 < tli) × (tli < 2 ^ 32)
  pub fits : Fits size seg
  pub named : text ≡ partial_name size tli seg

-- What is wrong with the name of a segment that is not whole: what is wrong with its first 24 bytes as the name of a segment,
-- and what stands after them.
abbrev pub IsPartialNameFault : ℕ → List ℕ → ℕ → Type 0
IsPartialNameFault size text place =
    IsNameFault size (take 24 text) place
    ⊎ ((place ≡ 24) × ((tli : ℕ) × (seg : ℕ) × Names size (take 24 text) tli seg) × (drop 24 text ≢ codes ".partial"))

-- so many digits, and this after them
pub record HasDigitsAnd (count : ℕ) (past name : List ℕ) : Type 0 where
  pub digits : List ℕ
  pub long : length digits ≡ count
  pub are : AreDigits digits
  pub parts : name ≡ digits ++ past

-- The forms in which names of the log's files stand: 24 digits, the same and `.partial`, or 8 digits and `.history`.
abbrev pub HasForm : List ℕ → Type 0
HasForm name = HasDigitsAnd 24 (codes "") name ⊎ HasDigitsAnd 24 (codes ".partial") name ⊎ HasDigitsAnd 8 (codes ".history") name
