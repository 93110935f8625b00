-- Segments of the log and the names of its files (PostgreSQL 17 manual, section "WAL Internals").
use Rattle.std.specs.Prelude.{◌≡◌, ◌≢◌, ℕ, ◌+◌, ◌*◌, ◌/◌, ◌%◌, ◌^◌, ◌<◌, ◌≤◌, ◌⊎◌, true, List, [], ◌∷◌, ◌++◌, get_or, length, take, drop, replicate, ◌-◌, codes, All}
use Rattle.std.specs.Char.{digit_value}
use Rattle.std.specs.Fmt.{digits}
use Rattle.std.specs.Str.Parse.{digits_value}

-- a power of two from 1 MiB to 1 GiB
pub record IsSegSize (size : ℕ) : Type 0 where
  pub exponent : ℕ
  pub power : size ≡ 2 ^ exponent
  pub least : 2 ^ 20 ≤ size
  pub most : size ≤ 2 ^ 30

-- what `SHOW wal_segment_size` says of a size, by the number of megabytes
abbrev pub settings : List (List ℕ)
settings =
    codes "1MB" ∷ codes "2MB" ∷ codes "4MB" ∷ codes "8MB" ∷ codes "16MB" ∷ codes "32MB" ∷ codes "64MB" ∷ codes "128MB" ∷ codes "256MB"
    ∷ codes "512MB" ∷ codes "1GB" ∷ []

-- the text is that of the size of 2 ^ log2 bytes
abbrev pub IsSettingOf : List ℕ → ℕ → Type 0
IsSettingOf text log2 = (20 ≤ log2) × (log2 ≤ 30) × (text ≡ get_or settings (log2 - 20) [])

-- the text is that of the size
abbrev pub IsSetting : List ℕ → ℕ → Type 0
IsSetting text size = (log2 : ℕ) × IsSettingOf text log2 × (size ≡ 2 ^ log2)

-- the segment starts below 2^64
abbrev pub Fits : ℕ → ℕ → Type 0
Fits size seg = seg * size < 2 ^ 64

-- how many segments 2^32 bytes of the log have
abbrev pub in_four_gib : ℕ → ℕ
in_four_gib size = 2 ^ 32 / size

-- eight hexadecimal digits in upper case
abbrev pub eight : ℕ → List ℕ
eight n = replicate (8 - length (digits 16 true n)) 48 ++ digits 16 true n

-- a segment's name: its timeline, and its number by the 2^32 bytes in which it is and its place among them
abbrev pub segment_name : ℕ → ℕ → ℕ → List ℕ
segment_name size tli seg = eight tli ++ eight (seg / in_four_gib size) ++ eight (seg % in_four_gib size)

-- the name of a timeline's history
abbrev pub history_name : ℕ → List ℕ
history_name tli = eight tli ++ codes ".history"

-- the name of a segment that is not whole, since its timeline was left in it
abbrev pub partial_name : ℕ → ℕ → ℕ → List ℕ
partial_name size tli seg = segment_name size tli seg ++ codes ".partial"

-- the text is the name of this timeline's history
pub record NamesHistory (text : List ℕ) (tli : ℕ) : Type 0 where
  pub timeline : (0 < tli) × (tli < 2 ^ 32)
  pub named : text ≡ history_name tli

-- a file of the log's, and its name where segments are so large
pub data LogFile : Type 0 where
  segment : ℕ → ℕ → LogFile
  partial : ℕ → ℕ → LogFile
  history : ℕ → LogFile

abbrev pub file_name : ℕ → LogFile → List ℕ
file_name size (segment tli seg) = segment_name size tli seg
file_name size (partial tli seg) = partial_name size tli seg
file_name size (history tli) = history_name tli

abbrev pub IsLogFile : ℕ → LogFile → Type 0
IsLogFile size (segment tli seg) = (0 < tli) × (tli < 2 ^ 32) × Fits size seg
IsLogFile size (partial tli seg) = (0 < tli) × (tli < 2 ^ 32) × Fits size seg
IsLogFile size (history tli) = (0 < tli) × (tli < 2 ^ 32)

-- the text is the name of this segment
pub record Names (size : ℕ) (text : List ℕ) (tli seg : ℕ) : Type 0 where
  pub timeline : (0 < tli) × (tli < 2 ^ 32)
  pub fits : Fits size seg
  pub named : text ≡ segment_name size tli seg

-- ---- refusals

-- a digit, 0 to 9 or A to F
abbrev pub IsDigit : ℕ → Type 0
IsDigit c = (digit_value c < 16) × (c < 97)

-- the bytes are such digits
abbrev pub AreDigits : List ℕ → Type 0
AreDigits text = All IsDigit text

-- the number that eight digits from this place on write
abbrev pub number_at : List ℕ → ℕ → ℕ
number_at text place = digits_value 16 (take 8 (drop place text))

-- up to this place, and no further than 24, the text has digits, and there it has none
pub record LacksDigit (text : List ℕ) (place : ℕ) : Type 0 where
  pub inside : place < 24
  pub before : AreDigits (take place text)
  pub enough : place ≤ length text
  pub none : ¬ AreDigits (take 1 (drop place text)) ⊎ (length text ≡ place)

-- What is wrong with a name, judged number by number: a digit that is wrong or missing, a timeline 0, a third number
-- that is too large, and bytes after it.
abbrev pub IsNameFault : ℕ → List ℕ → ℕ → Type 0
IsNameFault size text place =
    (LacksDigit text place × (8 ≤ place → 0 < number_at text 0))
    ⊎ ((place ≡ 0) × (8 ≤ length text) × AreDigits (take 8 text) × (number_at text 0 ≡ 0))
    ⊎ ((place ≡ 16) × (24 ≤ length text) × AreDigits (take 24 text) × (0 < number_at text 0) × (in_four_gib size ≤ number_at text 16))
    ⊎ ((place ≡ 24) × (24 < length text) × AreDigits (take 24 text) × (0 < number_at text 0) × (number_at text 16 < in_four_gib size))

-- ---- one number of a name

-- eight digits stand from this place on, and write the number
pub record IsNumberAt (text : List ℕ) (start number : ℕ) : Type 0 where
  pub within : start + 8 ≤ length text
  pub digits : AreDigits (take 8 (drop start text))
  pub value : number ≡ number_at text start

-- digits stand from the start up to this place, fewer than eight, and there none does
pub record LacksDigitFrom (text : List ℕ) (start place : ℕ) : Type 0 where
  pub above : start ≤ place
  pub few : place < start + 8
  pub within : place ≤ length text
  pub before : AreDigits (take (place - start) (drop start text))
  pub none : ¬ AreDigits (take 1 (drop place text)) ⊎ (length text ≡ place)

-- What is wrong with the name of a history: a digit that is wrong or missing, a timeline 0, and what stands after the
-- digits.
abbrev pub IsHistoryNameFault : List ℕ → ℕ → Type 0
IsHistoryNameFault text place =
    LacksDigitFrom text 0 place
    ⊎ ((place ≡ 0) × IsNumberAt text 0 0)
    ⊎ ((place ≡ 8) × ((tli : ℕ) × (0 < tli) × IsNumberAt text 0 tli) × (drop 8 text ≢ codes ".history"))
