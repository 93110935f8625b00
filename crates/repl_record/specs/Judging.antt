-- What is judged of the log's bytes from a record's image on, when, and where the record ends. All is said of a list's
-- last byte: a page header, the length, the start of the record before and the two reserved bytes are judged when they
-- are whole, the checksum when all of the record's bytes are there, and each byte of the gap by itself.
use Rattle.std.specs.Prelude.{◌≡◌, ◌≢◌, ℕ, ◌+◌, ◌-◌, ◌%◌, ◌<◌, ◌≤◌, ◌⊎◌, List, ◌++◌, length, take, drop, get_or}
use Rattle.repl_page.specs.declared.ident.Ident.{Ident}
use Rattle.repl_page.specs.declared.fault.PageFault.{PageFault}
use Rattle.repl_page.specs.Page.{IsPage, page_start, header_length}
use Rattle.repl_page.specs.Header.{IsPageFault, header_of, field}
use Rattle.repl_record.specs.declared.record.RecordIn.{RecordIn}
use Rattle.repl_record.specs.declared.record.TheConstants.{BODY_LIMIT}
use Rattle.repl_record.specs.declared.answer.WalkReason.{WalkReason}
use Rattle.repl_record.specs.declared.answer.WalkReason.TheVariants as why
use Rattle.repl_record.specs.declared.answer.WalkStep.{WalkStep}
use Rattle.repl_record.specs.declared.answer.WalkStep.TheVariants as step
use Rattle.repl_record.specs.Checksum.{checksum}
use Rattle.repl_record.specs.Record.{content, start_of, from_page, remaining, IsImage, LastIsContent}

-- ---- fields of a record, of which these are the first bytes

abbrev pub length_field : List ℕ → ℕ
length_field bytes = field 0 4 bytes

-- a record's length may be this
abbrev pub IsLength : ℕ → Type 0
IsLength total = (24 ≤ total) × (total ≤ BODY_LIMIT + 24)

abbrev pub HasLength : List ℕ → Type 0
HasLength bytes = IsLength (length_field bytes)

-- the checksum of the body and then of the first 20 bytes
abbrev pub computed_sum : List ℕ → ℕ
computed_sum bytes = checksum (drop 24 bytes ++ take 20 bytes)

-- ---- what ends with the last byte

-- the record's byte of this number, from 1, is the last of the log
pub record Ends (size from count : ℕ) (log : List ℕ) : Type 0 where
  pub count_is : length (content size from log) ≡ count
  pub last : LastIsContent size from log

-- the header of a page that began in the log ends, and its fields differ from what is due there
pub record IsHeaderFault (ident : Ident) (timeline : ℕ → ℕ) (from : ℕ) (log : List ℕ) (why : PageFault) : Type 0 where
  pub page : ℕ
  pub is_page : IsPage page
  pub began : from ≤ page
  pub ended : from + length log ≡ page + header_length ident.size page
  pub within : (page ≡ from) ⊎ (HasLength (content ident.size from log)
      × (length (content ident.size from log) < length_field (content ident.size from log)))
  pub fault : IsPageFault (header_of ident (timeline page) page (remaining ident.size (length_field (content ident.size from log)) from log
      page)) (from_page from log page) why

-- the last byte of the log, which begins with the image of a record after one that starts at prev, makes this wrong
abbrev pub IsFaultAt : Ident → (ℕ → ℕ) → ℕ → ℕ → List ℕ → WalkReason → Type 0
IsFaultAt ident timeline from prev log (why.Page fault) = IsHeaderFault ident timeline from log fault
IsFaultAt ident timeline from prev log (why.Length found) =
    let bytes = content ident.size from log in
    Ends ident.size from 4 log × (found ≡ length_field bytes) × ¬ IsLength found
IsFaultAt ident timeline from prev log (why.Prev found expected) =
    let bytes = content ident.size from log in
    Ends ident.size from 16 log × HasLength bytes × (found ≡ field 8 8 bytes) × (expected ≡ prev) × (found ≢ expected)
IsFaultAt ident timeline from prev log why.Reserved =
    let bytes = content ident.size from log in
    Ends ident.size from 20 log × HasLength bytes × (field 18 2 bytes ≢ 0)
IsFaultAt ident timeline from prev log (why.Checksum found computed) =
    let bytes = content ident.size from log in
    Ends ident.size from (length_field bytes) log × HasLength bytes × (found ≡ field 20 4 bytes) × (computed ≡ computed_sum bytes)
    × (found ≢ computed)
IsFaultAt ident timeline from prev log why.Padding =
    let bytes = content ident.size from log in
    LastIsContent ident.size from log × HasLength bytes × (length_field bytes < length bytes) × (get_or log (length log - 1) 0 ≢ 0)

-- the log ends where a record does: all of its bytes are there, and the next multiple of 8 is reached
pub record IsOver (size from : ℕ) (log : List ℕ) : Type 0 where
  pub right : HasLength (content size from log)
  pub all : length_field (content size from log) ≤ length (content size from log)
  pub last : LastIsContent size from log
  pub rounded : (from + length log) % 8 ≡ 0

-- ---- answers

-- nothing is wrong at the log's last byte
abbrev pub IsRight : Ident → (ℕ → ℕ) → ℕ → ℕ → List ℕ → Type 0
IsRight ident timeline from prev log = (reason : WalkReason) → ¬ IsFaultAt ident timeline from prev log reason

-- up to this many bytes of the log, but for the last, no record ends and nothing is wrong
abbrev pub IsOpenBefore : Ident → (ℕ → ℕ) → ℕ → ℕ → List ℕ → ℕ → Type 0
IsOpenBefore ident timeline from prev log n =
    (m : ℕ) → m < n → (¬ IsOver ident.size from (take m log)) × IsRight ident timeline from prev (take m log)

-- the log is less than a record's image, and nothing that can be judged of it is wrong
abbrev pub IsBeginning : Ident → (ℕ → ℕ) → ℕ → ℕ → List ℕ → Type 0
IsBeginning ident timeline from prev log = IsOpenBefore ident timeline from prev log (length log + 1)

-- the place of a fault at the log's end: the page's address, or where the record begins
abbrev pub place_of : ℕ → ℕ → List ℕ → WalkReason → ℕ
place_of size from log (why.Page fault) = page_start (from + length log - 1)
place_of size from log (why.Length found) = start_of size from
place_of size from log (why.Prev found expected) = start_of size from
place_of size from log why.Reserved = start_of size from
place_of size from log (why.Checksum found computed) = start_of size from
place_of size from log why.Padding = start_of size from

-- the first fault of the log stands at the end of its first n bytes, and no record ends before
pub record IsFirstFault (ident : Ident) (timeline : ℕ → ℕ) (from prev : ℕ) (log : List ℕ) (at : ℕ) (reason : WalkReason) : Type 0 where
  pub n : ℕ
  pub within : n ≤ length log
  pub first : IsOpenBefore ident timeline from prev log n
  pub fault : IsFaultAt ident timeline from prev (take n log) reason
  pub place : at ≡ place_of ident.size from (take n log) reason

-- a record's image stands at the front of the log, up to this position
pub record IsWhole (ident : Ident) (timeline : ℕ → ℕ) (from prev : ℕ) (log : List ℕ) (start end : ℕ) : Type 0 where
  pub item : RecordIn
  pub begins : start ≡ start_of ident.size from
  pub after : from < end
  pub within : end ≤ from + length log
  pub first : IsOpenBefore ident timeline from prev log (end - from)
  pub image : IsImage ident timeline from prev item (take (end - from) log)

-- what is answered of the log from a record's image on
abbrev pub Answers : Ident → (ℕ → ℕ) → ℕ → ℕ → List ℕ → WalkStep → Type 0
Answers ident timeline from prev log (step.Whole start end used) = IsWhole ident timeline from prev log start end
Answers ident timeline from prev log step.Short = IsBeginning ident timeline from prev log
Answers ident timeline from prev log (step.Bad at reason) = IsFirstFault ident timeline from prev log at reason

-- two answers are one, but for how many bytes the last call took
abbrev pub IsSameAnswer : WalkStep → WalkStep → Type 0
IsSameAnswer (step.Whole start end used) (step.Whole start' end' used') = (start ≡ start') × (end ≡ end')
IsSameAnswer (step.Whole start end used) step.Short = ⊥
IsSameAnswer (step.Whole start end used) (step.Bad at reason) = ⊥
IsSameAnswer step.Short (step.Whole start end used) = ⊥
IsSameAnswer step.Short step.Short = Unit {0}
IsSameAnswer step.Short (step.Bad at reason) = ⊥
IsSameAnswer (step.Bad at reason) (step.Whole start end used) = ⊥
IsSameAnswer (step.Bad at reason) step.Short = ⊥
IsSameAnswer (step.Bad at reason) (step.Bad at' reason') = (at ≡ at') × (reason ≡ reason')
