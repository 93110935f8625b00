-- The rest of a record with which the log begins where all before a page's start is gone: of the record no more is known
-- than how many of its bytes are still to come, by the headers of the pages. Between the headers stand that many bytes,
-- which nothing can judge, and fewer than eight zeros up to the next multiple of 8.
use Rattle.std.specs.Prelude.{◌≡◌, ◌≢◌, ℕ, ◌+◌, ◌-◌, ◌%◌, ◌<◌, ◌≤◌, ◌⊎◌, List, ◌++◌, length, take, get_or, replicate}
use Rattle.repl_page.specs.declared.fault.PageFault.{PageFault}
use Rattle.repl_page.specs.declared.header.PageHeader.{PageHeader}
use Rattle.repl_page.specs.declared.ident.Ident.{Ident}
use Rattle.repl_page.specs.Header.{Agrees, IsPageFault, header_of}
use Rattle.repl_page.specs.Page.{IsPage, header_length}
use Rattle.repl_record.specs.declared.answer.WalkReason.{WalkReason}
use Rattle.repl_record.specs.declared.answer.WalkReason.TheVariants as why
use Rattle.repl_record.specs.Record.{LastIsContent, content, from_page}
use Rattle.repl_walk.specs.declared.rest.Rest.{Rest}
use Rattle.repl_walk.specs.declared.rest.RestStep.{RestStep}
use Rattle.repl_walk.specs.declared.rest.RestStep.TheVariants as step

-- ---- headers

-- how many of so many bytes are not on the pages before this one, in the log from a page's start on
abbrev pub left_of : ℕ → ℕ → ℕ → List ℕ → ℕ → ℕ
left_of size rest from log page = rest - length (content size from (take (page - from) log))

-- the bytes of a page's header
abbrev pub header_at : ℕ → ℕ → List ℕ → ℕ → List ℕ
header_at size from log page = take (header_length size page) (from_page from log page)

-- the header that is due on a page
abbrev pub due_on : Ident → (ℕ → ℕ) → ℕ → ℕ → List ℕ → ℕ → PageHeader
due_on ident timeline rest from log page = header_of ident (timeline page) page (left_of ident.size rest from log page)

-- each page whose header is whole in the log has the one that is due
abbrev pub HeadersFit : Ident → (ℕ → ℕ) → ℕ → ℕ → List ℕ → Type 0
HeadersFit ident timeline rest from log = (page : ℕ) → IsPage page → from ≤ page → page + header_length ident.size page ≤ from + length log
    → Agrees (due_on ident timeline rest from log page) (header_at ident.size from log page)

-- ---- the rest

-- its bytes are all there, and after the last of them stand fewer than eight zeros
pub record HasAll (ident : Ident) (rest from : ℕ) (log : List ℕ) : Type 0 where
  pub front : List ℕ
  pub gap : ℕ
  pub parts : log ≡ front ++ replicate gap 0
  pub bytes : length (content ident.size from front) ≡ rest
  pub last : LastIsContent ident.size from front
  pub few : gap < 8

-- the log is the rest of a record, of which so many bytes are not on earlier pages
pub record IsRest (ident : Ident) (timeline : ℕ → ℕ) (rest from : ℕ) (log : List ℕ) : Type 0 where
  pub headers : HeadersFit ident timeline rest from log
  pub all : HasAll ident rest from log
  pub rounded : (from + length log) % 8 ≡ 0

-- its bytes are all there, and the next multiple of 8 is not reached
pub record IsGapBegun (ident : Ident) (rest from : ℕ) (log : List ℕ) : Type 0 where
  pub all : HasAll ident rest from log
  pub unrounded : (from + length all.front) % 8 ≢ 0
  pub inside : (from + length all.front) % 8 + all.gap < 8

-- the log is less than that, and nothing in it is wrong that can be judged
pub record IsRestBegun (ident : Ident) (timeline : ℕ → ℕ) (rest from : ℕ) (log : List ℕ) : Type 0 where
  pub headers : HeadersFit ident timeline rest from log
  pub few : (length (content ident.size from log) < rest) ⊎ IsGapBegun ident rest from log

-- ---- what is wrong

-- the rest goes on with this page, and the page's header is not the one that is due
pub record IsWrongHeader (ident : Ident) (timeline : ℕ → ℕ) (rest from : ℕ) (log : List ℕ) (page : ℕ) (wrong : PageFault) : Type 0 where
  pub is_page : IsPage page
  pub began : from ≤ page
  pub whole : page + header_length ident.size page ≤ from + length log
  pub before : HeadersFit ident timeline rest from (take (page - from) log)
  pub goes_on : length (content ident.size from (take (page - from) log)) < rest
  pub fault : IsPageFault (due_on ident timeline rest from log page) (header_at ident.size from log page) wrong

-- the rest's bytes are all there, and before the next multiple of 8 a byte is not zero
pub record IsWrongGap (ident : Ident) (timeline : ℕ → ℕ) (rest from : ℕ) (log : List ℕ) : Type 0 where
  pub front : List ℕ
  pub past : List ℕ
  pub parts : log ≡ front ++ past
  pub headers : HeadersFit ident timeline rest from front
  pub bytes : length (content ident.size from front) ≡ rest
  pub last : LastIsContent ident.size from front
  pub place : ℕ
  pub unrounded : (from + length front) % 8 ≢ 0
  pub inside : (from + length front) % 8 + place < 8
  pub wrong : get_or past place 0 ≢ 0

-- the place is the page's address, and of a wrong byte in the gap where the log begins
abbrev pub IsRestFault : Ident → (ℕ → ℕ) → ℕ → ℕ → List ℕ → ℕ → WalkReason → Type 0
IsRestFault ident timeline rest from log at (why.Page fault) = IsWrongHeader ident timeline rest from log at fault
IsRestFault ident timeline rest from log at why.Padding = (at ≡ from) × IsWrongGap ident timeline rest from log
IsRestFault ident timeline rest from log at (why.Length found) = ⊥
IsRestFault ident timeline rest from log at (why.Prev found expected) = ⊥
IsRestFault ident timeline rest from log at why.Reserved = ⊥
IsRestFault ident timeline rest from log at (why.Checksum found computed) = ⊥

-- ---- answers

-- the rest stands at the front of the log, up to this position
pub record IsRestWhole (ident : Ident) (timeline : ℕ → ℕ) (rest from : ℕ) (log : List ℕ) (end : ℕ) : Type 0 where
  pub after : from < end
  pub within : end ≤ from + length log
  pub rest_is : IsRest ident timeline rest from (take (end - from) log)

abbrev pub RestAnswers : Ident → (ℕ → ℕ) → ℕ → ℕ → List ℕ → RestStep → Type 0
RestAnswers ident timeline rest from log (step.Whole end used) = IsRestWhole ident timeline rest from log end
RestAnswers ident timeline rest from log step.Short = IsRestBegun ident timeline rest from log
RestAnswers ident timeline rest from log (step.Bad at reason) = IsRestFault ident timeline rest from log at reason

-- ---- passing over it

abbrev pub rest_identity : Rest → Ident
rest_identity r = r.ident

abbrev pub rest_position : Rest → ℕ
rest_position r = r.at

-- whole pages of the rest were passed over, and it goes on with the next
pub record HasPassed (r : Rest) (timeline : ℕ → ℕ) (rest from : ℕ) (log : List ℕ) : Type 0 where
  pub begins : r.from ≡ from
  pub from_page : IsPage from
  pub past : r.at ≡ from + length log
  pub on_page : IsPage r.at
  pub left : length (content r.ident.size from log) + r.left ≡ rest
  pub some : 0 < r.left
  pub headers : HeadersFit r.ident timeline rest from log

-- how many of these bytes the rest took that is whole; and past a piece that ends with a page it goes on
abbrev pub RestGoesOn : Rest → (ℕ → ℕ) → ℕ → ℕ → List ℕ → List ℕ → RestStep → Type 0
RestGoesOn r timeline rest from log bytes (step.Whole end used) = from + length log + used ≡ end
RestGoesOn r timeline rest from log bytes step.Short = IsPage (from + length (log ++ bytes)) → HasPassed r timeline rest from (log ++ bytes)
RestGoesOn r timeline rest from log bytes (step.Bad at reason) = Unit {0}

-- it took some of so many bytes, and no more; what begins with a page ends where the next record can begin
abbrev pub RestTakes : ℕ → RestStep → Type 0
RestTakes count (step.Whole end used) = (0 < used) × (used ≤ count) × (used % 8 ≡ 0)
RestTakes count step.Short = Unit {0}
RestTakes count (step.Bad at reason) = Unit {0}
