-- What a walker stands for: the log's bytes since the image of the present record began.
use Rattle.std.specs.Prelude.{◌≡◌, ℕ, ◌+◌, ◌%◌, ◌^◌, ◌<◌, ◌≤◌, true, List, [], ◌++◌, length, take, drop, min, Some, None}
use Rattle.repl_page.specs.declared.header.TheConstants.{PAGE_SIZE}
use Rattle.repl_page.specs.declared.ident.Ident.{Ident}
use Rattle.repl_page.specs.Page.{IsPage, page_start, in_header}
use Rattle.repl_record.specs.declared.answer.WalkReason.{WalkReason}
use Rattle.repl_record.specs.declared.answer.WalkStep.{WalkStep}
use Rattle.repl_record.specs.declared.answer.WalkStep.TheVariants as step
use Rattle.repl_record.specs.declared.walker.Walker.{Walker}
use Rattle.repl_record.specs.Checksum.{checksum}
use Rattle.repl_record.specs.Record.{AreBytes, LastIsContent, content, from_page}
use Rattle.repl_record.specs.Judging.{HasLength, IsBeginning, length_field}

-- the position of the next byte
abbrev pub position : Walker → ℕ
position w = w.at

-- what the pages of its log have in common
abbrev pub identity : Walker → Ident
identity w = w.ident

-- where the last whole record ends, after which the present one's image begins, and where that record starts
abbrev pub last_end : Walker → ℕ
last_end w = w.from

abbrev pub last_start : Walker → ℕ
last_start w = w.prev

-- the record's bytes among these
abbrev pub so_far : Walker → ℕ → List ℕ → List ℕ
so_far w from log = content w.ident.size from log

-- What the walker keeps is what these bytes say, which are those of the log from a record's image on.
pub record Keeps (w : Walker) (timeline : ℕ → ℕ) (from prev : ℕ) (log : List ℕ) : Type 0 where
  pub not_refused : w.refused ≡ None
  pub begins : w.from ≡ from
  pub follows : w.prev ≡ prev
  pub prev_fits : prev < 2 ^ 64
  pub past : w.at ≡ from + length log
  pub aligned : from % 8 ≡ 0
  pub are_bytes : AreBytes log
  -- the header of the page in which the position is, if that page began after `from`
  pub header_is : in_header w.ident.size w.at ≡ true → from ≤ page_start w.at
      → take (w.at % PAGE_SIZE) w.header ≡ from_page from log (page_start w.at)
  pub timeline_is : in_header w.ident.size w.at ≡ true → from ≤ page_start w.at → page_start w.at < w.at
      → w.page_timeline ≡ timeline (page_start w.at)
  -- the record's first 24 bytes, how many it has so far, and the checksum of its body
  pub front_is : take (min w.count 24) w.front ≡ take 24 (so_far w from log)
  pub few : length (so_far w from log) < 24 → w.count ≡ length (so_far w from log)
  pub many : 24 ≤ length (so_far w from log) → w.count ≡ min (length (so_far w from log)) (length_field (so_far w from log))
  pub sum_is : w.sum ≡ checksum (drop 24 (take w.count (so_far w from log)))
  -- its length is right, once it is there, and no header of a page stands after its last byte
  pub has_length : 4 ≤ length (so_far w from log) → HasLength (so_far w from log)
  pub in_gap : 4 ≤ length (so_far w from log) → length_field (so_far w from log) ≤ length (so_far w from log)
      → LastIsContent w.ident.size from log

-- The walker stands after these bytes, in which no record ends and nothing is wrong.
pub record Stands (w : Walker) (timeline : ℕ → ℕ) (from prev : ℕ) (log : List ℕ) : Type 0 where
  pub keeps : Keeps w timeline from prev log
  pub beginning : IsBeginning w.ident timeline from prev log

-- the walker answers this fault from now on
abbrev pub Refuses : Walker → ℕ → WalkReason → Type 0
Refuses w at reason = w.refused ≡ Some (record { at = at; why = reason })

-- each page that starts in so many bytes from this position on is on this timeline
abbrev pub AreOn : (ℕ → ℕ) → ℕ → ℕ → ℕ → Type 0
AreOn timeline tli from count = (page : ℕ) → IsPage page → from ≤ page → page < from + count → timeline page ≡ tli

-- where the walker stands after an answer: after the record that ended, or after all bytes, or it refuses
abbrev pub GoesOn : Walker → (ℕ → ℕ) → ℕ → ℕ → List ℕ → List ℕ → WalkStep → Type 0
GoesOn w timeline from prev log bytes (step.Whole start end used) = (from + length log + used ≡ end) × Stands w timeline end start []
GoesOn w timeline from prev log bytes step.Short = Stands w timeline from prev (log ++ bytes)
GoesOn w timeline from prev log bytes (step.Bad at reason) = Refuses w at reason × (last_end w ≡ from) × (last_start w ≡ prev)

-- how far the walker goes by an answer to so many bytes
abbrev pub Passes : Walker → Walker → ℕ → WalkStep → Type 0
Passes old new count (step.Whole start end used) = (0 < used) × (used ≤ count) × (position new ≡ position old + used)
Passes old new count step.Short = position new ≡ position old + count
Passes old new count (step.Bad at reason) = position new ≤ position old + count
