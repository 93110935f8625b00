-- How a walker moves on: by a part of a page's header, of a record, or of the gap after it. Private clauses cite this.
use Rattle.std.specs.Prelude.{◌≡◌, ◌≢◌, ℕ, ◌+◌, ◌-◌, ◌%◌, ◌<◌, ◌≤◌, ◌==◌, List, ◌++◌, length, take, drop, nat_lt, if◌then◌else◌, Result, Ok, Err, Some}
use Rattle.repl_page.specs.declared.header.TheConstants.{PAGE_SIZE}
use Rattle.repl_page.specs.declared.header.PageHeader.{PageHeader}
use Rattle.repl_page.specs.Header.{header_of, field}
use Rattle.repl_record.specs.declared.answer.WalkReason.{WalkReason}
use Rattle.repl_record.specs.declared.answer.WalkReason.TheVariants as why
use Rattle.repl_record.specs.declared.answer.WalkStep.{WalkStep}
use Rattle.repl_record.specs.declared.answer.WalkStep.TheVariants as step
use Rattle.repl_record.specs.declared.walker.Walker.{Walker}
use Rattle.repl_record.specs.declared.walker.Refusal.{Refusal}
use Rattle.repl_record.specs.Checksum.{checksum_from}
use Rattle.repl_record.specs.Judging.{IsLength, IsRight, IsOpenBefore, IsFirstFault}
use Rattle.repl_record.specs.Record.{start_of}
use Rattle.repl_record.specs.Walker.{Keeps}

-- The walker has taken these bytes, and nothing is wrong in them. A record may end with the last.
pub record Reached (w : Walker) (timeline : ℕ → ℕ) (from prev : ℕ) (log : List ℕ) : Type 0 where
  pub keeps : Keeps w timeline from prev log
  pub open_before : IsOpenBefore w.ident timeline from prev log (length log)
  pub right : IsRight w.ident timeline from prev log

-- the walker went on by so many of the bytes, or met a fault in them
abbrev pub Moved : Walker → Walker → (ℕ → ℕ) → ℕ → ℕ → List ℕ → List ℕ → Result ℕ Refusal → Type 0
Moved old new timeline from prev log bytes (Ok taken) = Reached new timeline from prev (log ++ take taken bytes)
Moved old new timeline from prev log bytes (Err refusal) = IsFirstFault old.ident timeline from prev (log ++ bytes) refusal.at refusal.why

-- it took some of the bytes, and no more than there are
abbrev pub Took : Walker → Walker → List ℕ → Result ℕ Refusal → Type 0
Took old new bytes (Ok taken) = (0 < taken) × (taken ≤ length bytes) × (new.at ≡ old.at + taken)
Took old new bytes (Err refusal) = new.at ≤ old.at + length bytes

-- the identity, what was refused, and the record before the present one stay
abbrev pub IsOfOneLog : Walker → Walker → Type 0
IsOfOneLog old new = (new.ident ≡ old.ident) × (new.refused ≡ old.refused) × (new.from ≡ old.from) × (new.prev ≡ old.prev)

-- ---- what is written down of a piece

-- a piece written over a part of a list
abbrev pub put : List ℕ → ℕ → List ℕ → List ℕ
put list at piece = take at list ++ piece ++ drop (at + length piece) list

-- after a part of a page's header
abbrev pub with_header : Walker → ℕ → List ℕ → Walker
with_header w tli piece = record w {
  at = w.at + length piece;
  header = put w.header (w.at % PAGE_SIZE) piece;
  page_timeline = if w.at % PAGE_SIZE == 0 then tli else w.page_timeline;
}

-- after a part of a record, which ends before or with its first 24 bytes, or begins after them
abbrev pub with_record : Walker → List ℕ → Walker
with_record w piece = record w {
  at = w.at + length piece;
  count = w.count + length piece;
  front = if nat_lt w.count 24 then put w.front w.count piece else w.front;
  sum = if nat_lt w.count 24 then w.sum else checksum_from w.sum piece;
}

-- after a part of the gap
abbrev pub with_gap : Walker → ℕ → Walker
with_gap w taken = record w { at = w.at + taken }

-- ---- what is judged of what is written down

-- the record's length
abbrev pub total : Walker → ℕ
total w = field 0 4 w.front

-- up to how many of the record's bytes nothing more is judged
abbrev pub goal : Walker → ℕ
goal w = if nat_lt w.count 4 then 4 else (if nat_lt w.count 16 then 16 else (if nat_lt w.count 20 then 20 else
    (if nat_lt w.count 24 then 24 else total w)))

-- the header that is due on the page
abbrev pub due_header : Walker → ℕ → PageHeader
due_header w page = header_of w.ident w.page_timeline page (if page == w.from then 0 else total w - w.count)

-- the checksum of the record
abbrev pub full_sum : Walker → ℕ
full_sum w = checksum_from w.sum (take 20 w.front)

-- what is wrong with the record, as many bytes of it are there as there are
abbrev pub IsWrong : Walker → WalkReason → Type 0
IsWrong w (why.Page fault) = ⊥
IsWrong w (why.Length found) = (w.count ≡ 4) × (found ≡ total w) × ¬ IsLength found
IsWrong w (why.Prev found expected) = (w.count ≡ 16) × (found ≡ field 8 8 w.front) × (expected ≡ w.prev) × (found ≢ expected)
IsWrong w why.Reserved = (w.count ≡ 20) × (field 18 2 w.front ≢ 0)
IsWrong w (why.Checksum found computed) = (24 ≤ w.count) × (w.count ≡ total w) × (found ≡ field 20 4 w.front) × (computed ≡ full_sum w)
    × (found ≢ computed)
IsWrong w why.Padding = ⊥

-- nothing is
pub record IsFine (w : Walker) : Type 0 where
  pub length_is : w.count ≡ 4 → IsLength (total w)
  pub prev_is : w.count ≡ 16 → field 8 8 w.front ≡ w.prev
  pub reserved_is : w.count ≡ 20 → field 18 2 w.front ≡ 0
  pub sum_is : 24 ≤ w.count → w.count ≡ total w → field 20 4 w.front ≡ full_sum w

-- at the image of the next record
abbrev pub renewed : Walker → Walker
renewed w = record w { from = w.at; prev = start_of w.ident.size w.from; count = 0; sum = 0 }

-- with a fault that is answered from now on
abbrev pub refusing : Walker → Refusal → Walker
refusing w refusal = record w { refused = Some refusal }

-- it tells that a record ends here
pub record IsAtEnd (w : Walker) : Type 0 where
  pub whole : 24 ≤ w.count
  pub all : w.count ≡ total w
  pub rounded : w.at % 8 ≡ 0

-- it tells that a record ended at this position, with the last of so many bytes
abbrev pub IsEnded : WalkStep → ℕ → ℕ → Type 0
IsEnded (step.Whole start end used) at taken = (end ≡ at) × (used ≡ taken)
IsEnded step.Short at taken = ⊥
IsEnded (step.Bad at' reason) at taken = ⊥
