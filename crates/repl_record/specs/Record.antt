-- Records and their images in the log: a record's bytes, cut by the headers of the pages, and zeros up to the next
-- multiple of 8 (after PostgreSQL 17 manual, section "WAL Internals"; the layout is this project's own).
use Rattle.std.specs.Prelude.{◌≡◌, ℕ, ◌+◌, ◌-◌, ◌%◌, ◌^◌, ◌<◌, ◌≤◌, ◌==◌, false, List, [], ◌∷◌, ◌++◌, length, take, drop, get_or, replicate, if◌then◌else◌}
use Rattle.byteorder.specs.Endian.{little_bytes}
use Rattle.repl_page.specs.declared.ident.Ident.{Ident}
use Rattle.repl_page.specs.Page.{IsPage, page_start, header_length, in_header}
use Rattle.repl_page.specs.Header.{Agrees, header_of, header_bytes}
use Rattle.repl_record.specs.declared.record.RecordIn.{RecordIn}
use Rattle.repl_record.specs.declared.record.TheConstants.{BODY_LIMIT}
use Rattle.repl_record.specs.Checksum.{checksum}

-- each is one byte
abbrev pub AreBytes : List ℕ → Type 0
AreBytes bytes = (i : ℕ) → get_or bytes i 0 < 256

-- ---- a record

-- how many bytes it has
abbrev pub total_length : RecordIn → ℕ
total_length item = 24 + length item.body

-- its length, transaction, the start of the record before it, flags and resource manager, and two zero bytes
abbrev pub front_bytes : ℕ → RecordIn → List ℕ
front_bytes prev item = little_bytes 4 (total_length item) ++ little_bytes 4 item.xid ++ little_bytes 8 prev
    ++ item.info ∷ item.rmid ∷ 0 ∷ 0 ∷ []

-- after these, the checksum of the body and then of these, and the body
abbrev pub record_bytes : ℕ → RecordIn → List ℕ
record_bytes prev item = front_bytes prev item ++ little_bytes 4 (checksum (item.body ++ front_bytes prev item)) ++ item.body

-- its numbers fit their fields, and its body is not too long
pub record IsRecord (item : RecordIn) : Type 0 where
  pub xid : item.xid < 2 ^ 32
  pub info : item.info < 256
  pub rmid : item.rmid < 256
  pub body : AreBytes item.body
  pub short : length item.body ≤ BODY_LIMIT

-- ---- the log and the headers of its pages

-- bytes of the log from a position on, without those of pages' headers
unfoldable pub content : ℕ → ℕ → List ℕ → List ℕ
content size position [] = []
content size position (byte ∷ bytes) = if in_header size position then content size (position + 1) bytes else byte ∷ content size
    (position + 1) bytes

-- the last byte of the log from a position on is none of a header
abbrev pub LastIsContent : ℕ → ℕ → List ℕ → Type 0
LastIsContent size from log = in_header size (from + length log - 1) ≡ false

-- where the record begins whose image begins at this position
abbrev pub start_of : ℕ → ℕ → ℕ
start_of size from = if in_header size from then page_start from + header_length size from else from

-- the bytes from a page's address on, of the log from this position on
abbrev pub from_page : ℕ → List ℕ → ℕ → List ℕ
from_page from log page = drop (page - from) log

-- How many bytes of a record of this length are not on the pages before this one. Where the image begins with the page,
-- the record begins on it.
abbrev pub remaining : ℕ → ℕ → ℕ → List ℕ → ℕ → ℕ
remaining size total from log page = if page == from then 0 else total - length (content size from (take (page - from) log))

-- the header of each page that starts in the log from this position on is the one of this record's image
abbrev pub HeadersAgree : Ident → (ℕ → ℕ) → ℕ → ℕ → List ℕ → Type 0
HeadersAgree ident timeline total from log =
    (page : ℕ) → IsPage page → from ≤ page → page < from + length log
    → Agrees (header_of ident (timeline page) page (remaining ident.size total from log page)) (from_page from log page)

-- the same, and the header is spelled with nothing else in it
abbrev pub HeadersAreSpelled : Ident → (ℕ → ℕ) → ℕ → ℕ → List ℕ → Type 0
HeadersAreSpelled ident timeline total from log =
    (page : ℕ) → IsPage page → from ≤ page → page < from + length log
    → take (header_length ident.size page) (from_page from log page) ≡ header_bytes (header_of ident (timeline page) page
    (remaining ident.size total from log page))

-- The bytes, which are those of the log from a position up to another, are the image of this record after one that
-- starts at prev: with the headers taken out, the record's bytes, and after the last of them fewer than eight zeros up
-- to a multiple of 8. `timeline` tells a page's timeline by its address.
pub record IsImage (ident : Ident) (timeline : ℕ → ℕ) (from prev : ℕ) (item : RecordIn) (log : List ℕ) : Type 0 where
  pub front : List ℕ
  pub gap : ℕ
  pub parts : log ≡ front ++ replicate gap 0
  pub item_is : IsRecord item
  pub follows : prev < 2 ^ 64
  pub bytes : content ident.size from front ≡ record_bytes prev item
  pub last : LastIsContent ident.size from front
  pub few : gap < 8
  pub rounded : (from + length log) % 8 ≡ 0
  pub headers : HeadersAgree ident timeline (total_length item) from log
