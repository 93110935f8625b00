-- A record's image while it is being laid out. Private clauses cite this.
use Rattle.std.specs.Prelude.{◌≡◌, ℕ, ◌+◌, ◌-◌, ◌%◌, ◌^◌, ◌<◌, ◌==◌, ◌⊎◌, List, length, drop, if◌then◌else◌}
use Rattle.repl_lsn.specs.Segment.{IsSegSize}
use Rattle.repl_page.specs.declared.ident.Ident.{Ident}
use Rattle.repl_page.specs.declared.header.TheConstants.{PAGE_SIZE}
use Rattle.repl_page.specs.Page.{page_start}
use Rattle.repl_page.specs.Header.{header_of, header_bytes}
use Rattle.repl_record.specs.declared.laying.Place.{Place}
use Rattle.repl_record.specs.Record.{content, LastIsContent, HeadersAreSpelled}

-- the numbers of headers fit their fields
pub record AreFields (ident : Ident) (tli : ℕ) : Type 0 where
  pub magic : ident.magic < 2 ^ 16
  pub system : ident.sysid < 2 ^ 64
  pub size : IsSegSize ident.size
  pub timeline : tli < 2 ^ 32

-- the record's bytes among those laid so far
abbrev pub content_of : Place → List ℕ → List ℕ
content_of place log = content place.ident.size place.at log

-- how many bytes of the record the header of the next page counts, after so many
abbrev pub left_over : Place → ℕ → List ℕ → ℕ
left_over place done log = if length log == 0 then 0 else place.total - done

-- the bytes of a page's header that stand from the end of these on, before more of the record: none where that is after
-- the header
abbrev pub due_header : Place → ℕ → List ℕ → List ℕ
due_header place done log =
    let position = place.at + length log in
    drop (position % PAGE_SIZE) (header_bytes (header_of place.ident place.tli (page_start position) (left_over place done log)))

-- these bytes are the beginning of the record's image: they end with one of the record's, and their pages have headers
pub record IsLaid (place : Place) (log : List ℕ) : Type 0 where
  pub headers : HeadersAreSpelled place.ident (λ _. place.tli) place.total place.at log
  pub last : (length log ≡ 0) ⊎ LastIsContent place.ident.size place.at log
