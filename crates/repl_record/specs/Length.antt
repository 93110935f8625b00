-- How long a record's image is: the length of the body, the position and the size of segments alone say it (after
-- PostgreSQL 17 manual, section "WAL Internals").
use Rattle.std.specs.Prelude.{◌≡◌, ℕ, ◌+◌, ◌-◌, true, zero, suc}
use Rattle.std.specs.Int.{next_multiple_of}
use Rattle.repl_page.specs.Page.{IsPage, in_header}
use Rattle.repl_record.specs.Record.{start_of}

-- the position after so many of a record's bytes, the first of which stands at this position, or after the header of a
-- page there
unfoldable pub position_past : ℕ → ℕ → ℕ → ℕ
position_past size position zero = position
position_past size position (suc n) = position_past size (start_of size position + 1) n

-- where the image of a record with a body of so many bytes ends that begins at this position: at the next multiple of 8
abbrev pub image_end : ℕ → ℕ → ℕ → ℕ
image_end size at body_length = next_multiple_of (position_past size at (24 + body_length)) 8

-- how many bytes it has
abbrev pub image_length : ℕ → ℕ → ℕ → ℕ
image_length size at body_length = image_end size at body_length - at

-- a record's image may begin at this position: it is no byte of a page's header but the first
abbrev pub CanBegin : ℕ → ℕ → Type 0
CanBegin size at = in_header size at ≡ true → IsPage at
