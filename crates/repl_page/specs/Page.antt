-- Where the headers of the log's pages stand (after PostgreSQL 17 manual, section "WAL Internals").
use Rattle.std.specs.Prelude.{◌≡◌, ℕ, ◌-◌, ◌%◌, Bool, nat_lt, if◌then◌else◌}
use Rattle.repl_page.specs.declared.header.TheConstants.{PAGE_SIZE}

-- a page begins at the address
abbrev pub IsPage : ℕ → Type 0
IsPage address = address % PAGE_SIZE ≡ 0

-- the address of the page in which the position is
abbrev pub page_start : ℕ → ℕ
page_start position = position - position % PAGE_SIZE

-- the position is in the first page of a segment of this size
abbrev pub in_first_page : ℕ → ℕ → Bool
in_first_page size position = nat_lt (position % size) PAGE_SIZE

-- how many bytes the header has of the page in which the position is
abbrev pub header_length : ℕ → ℕ → ℕ
header_length size position = if in_first_page size position then 40 else 24

-- the byte at the position is one of a page's header
abbrev pub in_header : ℕ → ℕ → Bool
in_header size position = nat_lt (position % PAGE_SIZE) (header_length size position)
