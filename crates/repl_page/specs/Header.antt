-- Headers of the log's pages: their one spelling, what agrees with them, and what is wrong with other bytes.
use Rattle.std.specs.Prelude.{◌≡◌, ◌≢◌, ℕ, ◌+◌, ◌%◌, ◌^◌, ◌<◌, ◌==◌, ◌⊎◌, List, [], ◌++◌, drop, Option, Some, None, IfSome, if◌then◌else◌}
use Rattle.byteorder.specs.Endian.{little_bytes, little_number}
use Rattle.repl_page.specs.declared.header.PageHeader.{PageHeader}
use Rattle.repl_page.specs.declared.header.LongPart.{LongPart}
use Rattle.repl_page.specs.declared.header.TheConstants.{PAGE_SIZE}
use Rattle.repl_page.specs.declared.ident.Ident.{Ident}
use Rattle.repl_page.specs.declared.fault.PageFault.{PageFault}
use Rattle.repl_page.specs.declared.fault.PageFault.TheVariants as fault
use Rattle.repl_page.specs.Page.{in_first_page}

-- ---- the header of a page

-- what the header of a segment's first page has besides
abbrev pub long_part_of : Ident → ℕ → Option LongPart
long_part_of ident page = if in_first_page ident.size page then Some (record {
  sysid = ident.sysid;
  seg_size = ident.size;
  page_size =
      PAGE_SIZE;
}) else None

-- flags: the page begins with the rest of a record, and the header is long
abbrev pub flags_of : ℕ → ℕ → ℕ → ℕ
flags_of size page remaining = (if remaining == 0 then 0 else 1) + (if in_first_page size page then 2 else 0)

-- the header of the page at this address that begins with so many bytes of an earlier page's record
abbrev pub header_of : Ident → ℕ → ℕ → ℕ → PageHeader
header_of ident timeline page remaining = record {
  magic = ident.magic;
  info = flags_of ident.size page remaining;
  tli = timeline;
  addr =
      page;
  rem_len = remaining;
  long = long_part_of ident page;
}

-- ---- spelling

abbrev pub long_bytes : LongPart → List ℕ
long_bytes long = little_bytes 8 long.sysid ++ little_bytes 4 long.seg_size ++ little_bytes 4 long.page_size

abbrev pub long_bytes_of : Option LongPart → List ℕ
long_bytes_of None = []
long_bytes_of (Some long) = long_bytes long

abbrev pub short_bytes : PageHeader → List ℕ
short_bytes header = little_bytes 2 header.magic ++ little_bytes 2 header.info ++ little_bytes 4 header.tli ++ little_bytes 8 header.addr
    ++ little_bytes 4 header.rem_len ++ little_bytes 4 0

abbrev pub header_bytes : PageHeader → List ℕ
header_bytes header = short_bytes header ++ long_bytes_of header.long

-- how many bytes these are
abbrev pub long_length : Option LongPart → ℕ
long_length None = 24
long_length (Some long) = 40

abbrev pub length_of : PageHeader → ℕ
length_of header = long_length header.long

-- its numbers fit their fields
pub record IsHeader (header : PageHeader) : Type 0 where
  pub magic : header.magic < 2 ^ 16
  pub info : header.info < 2 ^ 16
  pub timeline : header.tli < 2 ^ 32
  pub address : header.addr < 2 ^ 64
  pub remaining : header.rem_len < 2 ^ 32
  pub long : IfSome header.long (λ long. (long.sysid < 2 ^ 64) × (long.seg_size < 2 ^ 32) × (long.page_size < 2 ^ 32))

-- ---- judging

-- the number of n bytes at this place
abbrev pub field : ℕ → ℕ → List ℕ → ℕ
field place n bytes = little_number n (drop place bytes)

-- what is judged of flags: the two lowest
abbrev pub judged : ℕ → ℕ
judged flags = flags % 4

-- the bytes begin with the fields that each header has
pub record AgreesShort (expected : PageHeader) (bytes : List ℕ) : Type 0 where
  pub magic : field 0 2 bytes ≡ expected.magic
  pub info : judged (field 2 2 bytes) ≡ judged expected.info
  pub timeline : field 4 4 bytes ≡ expected.tli
  pub address : field 8 8 bytes ≡ expected.addr
  pub remaining : field 16 4 bytes ≡ expected.rem_len

-- the bytes begin with a long part
pub record AgreesLong (expected : LongPart) (bytes : List ℕ) : Type 0 where
  pub system : field 0 8 bytes ≡ expected.sysid
  pub segment : field 8 4 bytes ≡ expected.seg_size
  pub page : field 12 4 bytes ≡ expected.page_size

abbrev pub AgreesPast : Option LongPart → List ℕ → Type 0
AgreesPast None bytes = Unit {0}
AgreesPast (Some long) bytes = AgreesLong long bytes

-- the bytes begin with this header, but for what is not judged
pub record Agrees (expected : PageHeader) (bytes : List ℕ) : Type 0 where
  pub short : AgreesShort expected bytes
  pub long : AgreesPast expected.long (drop 24 bytes)

-- two headers differ in nothing that is judged
pub record SayTheSame (a b : PageHeader) : Type 0 where
  pub magic : a.magic ≡ b.magic
  pub info : judged a.info ≡ judged b.info
  pub timeline : a.tli ≡ b.tli
  pub address : a.addr ≡ b.addr
  pub remaining : a.rem_len ≡ b.rem_len
  pub long : (x y : LongPart) → a.long ≡ Some x → b.long ≡ Some y → x ≡ y

-- ---- faults

-- a field is found and expected so
abbrev pub AreSeen : ℕ → ℕ → ℕ → ℕ → Type 0
AreSeen at wanted found expected = (found ≡ at) × (expected ≡ wanted)

-- what is wrong with the fields that each header has: the first that differs
abbrev pub IsShortFault : PageHeader → List ℕ → PageFault → Type 0
IsShortFault header bytes (fault.Magic found expected) =
    AreSeen (field 0 2 bytes) header.magic found expected × (found ≢ expected)
IsShortFault header bytes (fault.Info found expected) =
    AreSeen (field 2 2 bytes) header.info found expected × (judged found ≢ judged expected)
    × (field 0 2 bytes ≡ header.magic)
IsShortFault header bytes (fault.Timeline found expected) =
    AreSeen (field 4 4 bytes) header.tli found expected × (found ≢ expected)
    × (field 0 2 bytes ≡ header.magic) × (judged (field 2 2 bytes) ≡ judged header.info)
IsShortFault header bytes (fault.Address found expected) =
    AreSeen (field 8 8 bytes) header.addr found expected × (found ≢ expected)
    × (field 0 2 bytes ≡ header.magic) × (judged (field 2 2 bytes) ≡ judged header.info) × (field 4 4 bytes ≡ header.tli)
IsShortFault header bytes (fault.RemLen found expected) =
    AreSeen (field 16 4 bytes) header.rem_len found expected × (found ≢ expected)
    × (field 0 2 bytes ≡ header.magic) × (judged (field 2 2 bytes) ≡ judged header.info) × (field 4 4 bytes ≡ header.tli)
    × (field 8 8 bytes ≡ header.addr)
IsShortFault header bytes (fault.SysId found expected) = ⊥
IsShortFault header bytes (fault.SegSize found expected) = ⊥
IsShortFault header bytes (fault.BlockSize found expected) = ⊥

-- what is wrong with a long part: the first field that differs
abbrev pub IsLongFault : LongPart → List ℕ → PageFault → Type 0
IsLongFault long bytes (fault.SysId found expected) =
    AreSeen (field 0 8 bytes) long.sysid found expected × (found ≢ expected)
IsLongFault long bytes (fault.SegSize found expected) =
    AreSeen (field 8 4 bytes) long.seg_size found expected × (found ≢ expected)
    × (field 0 8 bytes ≡ long.sysid)
IsLongFault long bytes (fault.BlockSize found expected) =
    AreSeen (field 12 4 bytes) long.page_size found expected × (found ≢ expected)
    × (field 0 8 bytes ≡ long.sysid) × (field 8 4 bytes ≡ long.seg_size)
IsLongFault long bytes (fault.Magic found expected) = ⊥
IsLongFault long bytes (fault.Info found expected) = ⊥
IsLongFault long bytes (fault.Timeline found expected) = ⊥
IsLongFault long bytes (fault.Address found expected) = ⊥
IsLongFault long bytes (fault.RemLen found expected) = ⊥

abbrev pub IsFaultPast : Option LongPart → List ℕ → PageFault → Type 0
IsFaultPast None bytes why = ⊥
IsFaultPast (Some long) bytes why = IsLongFault long bytes why

-- what is wrong with the header at the front of the bytes: the first field that differs
abbrev pub IsPageFault : PageHeader → List ℕ → PageFault → Type 0
IsPageFault header bytes why = IsShortFault header bytes why ⊎ (AgreesShort header bytes × IsFaultPast header.long (drop 24 bytes) why)
