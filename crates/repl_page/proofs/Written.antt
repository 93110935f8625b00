-- What is written of a header agrees with it.
use Rattle.std.proofs.Common.{ℕ, ◌^◌, ◌<◌, List, ◌++◌, Option, Some, None, IfSome, ap}
use Rattle.byteorder.specs.Endian.{little_bytes}
use Rattle.byteorder.specs.Numbers.{little_number-reads_back}
use Rattle.repl_page.specs.declared.header.PageHeader.{PageHeader}
use Rattle.repl_page.specs.declared.header.LongPart.{LongPart}
use Rattle.repl_page.specs.Header.{Agrees, AgreesShort, AgreesLong, AgreesPast, IsHeader, judged, header_bytes, long_bytes, long_bytes_of}

short_written : (header : PageHeader) (rest : List ℕ) → IsHeader header → AgreesShort header (header_bytes header ++ rest)
short_written header rest fits =
    let long = long_bytes_of header.long ++ rest in
    let from_remaining = little_bytes 4 header.rem_len ++ little_bytes 4 0 ++ long in
    let from_address = little_bytes 8 header.addr ++ from_remaining in
    let from_timeline = little_bytes 4 header.tli ++ from_address in
    record {
      magic = little_number-reads_back 2 header.magic (little_bytes 2 header.info ++ from_timeline) fits.magic;
      info = ap judged (little_number-reads_back 2 header.info from_timeline fits.info);
      timeline = little_number-reads_back 4 header.tli from_address fits.timeline;
      address = little_number-reads_back 8 header.addr from_remaining fits.address;
      remaining = little_number-reads_back 4 header.rem_len (little_bytes 4 0 ++ long) fits.remaining;
    }

long_written : (long : LongPart) (rest : List ℕ) → long.sysid < 2 ^ 64 → long.seg_size < 2 ^ 32 → long.page_size < 2 ^ 32
    → AgreesLong long (long_bytes long ++ rest)
long_written long rest system segment page =
    record {
      system = little_number-reads_back 8 long.sysid (little_bytes 4 long.seg_size ++ little_bytes 4 long.page_size ++ rest) system;
      segment = little_number-reads_back 4 long.seg_size (little_bytes 4 long.page_size ++ rest) segment;
      page = little_number-reads_back 4 long.page_size rest page;
    }

past_written : (long : Option LongPart) (rest : List ℕ) → IfSome long (λ long. (long.sysid < 2 ^ 64) × (long.seg_size < 2 ^ 32)
    × (long.page_size < 2 ^ 32)) → AgreesPast long (long_bytes_of long ++ rest)
past_written None rest fits = tt
past_written (Some long) rest fits = long_written long rest fits.0 fits.1 fits.2

pub written : (header : PageHeader) (rest : List ℕ) → IsHeader header → Agrees header (header_bytes header ++ rest)
written header rest fits = record {
  short = short_written header rest fits;
  long = past_written header.long rest fits.long;
}
