-- Headers of pages: how many bytes they have, what of a record they count, and that bytes agree with one or have a fault.
use Rattle.std.proofs.Common.{◌≡◌, ℕ, ◌+◌, ◌-◌, ◌<◌, ◌≤◌, ◌⊎◌, ◌==◌, Bool, true, false, cond, List, ◌++◌, length, take, drop, Option, Some, None, refl, sym, ap, ◌∙◌, inl, inr, arith, rules}
use Rattle.std.proofs.lemmas.Bool.{cond-true, eq-eqb}
use Rattle.std.proofs.lemmas.List.{take-append-le, take-take}
use Rattle.repl_page.specs.declared.ident.Ident.{Ident}
use Rattle.repl_page.specs.declared.header.PageHeader.{PageHeader}
use Rattle.repl_page.specs.declared.header.LongPart.{LongPart}
use Rattle.repl_page.specs.declared.fault.PageFault.{PageFault}
use Rattle.repl_page.specs.declared.fault.PageFault.TheVariants as fault
use Rattle.repl_page.specs.Page.{in_first_page, header_length}
use Rattle.repl_page.specs.Header.{Agrees, AgreesPast, AgreesLong, AgreesShort, IsFaultPast, IsLongFault, IsPageFault, IsShortFault, field, header_bytes, header_of, judged, length_of, long_bytes_of, long_length}
use Rattle.repl_record.specs.Record.{content, remaining}
use Rattle.repl_record.proofs.Fields.{drop_of_take, field-same, same_number}

-- ---- how many bytes they have

chosen_length : (long : LongPart) (b : Bool) → long_length (cond b (Some long) None) ≡ cond b 40 24
chosen_length long true = refl
chosen_length long false = refl

-- the header of a page has the length that is due there
pub length_of-header_of : (ident : Ident) (timeline page remaining : ℕ)
    → length_of (header_of ident timeline page remaining) ≡ header_length ident.size page
length_of-header_of ident timeline page remaining = chosen_length _ (in_first_page ident.size page)

long_length-least : (long : Option LongPart) → 24 ≤ long_length long
long_length-least None = omega arith
long_length-least (Some long) = omega arith

-- and as many bytes are spelled
length-long_bytes : (long : Option LongPart) → 24 + length (long_bytes_of long) ≡ long_length long
length-long_bytes None = refl
length-long_bytes (Some long) = refl

pub length-header_bytes : (ident : Ident) (timeline page left : ℕ)
    → length (header_bytes (header_of ident timeline page left)) ≡ header_length ident.size page
length-header_bytes ident timeline page left =
    let header = header_of ident timeline page left in
    let whole : length (header_bytes header) ≡ 24 + length (long_bytes_of header.long) = omega arith in
    whole ∙ length-long_bytes header.long ∙ length_of-header_of ident timeline page left

-- ---- how many bytes of a record remain at a page

-- of a page in the log it does not change with what follows
pub remaining-append : (size total from page : ℕ) (log more : List ℕ) → page < from + length log
    → remaining size total from (log ++ more) page ≡ remaining size total from log page
remaining-append size total from page log more below =
    ap (λ (front : List ℕ). cond (page == from) 0 (total - length (content size from front))) (take-append-le (page - from) log more
    (omega arith))

-- nor with a front of the log, where the record is as long
pub remaining-take : (size total total' from page n : ℕ) (log : List ℕ) → page - from ≤ n → (page ≡ from) ⊎ (total ≡ total')
    → remaining size total from (take n log) page ≡ remaining size total' from log page
remaining-take size total total' from page n log within (inl same) = cond-true (page == from) _ _ (eq-eqb page from same)
    ∙ sym (cond-true (page == from) _ _ (eq-eqb page from same))
remaining-take size total total' from page n log within (inr same) =
    ap (λ (t : List ℕ). cond (page == from) 0 (total - length (content size from t))) (take-take (page - from) n log within)
    ∙ ap (λ (k : ℕ). cond (page == from) 0 (k - length (content size from (take (page - from) log)))) same

-- ---- agreement and faults

-- bytes have one fault at most
pub one_fault : (header : PageHeader) (bytes : List ℕ) (a b : PageFault) → IsPageFault header bytes a → IsPageFault header bytes b → a ≡ b
one_fault header bytes a b first second = search rules

-- and none where they agree
pub no_fault : (header : PageHeader) (bytes : List ℕ) (why : PageFault) → IsPageFault header bytes why → ¬ Agrees header bytes
no_fault header bytes why is agrees = search rules

short_agrees : (expected : PageHeader) (bytes : List ℕ) → ((why : PageFault) → ¬ IsShortFault expected bytes why)
    → AgreesShort expected bytes
short_agrees expected bytes none =
    let magic = same_number (field 0 2 bytes) expected.magic (λ differ. none (fault.Magic (field 0 2 bytes) expected.magic) (
      (refl, refl),
      differ,
    )) in
    let info = same_number (judged (field 2 2 bytes)) (judged expected.info) (λ differ. none (fault.Info (field 2 2 bytes) expected.info)
    ((refl, refl), differ, magic)) in
    let timeline = same_number (field 4 4 bytes) expected.tli (λ differ. none (fault.Timeline (field 4 4 bytes) expected.tli) (
      (refl, refl),
      differ,
      magic,
      info,
    )) in
    let address = same_number (field 8 8 bytes) expected.addr (λ differ. none (fault.Address (field 8 8 bytes) expected.addr) (
      (refl, refl),
      differ,
      magic,
      info,
      timeline,
    )) in
    let remaining = same_number (field 16 4 bytes) expected.rem_len (λ differ. none (fault.RemLen (field 16 4 bytes) expected.rem_len)
    ((refl, refl), differ, magic, info, timeline, address)) in
    record { magic = magic; info = info; timeline = timeline; address = address; remaining = remaining }

long_agrees : (expected : LongPart) (bytes : List ℕ) → ((why : PageFault) → ¬ IsLongFault expected bytes why) → AgreesLong expected bytes
long_agrees expected bytes none =
    let system = same_number (field 0 8 bytes) expected.sysid (λ differ. none (fault.SysId (field 0 8 bytes) expected.sysid) (
      (refl, refl),
      differ,
    )) in
    let segment = same_number (field 8 4 bytes) expected.seg_size (λ differ. none (fault.SegSize (field 8 4 bytes) expected.seg_size)
    ((refl, refl), differ, system)) in
    let page = same_number (field 12 4 bytes) expected.page_size (λ differ. none (fault.BlockSize (field 12 4 bytes) expected.page_size)
    ((refl, refl), differ, system, segment)) in
    record { system = system; segment = segment; page = page }

past_agrees : (expected : Option LongPart) (bytes : List ℕ) → ((why : PageFault) → ¬ IsFaultPast expected bytes why)
    → AgreesPast expected bytes
past_agrees None bytes none = tt
past_agrees (Some long) bytes none = long_agrees long bytes none

-- where they have none, they agree
pub agrees_from_no_fault : (expected : PageHeader) (bytes : List ℕ) → ((why : PageFault) → ¬ IsPageFault expected bytes why)
    → Agrees expected bytes
agrees_from_no_fault expected bytes none =
    let short = short_agrees expected bytes (λ why is. none why (inl is)) in
    record { short = short; long = past_agrees expected.long (drop 24 bytes) (λ why is. none why (inr (short, is))) }

-- ---- only the header's own bytes are judged

short-same : (header : PageHeader) (n : ℕ) (xs ys : List ℕ) → 24 ≤ n → take n xs ≡ take n ys → AgreesShort header xs → AgreesShort header ys
short-same header n xs ys enough same agrees = record {
  magic = field-same 0 2 n ys xs (sym same) (omega arith) ∙ agrees.magic;
  info = ap judged (field-same 2 2 n ys xs (sym same) (omega arith)) ∙ agrees.info;
  timeline = field-same 4 4 n ys xs (sym same) (omega arith) ∙ agrees.timeline;
  address = field-same 8 8 n ys xs (sym same) (omega arith) ∙ agrees.address;
  remaining = field-same 16 4 n ys xs (sym same) (omega arith) ∙ agrees.remaining;
}

past-same : (long : Option LongPart) (n : ℕ) (xs ys : List ℕ) → long_length long ≤ n → take n xs ≡ take n ys
    → AgreesPast long (drop 24 xs) → AgreesPast long (drop 24 ys)
past-same None n xs ys enough same agrees = tt
past-same (Some long) n xs ys enough same agrees =
    let k = n - 24 in
    let past : take k (drop 24 ys) ≡ take k (drop 24 xs) = sym (drop_of_take 24 n ys (omega arith)) ∙ ap (drop 24) (sym same)
    ∙ drop_of_take 24 n xs (omega arith) in
    record {
      system = field-same 0 8 k (drop 24 ys) (drop 24 xs) past (omega arith) ∙ agrees.system;
      segment = field-same 8 4 k (drop 24 ys) (drop 24 xs) past (omega arith) ∙ agrees.segment;
      page = field-same 12 4 k (drop 24 ys) (drop 24 xs) past (omega arith) ∙ agrees.page;
    }

-- where bytes agree, so do others that begin with the same
pub agrees-same : (header : PageHeader) (n : ℕ) (xs ys : List ℕ) → length_of header ≤ n → take n xs ≡ take n ys → Agrees header xs
    → Agrees header ys
agrees-same header n xs ys enough same agrees = record {
  short = short-same header n xs ys (omega (arith, long_length-least header.long)) same agrees.short;
  long = past-same header.long n xs ys enough same agrees.long;
}
