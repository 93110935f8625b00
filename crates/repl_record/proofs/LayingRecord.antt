-- What is laid of a whole record, and zeros after it, are its image.
use Rattle.std.proofs.Common.{◌≡◌, ℕ, ◌+◌, ◌-◌, ◌%◌, ◌^◌, ◌<◌, ◌≤◌, ◌==◌, Bool, true, false, cond, Some, None, IfSome, List, [], ◌++◌, length, take, drop, replicate, sym, ap, ◌∙◌, subst, inl, inr, arith, length-append}
use Rattle.std.proofs.lemmas.Bool.{cases_lt}
use Rattle.std.proofs.lemmas.List.{take-append-drop, length-replicate}
use Rattle.byteorder.specs.Endian.{little_bytes}
use Rattle.repl_page.specs.declared.header.PageHeader.{PageHeader}
use Rattle.repl_page.specs.declared.header.LongPart.{LongPart}
use Rattle.repl_page.specs.declared.ident.Ident.{Ident}
use Rattle.repl_page.specs.Page.{header_length, in_first_page}
use Rattle.repl_page.specs.Header.{Agrees, IsHeader, header_of, header_bytes}
use Rattle.repl_record.specs.declared.laying.Place.{Place}
use Rattle.repl_record.specs.declared.record.RecordIn.{RecordIn}
use Rattle.repl_record.specs.Checksum.{checksum}
use Rattle.repl_record.specs.Record.{IsRecord, IsImage, HeadersAreSpelled, LastIsContent, content, from_page, front_bytes, record_bytes, remaining, total_length}
use Rattle.repl_record.specs.Laying.{AreFields, IsLaid, content_of}
use Rattle.repl_record.proofs.Content.{content-nil, length-content}
use Rattle.repl_record.proofs.LayingBlocks.{old_header}

-- ---- headers are such that fit

-- a flag and another are at most 3
flags_small : (a b : Bool) → cond a 0 1 + cond b 2 0 ≤ 3
flags_small true true = omega arith
flags_small true false = omega arith
flags_small false true = omega arith
flags_small false false = omega arith

long_fits : (first : Bool) (long : LongPart) → long.sysid < 2 ^ 64 → long.seg_size < 2 ^ 32 → long.page_size < 2 ^ 32
    → IfSome (cond first (Some long) None) (λ long. (long.sysid < 2 ^ 64) × (long.seg_size < 2 ^ 32) × (long.page_size < 2 ^ 32))
long_fits true long system segment page = (system, segment, page)
long_fits false long system segment page = tt

at_most : (b : Bool) (n m : ℕ) → cond b 0 (n - m) ≤ n
at_most true n m = omega arith
at_most false n m = omega arith

header_fits : (ident : Ident) (timeline page total from : ℕ) (log : List ℕ) → AreFields ident timeline → page < 2 ^ 64 → total < 2 ^ 32
    → IsHeader (header_of ident timeline page (remaining ident.size total from log page))
header_fits ident timeline page total from log fits below short =
    let left = remaining ident.size total from log page in
    record {
      magic = fits.magic;
      info = omega (arith, flags_small (left == 0) (in_first_page ident.size page));
      timeline = fits.timeline;
      address = below;
      remaining = omega (arith, at_most (page == from) total (length (content ident.size from (take (page - from) log))));
      long = long_fits (in_first_page ident.size page) _ fits.system (omega (arith, fits.size.most)) (omega arith);
    }

-- what is spelled agrees
agrees_spelled : (header : PageHeader) (n : ℕ) (bytes : List ℕ) → ((header : PageHeader) (rest : List ℕ) → IsHeader header
    → Agrees header (header_bytes header ++ rest))
    → IsHeader header → take n bytes ≡ header_bytes header → Agrees header bytes
agrees_spelled header n bytes written fits spelled =
    let parts : header_bytes header ++ drop n bytes ≡ bytes = ap (λ (t : List ℕ). t ++ drop n bytes) (sym spelled)
    ∙ take-append-drop n bytes in
    subst (Agrees header) parts (written header (drop n bytes) fits)

-- ---- the whole

-- no page begins among fewer than eight zeros up to a multiple of 8
headers_padded : (place : Place) (front : List ℕ) (gap : ℕ) → IsLaid place front → gap < 8 → place.at % 8 ≡ 0
    → length (front ++ replicate gap 0) % 8 ≡ 0
    → HeadersAreSpelled place.ident (λ _. place.tli) place.total place.at (front ++ replicate gap 0)
headers_padded place front gap laid few aligned rounded page begins above below =
    let counted : length (front ++ replicate gap 0) ≡ length front + gap = length-append front (replicate gap 0)
    ∙ ap (λ (n : ℕ). length front + n) (length-replicate gap 0) in
    elim (cases_lt page (place.at + length front)) [
      | inl old ↦ old_header place.ident place.tli place.total place.at front (replicate gap 0) page above old
          (laid.headers page begins above old)
      | inr new ↦ absurd (omega (arith, counted))
    ]

-- the record's bytes are laid in two pieces, from nothing on
pub laid_bytes : (place : Place) (prev : ℕ) (item : RecordIn) (empty head body one two : List ℕ) → empty ≡ []
    → content_of place one ≡ content_of place empty ++ head → content_of place two ≡ content_of place one ++ body
    → head ≡ front_bytes prev item ++ little_bytes 4 (checksum (item.body ++ front_bytes prev item)) → body ≡ item.body
    → content_of place two ≡ record_bytes prev item
laid_bytes place prev item empty head body one two none first second head_is body_is =
    second
    ∙ ap (λ (t : List ℕ). t ++ body) (first ∙ ap (λ (t : List ℕ). content_of place t ++ head) none
    ∙ ap (λ (t : List ℕ). t ++ head) (content-nil place.ident.size place.at))
    ∙ ap (λ (t : List ℕ). t ++ body) head_is
    ∙ ap (λ (t : List ℕ). (front_bytes prev item ++ little_bytes 4 (checksum (item.body ++ front_bytes prev item))) ++ t) body_is

-- all of a record is laid, and after it zeros up to a multiple of 8
pub record IsFinished (place : Place) (prev : ℕ) (item : RecordIn) (front log : List ℕ) : Type 0 where
  pub laid : IsLaid place front
  pub bytes : content_of place front ≡ record_bytes prev item
  pub gap : (gap : ℕ) × (gap < 8) × (log ≡ front ++ replicate gap 0) × (length log % 8 ≡ 0)
  pub aligned : place.at % 8 ≡ 0
  pub small : place.at + length log ≤ 2 ^ 64
  pub item_is : IsRecord item
  pub follows : prev < 2 ^ 64
  pub fields : AreFields place.ident place.tli
  pub total : place.total ≡ total_length item

last_is : (place : Place) (prev : ℕ) (item : RecordIn) (front : List ℕ) → IsLaid place front
    → content_of place front ≡ record_bytes prev item → LastIsContent place.ident.size place.at front
last_is place prev item front laid bytes =
    elim laid.last [
      | inl none ↦ absurd (omega (arith, length-content place.ident.size place.at front, ap length bytes))
      | inr last ↦ last
    ]

pub spelled_finished : (place : Place) (prev : ℕ) (item : RecordIn) (front log : List ℕ) → IsFinished place prev item front log
    → HeadersAreSpelled place.ident (λ _. place.tli) (total_length item) place.at log
spelled_finished place prev item front log is =
    let rounded : length (front ++ replicate is.gap.0 0) % 8 ≡ 0 = ap (λ (t : List ℕ). length t % 8) (sym is.gap.2) ∙ is.gap.3 in
    let padded = headers_padded place front is.gap.0 is.laid is.gap.1 is.aligned rounded in
    subst (λ (total : ℕ). HeadersAreSpelled place.ident (λ _. place.tli) total place.at log) is.total
    (subst (HeadersAreSpelled place.ident (λ _. place.tli) place.total place.at) (sym is.gap.2) padded)

pub IsImage-finished : (place : Place) (prev : ℕ) (item : RecordIn) (front log : List ℕ) → ((header : PageHeader) (rest : List ℕ)
    → IsHeader header → Agrees header (header_bytes header ++ rest))
    → IsFinished place prev item front log → IsImage place.ident (λ _. place.tli) place.at prev item log
IsImage-finished place prev item front log written is =
    let total = total_length item in
    let spelled = spelled_finished place prev item front log is in
    record {
      front = front;
      gap = is.gap.0;
      parts = is.gap.2;
      item_is = is.item_is;
      follows = is.follows;
      bytes = is.bytes;
      last = last_is place prev item front is.laid is.bytes;
      few = is.gap.1;
      rounded = omega (arith, is.gap.3, is.aligned);
      headers = λ page begins above below.
          agrees_spelled
          (header_of place.ident place.tli page (remaining place.ident.size total place.at log page))
          (header_length place.ident.size page)
          (from_page place.at log page)
          written
          (header_fits place.ident place.tli page total place.at log is.fields (omega (arith, is.small)) (omega (arith, is.item_is.short)))
          (spelled page begins above below);
    }
