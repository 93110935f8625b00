-- An image that goes on over a page's start is the rest of a record from there on.
use Rattle.std.proofs.Common.{◌≡◌, ℕ, ◌+◌, ◌-◌, ◌%◌, ◌<◌, ◌≤◌, ◌==◌, false, List, length, take, drop, replicate, sym, ap, ◌∙◌, subst, arith, length-append, length-drop}
use Rattle.std.proofs.Math.Seq.{take-add}
use Rattle.std.proofs.lemmas.Bool.{cond-false, ne_eqb}
use Rattle.std.proofs.lemmas.List.{drop-append-le, drop-drop, length-take-le, take-append-le, take-take, take_all}
use Rattle.repl_lsn.specs.Segment.{IsSegSize}
use Rattle.repl_page.specs.declared.ident.Ident.{Ident}
use Rattle.repl_page.specs.Header.{Agrees, header_of}
use Rattle.repl_page.specs.Page.{IsPage, header_length, in_header}
use Rattle.repl_record.specs.declared.record.RecordIn.{RecordIn}
use Rattle.repl_record.specs.Record.{IsImage, content, from_page, remaining, total_length}
use Rattle.repl_record.proofs.Content.{content-append, eight_before_page, length-content-short}
use Rattle.repl_record.proofs.Headers.{agrees-same, length_of-header_of}
use Rattle.repl_record.proofs.ImageRightFields.{length-record_bytes}
use Rattle.repl_record.proofs.ImageRightFronts.{image_length}
use Rattle.repl_record.proofs.Pages.{header_is}
use Rattle.repl_walk.specs.Rest.{HeadersFit, IsRest, header_at, left_of}

-- the page's start is within the front, before the gap
page_inside : (ident : Ident) (timeline : ℕ → ℕ) (from prev page : ℕ) (item : RecordIn) (log : List ℕ) → from % 8 ≡ 0
    → (is : IsImage ident timeline from prev item log) → IsPage page → from < page → page < from + length log
    → page - from < length is.front
page_inside ident timeline from prev page item log eight is is_page past below =
    omega (arith, image_length ident timeline from prev item log is, is.few, is.rounded)

-- how many of the record's bytes are to come at a page after its beginning
left_is : (size total from page : ℕ) (log : List ℕ) → from < page
    → remaining size total from log page ≡ total - length (content size from (take (page - from) log))
left_is size total from page log past = cond-false (page == from) 0 (total - length (content size from (take (page
    - from) log))) (ne_eqb page from (λ (same : page ≡ from). absurd (omega arith)))

-- the record's bytes on both sides of a page's start
two_sides : (size from page k : ℕ) (log : List ℕ) → from ≤ page → page ≤ from + length log
    → length (content size from (take (page - from + k) log)) ≡ length (content size from (take (page - from) log))
    + length (content size page (take k (drop (page - from) log)))
two_sides size from page k log above below =
    let n = page - from in
    let front = take n log in
    let more = take k (drop n log) in
    let counted : length front ≡ n = length-take-le n log (omega arith) in
    ap (λ (t : List ℕ). length (content size from t)) (take-add n k log) ∙ ap length (content-append size from front more)
    ∙ length-append (content size from front) (content size (from + length front) more)
    ∙ ap (λ (p : ℕ). length (content size from front) + length (content size p more)) (omega arith)

-- the headers
headers_of_rest : (ident : Ident) (timeline : ℕ → ℕ) (from prev page : ℕ) (item : RecordIn) (log : List ℕ) → from < page
    → page < from + length log → IsImage ident timeline from prev item log
    → HeadersFit ident timeline (remaining ident.size (total_length item) from log page) page (drop (page - from) log)
headers_of_rest ident timeline from prev page item log past below is next is_page above whole =
    let size = ident.size in
    let total = total_length item in
    let n = page - from in
    let rest = remaining size total from log page in
    let counted = length-drop n log in
    let inside : next < from + length log = omega (arith, header_is size next) in
    let k = next - page in
    let here = left_is size total from page log past in
    let there = left_is size total from next log (omega arith) in
    let sides = two_sides size from page k log (omega arith) (omega arith) in
    let place : n + k ≡ next - from = omega arith in
    let left : remaining size total from log next ≡ left_of size rest page (drop n log) next = omega (
      arith,
      here,
      there,
      sides,
      ap (λ (j : ℕ). length (content size from (take j log))) place,
    ) in
    let same : from_page from log next ≡ from_page page (drop n log) next =
    ap (λ (j : ℕ). drop j log) (sym place) ∙ sym (drop-drop k n log) in
    let due = header_of ident (timeline next) next (left_of size rest page (drop n log) next) in
    let m = header_length size next in
    let agrees : Agrees due (from_page page (drop n log) next) = subst (Agrees due) same
    (subst (λ (j : ℕ). Agrees (header_of ident (timeline next) next j) (from_page from log next)) left (is.headers next is_page (omega
    arith)
    inside)) in
    agrees-same due m (from_page page (drop n log) next) (header_at size page (drop n log) next) (omega (
      arith,
      length_of-header_of ident (timeline next) next (left_of size rest page (drop n log) next),
    )) (sym (take-take m m (from_page page (drop n log) next) (omega arith))) agrees

pub rest_is : (ident : Ident) (timeline : ℕ → ℕ) (from prev : ℕ) (item : RecordIn) (log : List ℕ) (page : ℕ) → IsSegSize ident.size
    → from % 8 ≡ 0 → IsImage ident timeline from prev item log → IsPage page → from < page → page < from + length log
    → IsRest ident timeline (remaining ident.size (total_length item) from log page) page (drop (page - from) log)
rest_is ident timeline from prev item log page size_is eight is is_page past below =
    let size = ident.size in
    let total = total_length item in
    let n = page - from in
    let inside = page_inside ident timeline from prev page item log eight is is_page past below in
    let front = is.front in
    let counted = length-drop n front in
    let long = image_length ident timeline from prev item log is in
    let same : take n log ≡ take n front = ap (take n) is.parts ∙ take-append-le n front (replicate is.gap 0) (omega arith) in
    let here = left_is size total from page log past in
    let sides = two_sides size from page (length front - n) front (omega arith) (omega arith) in
    let all : length (content size from front) ≡ total = ap length is.bytes ∙ length-record_bytes prev item in
    let whole : take (n + (length front - n)) front ≡ front = take_all (n + (length front - n)) front (omega arith) in
    let past_it : take (length front - n) (drop n front) ≡ drop n front = take_all (length front - n) (drop n front) (omega arith) in
    record {
      headers = headers_of_rest ident timeline from prev page item log past below is;
      all = record {
        front = drop n front;
        gap = is.gap;
        parts = ap (drop n) is.parts ∙ drop-append-le n front (replicate is.gap 0) (omega arith);
        bytes = omega (
          arith,
          here,
          sides,
          all,
          ap (λ (t : List ℕ). length (content size from t)) same,
          ap (λ (t : List ℕ). length (content size from t)) whole,
          ap (λ (t : List ℕ). length (content size page t)) past_it,
        );
        last = subst (λ (p : ℕ). in_header size p ≡ false) (omega arith) is.last;
        few = is.few;
      };
      rounded = omega (arith, is.rounded, length-drop n log);
    }

pub rest_some : (ident : Ident) (timeline : ℕ → ℕ) (from prev : ℕ) (item : RecordIn) (log : List ℕ) (page : ℕ) → IsSegSize ident.size
    → from % 8 ≡ 0 → IsImage ident timeline from prev item log → IsPage page → from < page → page < from + length log
    → 0 < remaining ident.size (total_length item) from log page
rest_some ident timeline from prev item log page size_is eight is is_page past below =
    let size = ident.size in
    let n = page - from in
    let inside = page_inside ident timeline from prev page item log eight is is_page past below in
    let front = is.front in
    let same : take n log ≡ take n front = ap (take n) is.parts ∙ take-append-le n front (replicate is.gap 0) (omega arith) in
    omega (
      arith,
      left_is size (total_length item) from page log past,
      ap (λ (t : List ℕ). length (content size from t)) same,
      length-content-short size from n front inside is.last,
      ap length is.bytes,
      length-record_bytes prev item,
    )

pub rest_limit : (ident : Ident) (timeline : ℕ → ℕ) (from prev : ℕ) (item : RecordIn) (log : List ℕ) (page : ℕ) → IsSegSize ident.size
    → from % 8 ≡ 0 → IsImage ident timeline from prev item log → IsPage page → from < page → page < from + length log
    → remaining ident.size (total_length item) from log page ≤ 1048592
rest_limit ident timeline from prev item log page size_is eight is is_page past below = omega (
  arith,
  left_is ident.size (total_length item) from page log past,
  eight_before_page ident.size from page log size_is is_page (omega arith) (omega arith),
  is.item_is.short,
)
