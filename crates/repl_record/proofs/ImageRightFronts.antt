-- Fronts of a record's image: the bytes that are there of the record, and where it is over.
use Rattle.std.proofs.Common.{◌≡◌, ℕ, ◌+◌, ◌-◌, ◌%◌, ◌<◌, ◌≤◌, false, List, ◌++◌, length, take, get_or, replicate, refl, sym, ap, ◌∙◌, subst, inl, inr, arith, length-append}
use Rattle.std.proofs.lemmas.Bool.{cases_lt}
use Rattle.std.proofs.lemmas.List.{get_or-append_right, get_or-replicate, length-replicate, length-take-le, take-append-le, take_all}
use Rattle.repl_lsn.specs.Segment.{IsSegSize}
use Rattle.repl_page.specs.Page.{in_header}
use Rattle.repl_page.specs.declared.ident.Ident.{Ident}
use Rattle.repl_record.specs.declared.record.RecordIn.{RecordIn}
use Rattle.repl_record.specs.Record.{IsImage, LastIsContent, content, record_bytes, total_length}
use Rattle.repl_record.specs.Judging.{IsOver, length_field}
use Rattle.repl_record.proofs.Pages.{same_eight}
use Rattle.repl_record.proofs.Content.{content-append, length-content, take-content, length-content-front, length-content-short}
use Rattle.repl_record.proofs.ImageRightFields.{IsBegun, length-record_bytes, length_begun}

-- ---- the record's bytes in an image

-- the image is its front and the gap
pub image_length : (ident : Ident) (timeline : ℕ → ℕ) (from prev : ℕ) (item : RecordIn) (log : List ℕ)
    → (is : IsImage ident timeline from prev item log) → length log ≡ length is.front + is.gap
image_length ident timeline from prev item log is = ap length is.parts ∙ length-append is.front (replicate is.gap 0)
    ∙ ap (λ (n : ℕ). length is.front + n) (length-replicate is.gap 0)

-- the front has the record's bytes
front_length : (ident : Ident) (timeline : ℕ → ℕ) (from prev : ℕ) (item : RecordIn) (log : List ℕ)
    → (is : IsImage ident timeline from prev item log) → length (content ident.size from is.front) ≡ total_length item
front_length ident timeline from prev item log is = ap length is.bytes ∙ length-record_bytes prev item

-- and the image no others but zeros after them
image_content : (ident : Ident) (timeline : ℕ → ℕ) (from prev : ℕ) (item : RecordIn) (log : List ℕ)
    → (is : IsImage ident timeline from prev item log) → content ident.size from log ≡ record_bytes prev item
    ++ content ident.size (from + length is.front) (replicate is.gap 0)
image_content ident timeline from prev item log is =
    let rest = content ident.size (from + length is.front) (replicate is.gap 0) in
    ap (content ident.size from) is.parts ∙ content-append ident.size from is.front (replicate is.gap 0)
    ∙ ap (λ (t : List ℕ). t ++ rest) is.bytes

-- so a front of the image begins as the record does
pub image_begun : (ident : Ident) (timeline : ℕ → ℕ) (from prev m : ℕ) (item : RecordIn) (log : List ℕ)
    → IsImage ident timeline from prev item log → IsBegun prev item (content ident.size from (take m log))
image_begun ident timeline from prev m item log is =
    let n = length (content ident.size from (take m log)) in
    record {
      rest = content ident.size (from + length is.front) (replicate is.gap 0);
      front = ap (take n) (sym (image_content ident timeline from prev item log is)) ∙ take-content ident.size from m log;
    }

-- up to the record's last byte there are no more bytes than it has, and before it fewer
pub image_front : (ident : Ident) (timeline : ℕ → ℕ) (from prev m : ℕ) (item : RecordIn) (log : List ℕ)
    → (is : IsImage ident timeline from prev item log) → m ≤ length is.front
    → length (content ident.size from (take m log)) ≤ total_length item
image_front ident timeline from prev m item log is within =
    let same : take m log ≡ take m is.front = ap (take m) is.parts ∙ take-append-le m is.front (replicate is.gap 0) within in
    omega (
      arith,
      ap (λ (t : List ℕ). length (content ident.size from t)) same,
      length-content-front ident.size from m is.front,
      front_length ident timeline from prev item log is,
    )

image_short : (ident : Ident) (timeline : ℕ → ℕ) (from prev m : ℕ) (item : RecordIn) (log : List ℕ)
    → (is : IsImage ident timeline from prev item log) → m < length is.front
    → length (content ident.size from (take m log)) < total_length item
image_short ident timeline from prev m item log is below =
    let same : take m log ≡ take m is.front = ap (take m) is.parts ∙ take-append-le m is.front (replicate is.gap 0) (omega arith) in
    omega (
      arith,
      ap (λ (t : List ℕ). length (content ident.size from t)) same,
      length-content-short ident.size from m is.front below is.last,
      front_length ident timeline from prev item log is,
    )

-- after it there are zeros
pub image_zero : (ident : Ident) (timeline : ℕ → ℕ) (from prev i : ℕ) (item : RecordIn) (log : List ℕ)
    → (is : IsImage ident timeline from prev item log) → length is.front ≤ i → i < length log → get_or log i 0 ≡ 0
image_zero ident timeline from prev i item log is past below =
    ap (λ (t : List ℕ). get_or t i 0) is.parts
    ∙ get_or-append_right is.front (replicate is.gap 0) (length is.front) i 0 refl past
    ∙ get_or-replicate is.gap (i - length is.front) 0 0 (omega (arith, image_length ident timeline from prev item log is))

-- ---- where it is over

-- the front is not empty
pub front_some : (ident : Ident) (timeline : ℕ → ℕ) (from prev : ℕ) (item : RecordIn) (log : List ℕ)
    → (is : IsImage ident timeline from prev item log) → 24 ≤ length is.front
front_some ident timeline from prev item log is = omega (
  arith,
  front_length ident timeline from prev item log is,
  length-content ident.size from is.front,
)

-- the last byte is none of a header: the gap ends with the eight bytes in which the record does
image_last : (ident : Ident) (timeline : ℕ → ℕ) (from prev : ℕ) (item : RecordIn) (log : List ℕ) → IsSegSize ident.size
    → IsImage ident timeline from prev item log → LastIsContent ident.size from log
image_last ident timeline from prev item log size_is is =
    let all = image_length ident timeline from prev item log is in
    let some = front_some ident timeline from prev item log is in
    let last = from + length is.front - 1 in
    let place : last + is.gap ≡ from + length log - 1 = omega arith in
    let inside : last % 8 + is.gap < 8 = omega (arith, is.rounded, is.few) in
    subst (λ (p : ℕ). in_header ident.size p ≡ false) place (same_eight ident.size last is.gap size_is is.last inside)

-- the record is over with the image
pub image_over : (ident : Ident) (timeline : ℕ → ℕ) (from prev : ℕ) (item : RecordIn) (log : List ℕ) → IsSegSize ident.size
    → IsImage ident timeline from prev item log → IsOver ident.size from log
image_over ident timeline from prev item log size_is is =
    let all : take (length log) log ≡ log = take_all (length log) log (omega arith) in
    let bytes = content ident.size from log in
    let begun = subst (λ (t : List ℕ). IsBegun prev item (content ident.size from t)) all (image_begun ident timeline from prev (length log)
    item log is) in
    let rest = content ident.size (from + length is.front) (replicate is.gap 0) in
    let enough : total_length item ≤ length bytes = omega (
      arith,
      ap length (image_content ident timeline from prev item log is),
      length-append (record_bytes prev item) rest,
      length-record_bytes prev item,
    ) in
    let total : length_field bytes ≡ total_length item = length_begun prev item bytes is.item_is begun (omega arith) in
    record {
      right = (omega arith, omega (arith, is.item_is.short));
      all = omega arith;
      last = image_last ident timeline from prev item log size_is is;
      rounded = is.rounded;
    }

-- and not before
pub image_not_over : (ident : Ident) (timeline : ℕ → ℕ) (from prev m : ℕ) (item : RecordIn) (log : List ℕ)
    → IsImage ident timeline from prev item log → m < length log → ¬ IsOver ident.size from (take m log)
image_not_over ident timeline from prev m item log is below over =
    let counted : length (take m log) ≡ m = length-take-le m log (omega arith) in
    let total : length_field (content ident.size from (take m log)) ≡ total_length item =
    length_begun prev item _ is.item_is (image_begun ident timeline from prev m item log is) (omega (arith, over.right.0, over.all)) in
    elim (cases_lt m (length is.front)) [
      | inl before ↦ absurd (omega (arith, over.all, image_short ident timeline from prev m item log is before))
      | inr past ↦ absurd (omega (arith, over.rounded, is.rounded, is.few, image_length ident timeline from prev item log is))
    ]
