-- A log that ends where a record does is the image of that record.
use Rattle.std.proofs.Common.{◌≡◌, ℕ, ◌+◌, ◌-◌, ◌%◌, ◌^◌, ◌<◌, ◌≤◌, false, List, length, take, sym, ap, ◌∙◌, subst, inl, inr, arith}
use Rattle.std.proofs.lemmas.Bool.{cases_lt}
use Rattle.std.proofs.lemmas.List.{length-take-le, take_all}
use Rattle.repl_lsn.specs.Segment.{IsSegSize}
use Rattle.repl_page.specs.declared.ident.Ident.{Ident}
use Rattle.repl_page.specs.Page.{in_header}
use Rattle.repl_record.specs.declared.record.RecordIn.{RecordIn}
use Rattle.repl_record.specs.Record.{AreBytes, content, IsImage, HeadersAgree, total_length}
use Rattle.repl_record.specs.Judging.{IsLength, IsOver, IsOpenBefore, IsRight, length_field}
use Rattle.repl_record.proofs.Fields.{AreBytes-take}
use Rattle.repl_record.proofs.Content.{length-content, AreBytes-content}
use Rattle.repl_record.proofs.ContentFronts.{FrontOf, front_of}
use Rattle.repl_record.proofs.ImageMadeRecord.{item_of, total_is, record_is, item_is_record}
use Rattle.repl_record.proofs.ImageMadeFields.{IsRightUpTo, prev_is, reserved_is, sum_is, front_field}
use Rattle.repl_record.proofs.ImageMadeGap.{gap_is, zero_in_gap, zeros_from}
use Rattle.repl_record.proofs.ImageMadeHeaders.{headers_agree}

right_up_to : (ident : Ident) (timeline : ℕ → ℕ) (from prev : ℕ) (log : List ℕ) → IsOpenBefore ident timeline from prev log (length log)
    → IsRight ident timeline from prev log → IsRightUpTo ident timeline from prev log
right_up_to ident timeline from prev log before right n within =
    elim (cases_lt n (length log)) [
      | inl inside ↦ (before n inside).1
      | inr all ↦ subst (IsRight ident timeline from prev) (sym (take_all n log all)) right
    ]

-- the record, whose last byte is that of a front of the log
made : (ident : Ident) (timeline : ℕ → ℕ) (from prev : ℕ) (log : List ℕ) → IsSegSize ident.size → from % 8 ≡ 0 → prev < 2 ^ 64
    → AreBytes log
    → ((n : ℕ) → n < length log → ¬ IsOver ident.size from (take n log)) → IsRightUpTo ident timeline from prev log
    → IsOver ident.size from log
    → FrontOf ident.size from (length_field (content ident.size from log)) log → (item : RecordIn)
    × IsImage ident timeline from prev item log
made ident timeline from prev log is even fits are going right over front =
    let size = ident.size in
    let all = content size from log in
    let total = length_field all in
    let bytes = content size from (take front.m log) in
    let has = over.right in
    let bytes_are = subst AreBytes (sym front.content_is) (AreBytes-take total all (AreBytes-content size from log are)) in
    let long : length bytes ≡ total = ap length front.content_is ∙ length-take-le total all over.all in
    let field_is = λ (place width : ℕ) (within : place + width ≤ 24). front_field size from total place width log front (omega (
      arith,
      has.0,
    )) in
    let item = item_of bytes in
    let total_of : total_length item ≡ total = total_is bytes (omega (arith, has.0)) ∙ long in
    let some : 0 < front.m = omega (arith, has.0, length-content size from (take front.m log), length-take-le front.m log front.within) in
    let last : in_header size (from + front.m - 1) ≡ false =
    ap (λ (k : ℕ). in_header size (from + k - 1)) (sym (length-take-le front.m log front.within)) ∙ front.last in
    let gap = gap_is size from front.m log is has going front.within (omega arith) some last in (
      item,
      record {
        front = take front.m log;
        gap = length log - front.m;
        parts = zeros_from front.m log (zero_in_gap ident timeline from prev front.m log has right (omega arith) gap);
        item_is = item_is_record bytes bytes_are (subst IsLength (sym long) has);
        follows = fits;
        bytes = record_is prev bytes bytes_are (omega (arith, has.0)) (field_is 0 4 (omega arith) ∙ sym long)
            (field_is 8 8 (omega arith) ∙ prev_is ident timeline from prev log right has (omega (arith, has.0, over.all)))
            (field_is 18 2 (omega arith) ∙ reserved_is ident timeline from prev log right has (omega (arith, has.0, over.all)))
            (sum_is ident timeline from prev log right has over.all front);
        last = front.last;
        few = gap.few;
        rounded = over.rounded;
        headers = subst (λ (t : ℕ). HeadersAgree ident timeline t from log) (sym total_of) (headers_agree ident timeline from prev log is
            even over going right);
      },
    )

-- a log that ends where a record does, in which nothing is wrong up to there, is that record's image
pub image_from_over : (ident : Ident) (timeline : ℕ → ℕ) (from prev : ℕ) (log : List ℕ) → IsSegSize ident.size → from % 8 ≡ 0
    → prev < 2 ^ 64 → AreBytes log
    → IsOpenBefore ident timeline from prev log (length log) → IsRight ident timeline from prev log → IsOver ident.size from log
    → (item : RecordIn) × IsImage ident timeline from prev item log
image_from_over ident timeline from prev log is even fits are before right over =
    let front = front_of ident.size from (length_field (content ident.size from log)) log (omega (arith, over.right.0)) over.all in
    made ident timeline from prev log is even fits are (λ n inside. (before n inside).0) (right_up_to ident timeline from prev log before
    right) over front
