-- Bytes of the log at whose ends nothing is judged.
use Rattle.std.proofs.Common.{◌≡◌, ◌≢◌, ℕ, ◌+◌, ◌-◌, ◌%◌, ◌<◌, ◌≤◌, true, List, ◌++◌, length, take, sym, ap, ◌∙◌, subst, inl, inr, arith}
use Rattle.std.proofs.lemmas.Bool.{cases_lt, both_ways}
use Rattle.std.proofs.lemmas.List.{take-append-le}
use Rattle.std.proofs.Math.Seq.{take-append-add}
use Rattle.repl_lsn.specs.Segment.{IsSegSize}
use Rattle.repl_page.specs.declared.ident.Ident.{Ident}
use Rattle.repl_page.specs.declared.fault.PageFault.{PageFault}
use Rattle.repl_page.specs.Page.{header_length, in_header}
use Rattle.repl_record.specs.declared.answer.WalkReason.TheVariants as why
use Rattle.repl_record.specs.Record.{LastIsContent, content}
use Rattle.repl_record.specs.Judging.{IsBeginning, IsHeaderFault, IsOpenBefore, IsOver, IsRight, length_field}
use Rattle.repl_record.proofs.Pages.{header_is, in_header_tells, place_on_page, same_header_length, still_in_header}

-- no record ends with the log's last byte, and nothing is wrong with it
abbrev pub IsCalm : Ident → (ℕ → ℕ) → ℕ → ℕ → List ℕ → Type 0
IsCalm ident timeline from prev log = (¬ IsOver ident.size from log) × IsRight ident timeline from prev log

-- ---- parts of a longer log

-- where the log is the beginning of a record, and a piece after it is calm up to a byte
pub open_more : (ident : Ident) (timeline : ℕ → ℕ) (from prev : ℕ) (log piece : List ℕ) (k : ℕ) → IsBeginning ident timeline from prev log
    → ((i : ℕ) → 0 < i → i < k → IsCalm ident timeline from prev (log ++ take i piece))
    → IsOpenBefore ident timeline from prev (log ++ piece) (length log + k)
open_more ident timeline from prev log piece k beginning calm m below =
    let Calm : List ℕ → Type 0 = λ l. IsCalm ident timeline from prev l in
    elim (cases_lt m (length log + 1)) [
      | inl inside ↦ subst Calm (sym (take-append-le m log piece (omega arith))) (beginning m inside)
      | inr past ↦
          let i = m - length log in
          let same : take m (log ++ piece) ≡ log ++ take i piece = ap (λ (n : ℕ). take n (log ++ piece)) (omega arith)
          ∙ take-append-add log piece i in
          subst Calm (sym same) (calm i (omega arith) (omega arith))
    ]

-- ---- where nothing is judged

-- a header that ends with the last byte has that byte in it
header_fault_inside : (ident : Ident) (timeline : ℕ → ℕ) (from : ℕ) (log : List ℕ) (fault : PageFault) → IsSegSize ident.size
    → IsHeaderFault ident timeline from log fault → in_header ident.size (from + length log - 1) ≡ true
header_fault_inside ident timeline from log fault is h =
    let size = ident.size in
    let two = header_is size h.page in
    let before = header_length size h.page - 1 in
    let at : from + length log - 1 ≡ h.page + before = omega (arith, two, h.ended) in
    ap (in_header size) at ∙ still_in_header size h.page before is (omega (arith, two, h.is_page))

-- so it is no byte of the record
pub header_fault_last : (ident : Ident) (timeline : ℕ → ℕ) (from : ℕ) (log : List ℕ) (fault : PageFault) → IsSegSize ident.size
    → IsHeaderFault ident timeline from log fault → ¬ LastIsContent ident.size from log
header_fault_last ident timeline from log fault is h last = both_ways (in_header ident.size (from + length log - 1)) last
    (header_fault_inside ident timeline from log fault is h)

-- after a header no byte is in it
pub header_fault_past : (ident : Ident) (timeline : ℕ → ℕ) (from : ℕ) (log : List ℕ) (fault : PageFault) → IsSegSize ident.size
    → IsHeaderFault ident timeline from log fault → in_header ident.size (from + length log) ≡ true → ⊥
header_fault_past ident timeline from log fault is h inside =
    let size = ident.size in
    let two = header_is size h.page in
    let long = header_length size h.page in
    let on_page : h.page % 8192 + long < 8192 = omega (arith, two, h.is_page) in
    let below = in_header_tells size (h.page + long) (ap (in_header size) (sym h.ended) ∙ inside) in
    absurd (omega (arith, two, h.is_page, below, place_on_page h.page long on_page, same_header_length size h.page long is on_page))

-- a part of a header, before its end
pub calm_header : (ident : Ident) (timeline : ℕ → ℕ) (from prev : ℕ) (log : List ℕ) → IsSegSize ident.size
    → in_header ident.size (from + length log - 1) ≡ true → ((fault : PageFault) → ¬ IsHeaderFault ident timeline from log fault)
    → IsCalm ident timeline from prev log
calm_header ident timeline from prev log is inside none =
    (λ over. both_ways (in_header ident.size (from + length log - 1)) over.last inside, right)
  where
    right : IsRight ident timeline from prev log
    right (why.Page fault) h = none fault h
    right (why.Length found) h = both_ways (in_header ident.size (from + length log - 1)) h.0.last inside
    right (why.Prev found expected) h = both_ways (in_header ident.size (from + length log - 1)) h.0.last inside
    right why.Reserved h = both_ways (in_header ident.size (from + length log - 1)) h.0.last inside
    right (why.Checksum found computed) h = both_ways (in_header ident.size (from + length log - 1)) h.0.last inside
    right why.Padding h = both_ways (in_header ident.size (from + length log - 1)) h.0 inside

-- a part of a record that ends with no byte of which something is judged
pub calm_record : (ident : Ident) (timeline : ℕ → ℕ) (from prev : ℕ) (log : List ℕ) → IsSegSize ident.size
    → LastIsContent ident.size from log
    → length (content ident.size from log) ≢ 4 → length (content ident.size from log) ≢ 16 → length (content ident.size from log) ≢ 20
    → (24 ≤ length (content ident.size from log) → length (content ident.size from log) < length_field (content ident.size from log))
    → IsCalm ident timeline from prev log
calm_record ident timeline from prev log is last four sixteen twenty less = (over, right)
  where
    count : ℕ
    count = length (content ident.size from log)

    over : ¬ IsOver ident.size from log
    over h = absurd (omega (arith, h.right, h.all, less (omega (arith, h.right, h.all))))

    right : IsRight ident timeline from prev log
    right (why.Page fault) h = header_fault_last ident timeline from log fault is h last
    right (why.Length found) h = four h.0.count_is
    right (why.Prev found expected) h = sixteen h.0.count_is
    right why.Reserved h = twenty h.0.count_is
    right (why.Checksum found computed) h = absurd (omega (arith, h.0.count_is, h.1, less (omega (arith, h.0.count_is, h.1))))
    right why.Padding h = absurd (omega (arith, h.1, h.2, less (omega (arith, h.1, h.2))))

-- ---- fields of a front
