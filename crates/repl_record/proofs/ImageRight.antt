-- Nothing is wrong in a record's image.
use Rattle.std.proofs.Common.{◌≡◌, ℕ, ◌+◌, ◌-◌, ◌%◌, ◌<◌, ◌≤◌, List, length, take, sym, ◌∙◌, subst, inl, inr, arith, ◌⊎◌}
use Rattle.std.proofs.lemmas.Bool.{cases_eq, cases_lt}
use Rattle.std.proofs.lemmas.List.{get_or-take, length-take-le}
use Rattle.repl_lsn.specs.Segment.{IsSegSize}
use Rattle.repl_page.specs.declared.fault.PageFault.{PageFault}
use Rattle.repl_page.specs.declared.ident.Ident.{Ident}
use Rattle.repl_page.specs.Page.{header_length}
use Rattle.repl_page.specs.Header.{Agrees, header_of}
use Rattle.repl_record.specs.declared.record.RecordIn.{RecordIn}
use Rattle.repl_record.specs.declared.answer.WalkReason.TheVariants as why
use Rattle.repl_record.specs.Record.{IsImage, content, from_page, remaining, total_length}
use Rattle.repl_record.specs.Judging.{IsHeaderFault, IsOpenBefore, IsRight, length_field}
use Rattle.repl_record.proofs.Fields.{part_of_front}
use Rattle.repl_record.proofs.Pages.{header_is}
use Rattle.repl_record.proofs.Headers.{no_fault, agrees-same, length_of-header_of, remaining-take}
use Rattle.repl_record.proofs.Content.{eight_before_page, length-content-front}
use Rattle.repl_record.proofs.ImageRightFields.{computed_begun, length_begun, prev_begun, reserved_begun, sum_begun}
use Rattle.repl_record.proofs.ImageRightFronts.{image_begun, image_front, image_not_over, image_zero}

-- ---- headers

-- by a page after the start the length is there
length_told : (ident : Ident) (timeline : ℕ → ℕ) (from prev m page : ℕ) (item : RecordIn) (log : List ℕ) → IsSegSize ident.size
    → from % 8 ≡ 0 → IsImage ident timeline from prev item log → m ≤ length log
    → page % 8192 ≡ 0 → from < page → page ≤ from + m → length_field (content ident.size from (take m log)) ≡ total_length item
length_told ident timeline from prev m page item log size_is eight is within is_page past inside =
    let front = take m log in
    let counted : length front ≡ m = length-take-le m log within in
    let before = eight_before_page ident.size from page front size_is is_page (omega arith) (omega arith) in
    let more = length-content-front ident.size from (page - from) front in
    length_begun prev item _ is.item_is (image_begun ident timeline from prev m item log is) (omega arith)

-- a header of the image that is there agrees
header_agrees : (ident : Ident) (timeline from m page remaining : ℕ) (log : List ℕ) → from ≤ page
    → from + m ≡ page + header_length ident.size page
    → Agrees (header_of ident timeline page remaining) (from_page from log page)
    → Agrees (header_of ident timeline page remaining) (from_page from (take m log) page)
header_agrees ident timeline from m page remaining log past ended agrees =
    let n = header_length ident.size page in
    agrees-same (header_of ident timeline page remaining) n (from_page from log page) (from_page from (take m log) page) (omega (
      arith,
      length_of-header_of ident timeline page remaining,
    )) (sym (part_of_front (page - from) n m log (omega arith))) agrees

-- so no header in the image is wrong
header_right : (ident : Ident) (timeline : ℕ → ℕ) (from prev m : ℕ) (item : RecordIn) (log : List ℕ) → IsSegSize ident.size → from % 8 ≡ 0
    → IsImage ident timeline from prev item log → m ≤ length log
    → (reason : PageFault) → ¬ IsHeaderFault ident timeline from (take m log) reason
header_right ident timeline from prev m item log size_is eight is within reason wrong =
    let page = wrong.page in
    let found = length_field (content ident.size from (take m log)) in
    let total = total_length item in
    let counted : length (take m log) ≡ m = length-take-le m log within in
    let ended : from + m ≡ page + header_length ident.size page = omega (arith, wrong.ended) in
    let inside : page < from + m = omega (arith, header_is ident.size page) in
    let told : (page ≡ from) ⊎ (found ≡ total) =
    elim (cases_eq page from) [
      | inl first ↦ inl first
      | inr later ↦ inr (length_told ident timeline from prev m page item log size_is eight is within wrong.is_page (omega (
        arith,
        wrong.began,
        later,
      )) (omega arith))
    ] in
    let same : remaining ident.size total from log page ≡ remaining ident.size found from (take m log) page =
    sym (remaining-take ident.size found total from page m log (omega arith) told) in
    let due = is.headers page wrong.is_page wrong.began (omega arith) in
    let here = header_agrees ident (timeline page) from m page (remaining ident.size total from log page) log wrong.began ended due in
    no_fault (header_of ident (timeline page) page (remaining ident.size found from (take m log) page)) (from_page from (take m log) page)
    reason wrong.fault
    (subst (λ (n : ℕ). Agrees (header_of ident (timeline page) page n) (from_page from (take m log) page)) same here)

-- ---- each fault

pub image_right : (ident : Ident) (timeline : ℕ → ℕ) (from prev m : ℕ) (item : RecordIn) (log : List ℕ) → IsSegSize ident.size
    → from % 8 ≡ 0 → IsImage ident timeline from prev item log → m ≤ length log
    → IsRight ident timeline from prev (take m log)
image_right ident timeline from prev m item log size_is eight is within (why.Page fault) wrong =
    header_right ident timeline from prev m item log size_is eight is within fault wrong
image_right ident timeline from prev m item log size_is eight is within (why.Length found) wrong =
    let begun = image_begun ident timeline from prev m item log is in
    let total : found ≡ total_length item = wrong.1 ∙ length_begun prev item _ is.item_is begun (omega (arith, wrong.0.count_is)) in
    wrong.2 (omega arith, omega (arith, is.item_is.short))
image_right ident timeline from prev m item log size_is eight is within (why.Prev found expected) wrong =
    let begun = image_begun ident timeline from prev m item log is in
    wrong.4 (wrong.2 ∙ prev_begun prev item _ is.follows begun (omega (arith, wrong.0.count_is)) ∙ sym wrong.3)
image_right ident timeline from prev m item log size_is eight is within why.Reserved wrong =
    wrong.2 (reserved_begun prev item _ (image_begun ident timeline from prev m item log is) (omega (arith, wrong.0.count_is)))
image_right ident timeline from prev m item log size_is eight is within (why.Checksum found computed) wrong =
    let begun = image_begun ident timeline from prev m item log is in
    let enough : 24 ≤ length (content ident.size from (take m log)) = omega (arith, wrong.0.count_is, wrong.1.0) in
    let total = length_begun prev item _ is.item_is begun (omega arith) in
    wrong.4 (wrong.2 ∙ sum_begun prev item _ begun enough ∙ sym (computed_begun prev item _ begun (wrong.0.count_is ∙ total)) ∙ sym wrong.3)
image_right ident timeline from prev m item log size_is eight is within why.Padding wrong =
    let begun = image_begun ident timeline from prev m item log is in
    let enough : 24 ≤ length (content ident.size from (take m log)) = omega (arith, wrong.1.0, wrong.2) in
    let total = length_begun prev item _ is.item_is begun (omega arith) in
    let counted : length (take m log) ≡ m = length-take-le m log within in
    elim (cases_lt (length is.front) m) [
      | inl past ↦ wrong.3 (get_or-take m log (length (take m log) - 1) 0 (omega arith)
          ∙ image_zero ident timeline from prev (length (take m log) - 1) item log is (omega arith) (omega arith))
      | inr before ↦ absurd (omega (arith, wrong.2, image_front ident timeline from prev m item log is before))
    ]

-- and the record is not over before
pub image_open : (ident : Ident) (timeline : ℕ → ℕ) (from prev : ℕ) (item : RecordIn) (log : List ℕ) → IsSegSize ident.size → from % 8 ≡ 0
    → IsImage ident timeline from prev item log → IsOpenBefore ident timeline from prev log (length log)
image_open ident timeline from prev item log size_is eight is m below = (
  image_not_over ident timeline from prev m item log is below,
  image_right ident timeline from prev m item log size_is eight is (omega arith),
)
