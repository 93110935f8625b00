-- Where nothing is wrong at any front of a log that is over, and none of them is over before, the headers of its pages
-- are those of the image.
use Rattle.std.proofs.Common.{◌≡◌, ◌≢◌, ℕ, ◌+◌, ◌-◌, ◌%◌, ◌<◌, ◌≤◌, ◌⊎◌, false, List, length, take, sym, ap, ◌∙◌, subst, inl, inr, arith}
use Rattle.std.proofs.lemmas.Bool.{cases_lt, cases_eq}
use Rattle.std.proofs.lemmas.List.{length-take-le, take-take}
use Rattle.repl_lsn.specs.Segment.{IsSegSize}
use Rattle.repl_page.specs.declared.ident.Ident.{Ident}
use Rattle.repl_page.specs.Page.{header_length, in_header}
use Rattle.repl_page.specs.Header.{Agrees, header_of}
use Rattle.repl_record.specs.declared.answer.WalkReason.TheVariants as why
use Rattle.repl_record.specs.Record.{content, from_page, remaining, HeadersAgree}
use Rattle.repl_record.specs.Judging.{IsLength, HasLength, IsOver, length_field}
use Rattle.repl_record.proofs.Fields.{part_of_front}
use Rattle.repl_record.proofs.Pages.{before_page, header_is_whole}
use Rattle.repl_record.proofs.Headers.{remaining-take, agrees_from_no_fault, agrees-same, length_of-header_of}
use Rattle.repl_record.proofs.Content.{eight_before_page, content-before_page}
use Rattle.repl_record.proofs.ImageMadeFields.{IsRightUpTo}
use Rattle.repl_record.proofs.ImageMadeGap.{length_field-take, over_front}

-- ---- one page

-- with the header there is no more content than before it
content_before_header : (size from page : ℕ) (log : List ℕ) → IsSegSize size → page % 8192 ≡ 0 → from ≤ page
    → page + header_length size page ≤ from + length log
    → content size from (take (page + header_length size page - from) log) ≡ content size from (take (page - from) log)
content_before_header size from page log is is_page began within =
    let n = page + header_length size page - from in
    let long = length-take-le n log (omega arith) in
    content-before_page size from page (take n log) is is_page began (omega arith) (omega arith)
    ∙ ap (content size from) (take-take (page - from) n log (omega arith))

-- the record goes on at a page that begins in its image
goes_on_at : (size from page : ℕ) (log : List ℕ) → IsSegSize size → from % 8 ≡ 0 → HasLength (content size from log)
    → ((n : ℕ) → n < length log → ¬ IsOver size from (take n log))
    → page % 8192 ≡ 0 → from ≤ page → page ≢ from → page + header_length size page < from + length log
    → let bytes = content size from (take (page + header_length size page - from) log) in
    (length_field bytes ≡ length_field (content size from log)) × (length bytes < length_field bytes)
goes_on_at size from page log is even has going is_page began later within =
    let place = page - from in
    let n = page + header_length size page - from in
    let same = ap length (content_before_header size from page log is is_page began (omega arith)) in
    let eight = eight_before_page size from page log is is_page (omega arith) (omega arith) in
    let total = length_field-take size from n log (omega arith) in
    let before : in_header size (from + place - 1) ≡ false = let here : from + place - 1 ≡ page - 1 =
    omega arith in ap (in_header size) here ∙ before_page size page is_page (omega arith) in
    elim (cases_lt (length (content size from (take place log))) (length_field (content size from log))) [
      | inl short ↦ (total, omega arith)
      | inr over ↦ absurd (going place (omega arith) (over_front size from place log (omega arith) has over before (omega arith)))
    ]

page_agrees : (ident : Ident) (timeline : ℕ → ℕ) (from prev : ℕ) (log : List ℕ) → IsSegSize ident.size → from % 8 ≡ 0
    → HasLength (content ident.size from log)
    → ((n : ℕ) → n < length log → ¬ IsOver ident.size from (take n log)) → IsRightUpTo ident timeline from prev log
    → (page : ℕ) → page % 8192 ≡ 0 → from ≤ page → page + header_length ident.size page < from + length log
    → Agrees (header_of ident (timeline page) page (remaining ident.size (length_field (content ident.size from log)) from log page))
    (from_page from log page)
page_agrees ident timeline from prev log is even has going right page is_page began within =
    let limit = header_length ident.size page in
    let n = page + limit - from in
    let bytes = content ident.size from (take n log) in
    let total = length_field bytes in
    let expected = header_of ident (timeline page) page (remaining ident.size total from (take n log) page) in
    let wanted = header_of ident (timeline page) page (remaining ident.size (length_field (content ident.size from log)) from log page) in
    let long = length-take-le n log (omega arith) in
    let goes_on = λ (later : page ≢ from). goes_on_at ident.size from page log is even has going is_page began later within in
    let due : (page ≡ from) ⊎ (HasLength bytes × (length bytes < total)) =
    elim (cases_eq page from) [
      | inl same ↦ inl same
      | inr later ↦ inr (
        subst IsLength (sym (goes_on later).0) has,
        (goes_on later).1,
      )
    ] in
    let totals : (page ≡ from) ⊎ (total ≡ length_field (content ident.size from log)) =
    elim (cases_eq page from) [ inl same ↦ inl same | inr later ↦ inr (goes_on later).0 ] in
    let judged = agrees_from_no_fault expected (from_page from (take n log) page) (λ fault found.
    right n (omega arith) (why.Page fault) (record {
      page = page;
      is_page = is_page;
      began = began;
      ended = omega arith;
      within = due;
      fault = found;
    })) in
    let same = remaining-take ident.size total (length_field (content ident.size from log)) from page n log (omega arith) totals in
    let here = subst (λ (r : ℕ). Agrees (header_of ident (timeline page) page r) (from_page from (take n log) page)) same judged in
    agrees-same wanted limit (from_page from (take n log) page) (from_page from log page) (omega (
      arith,
      length_of-header_of ident (timeline page) page (remaining ident.size (length_field (content ident.size from log)) from log page),
    ))
    (part_of_front (page - from) limit n log (omega arith)) here

-- ---- all pages

pub headers_agree : (ident : Ident) (timeline : ℕ → ℕ) (from prev : ℕ) (log : List ℕ) → IsSegSize ident.size → from % 8 ≡ 0
    → IsOver ident.size from log
    → ((n : ℕ) → n < length log → ¬ IsOver ident.size from (take n log)) → IsRightUpTo ident timeline from prev log
    → HeadersAgree ident timeline (length_field (content ident.size from log)) from log
headers_agree ident timeline from prev log is even over going right page is_page began within =
    let whole = header_is_whole ident.size page (from + length log - 1) is is_page (omega arith) over.last in
    page_agrees ident timeline from prev log is even over.right going right page is_page began (omega arith)
