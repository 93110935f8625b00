-- The rest of a record has one fault at most.
use Rattle.std.proofs.Common.{rules, ◌≡◌, ℕ, ◌+◌, ◌-◌, ◌<◌, ◌≤◌, List, length, take, drop, refl, sym, ap, ◌∙◌, subst, inl, inr, arith, length-append}
use Rattle.std.proofs.lemmas.Bool.{cases_lt, cases_order}
use Rattle.std.proofs.lemmas.List.{length-take-le, take-append-drop, take_at}
use Rattle.repl_lsn.specs.Segment.{IsSegSize}
use Rattle.repl_page.specs.declared.fault.PageFault.{PageFault}
use Rattle.repl_page.specs.declared.header.PageHeader.{PageHeader}
use Rattle.repl_page.specs.declared.ident.Ident.{Ident}
use Rattle.repl_page.specs.Header.{Agrees, IsPageFault}
use Rattle.repl_page.specs.Page.{header_length}
use Rattle.repl_record.specs.declared.answer.WalkReason.{WalkReason}
use Rattle.repl_record.specs.declared.answer.WalkReason.TheVariants as why
use Rattle.repl_record.specs.Record.{content}
use Rattle.repl_record.proofs.Content.{length-content-take}
use Rattle.repl_record.proofs.Headers.{no_fault}
use Rattle.repl_record.proofs.Pages.{header_is, header_is_whole}
use Rattle.repl_walk.specs.Rest.{HeadersFit, IsRestFault, IsWrongGap, IsWrongHeader, due_on, header_at}
use Rattle.repl_walk.proofs.RestPages.{fits_more}

-- bytes have one fault against a header
same_page_fault : (header : PageHeader) (bytes : List ℕ) (a b : PageFault) → IsPageFault header bytes a → IsPageFault header bytes b → a ≡ b
same_page_fault header bytes a b first second = search rules

-- the header of a page that is whole in a part where headers fit is no wrong one
fits_not_wrong : (ident : Ident) (timeline : ℕ → ℕ) (rest from page n : ℕ) (log : List ℕ) (fault : PageFault) → n ≤ length log
    → HeadersFit ident timeline rest from (take n log) → page + header_length ident.size page ≤ from + n
    → IsWrongHeader ident timeline rest from log page fault → ⊥
fits_not_wrong ident timeline rest from page n log fault within fit whole is =
    let counted = length-take-le n log within in
    let inside : page + header_length ident.size page ≤ from + length (take n log) = omega (arith, counted) in
    let agrees = fits_more ident timeline rest from (take n log) (drop n log) page is.began inside (fit page is.is_page is.began inside) in
    no_fault (due_on ident timeline rest from log page) (header_at ident.size from log page) fault is.fault
    (subst (λ (t : List ℕ). Agrees (due_on ident timeline rest from t page) (header_at ident.size from t page)) (take-append-drop n log) agrees)

-- two wrong headers are those of one page
page_not_before : (ident : Ident) (timeline : ℕ → ℕ) (rest from page other : ℕ) (log : List ℕ) (fault another : PageFault) → page < other
    → IsWrongHeader ident timeline rest from log page fault → IsWrongHeader ident timeline rest from log other another → ⊥
page_not_before ident timeline rest from page other log fault another below a b =
    fits_not_wrong ident timeline rest from page (other - from) log fault (omega (arith, b.whole)) b.before (omega (
      arith,
      header_is ident.size page,
      a.is_page,
      a.began,
      b.is_page,
    )) a

-- after a wrong header no gap is judged
header_or_gap : (ident : Ident) (timeline : ℕ → ℕ) (rest from page : ℕ) (log : List ℕ) (fault : PageFault) → IsSegSize ident.size
    → IsWrongHeader ident timeline rest from log page fault → IsWrongGap ident timeline rest from log → ⊥
header_or_gap ident timeline rest from page log fault size_is is gap =
    let size = ident.size in
    let n = length gap.front in
    let front : take n log ≡ gap.front = ap (take n) gap.parts ∙ take_at gap.front gap.past n refl in
    let within : n ≤ length log = omega (arith, ap length gap.parts, length-append gap.front gap.past) in
    let counted : length (content size from (take n log)) ≡ rest = ap (λ (t : List ℕ). length (content size from t)) front ∙ gap.bytes in
    let before : page - from < n = elim (cases_lt (page - from) n) [
      | inl less ↦ less
      | inr more ↦ absurd (omega (arith, length-content-take size from n (page - from) log more, counted, is.goes_on))
    ] in
    let header = header_is_whole size page (from + n - 1) size_is is.is_page (omega (arith, is.began, before)) gap.last in
    fits_not_wrong ident timeline rest from page n log fault within
    (subst (HeadersFit ident timeline rest from) (sym front) gap.headers) (omega (arith, header, before)) is

pub one_rest_fault : (ident : Ident) (timeline : ℕ → ℕ) (rest from at place : ℕ) (log : List ℕ) (reason cause : WalkReason)
    → IsSegSize ident.size → IsRestFault ident timeline rest from log at reason → IsRestFault ident timeline rest from log place cause
    → (at ≡ place) × (reason ≡ cause)
one_rest_fault ident timeline rest from at place log (why.Page fault) (why.Page another) size_is a b =
    elim (cases_order at place) [
      | inl same ↦
          let here = subst (λ (p : ℕ). IsWrongHeader ident timeline rest from log p another) (sym same) b in (
            same,
            ap why.Page (same_page_fault (due_on ident timeline rest from log at) (header_at ident.size from log at) fault another a.fault
                here.fault),
          )
      | inr (inl below) ↦ absurd (page_not_before ident timeline rest from at place log fault another below a b)
      | inr (inr above) ↦ absurd (page_not_before ident timeline rest from place at log another fault above b a)
    ]
one_rest_fault ident timeline rest from at place log (why.Page fault) why.Padding size_is a b =
    absurd (header_or_gap ident timeline rest from at log fault size_is a b.1)
one_rest_fault ident timeline rest from at place log why.Padding (why.Page fault) size_is a b =
    absurd (header_or_gap ident timeline rest from place log fault size_is b a.1)
one_rest_fault ident timeline rest from at place log why.Padding why.Padding size_is a b = (a.0 ∙ sym b.0, refl)
one_rest_fault ident timeline rest from at place log (why.Length found) cause size_is a b = absurd a
one_rest_fault ident timeline rest from at place log (why.Prev found expected) cause size_is a b = absurd a
one_rest_fault ident timeline rest from at place log why.Reserved cause size_is a b = absurd a
one_rest_fault ident timeline rest from at place log (why.Checksum found computed) cause size_is a b = absurd a
one_rest_fault ident timeline rest from at place log (why.Page fault) (why.Length found) size_is a b = absurd b
one_rest_fault ident timeline rest from at place log (why.Page fault) (why.Prev found expected) size_is a b = absurd b
one_rest_fault ident timeline rest from at place log (why.Page fault) why.Reserved size_is a b = absurd b
one_rest_fault ident timeline rest from at place log (why.Page fault) (why.Checksum found computed) size_is a b = absurd b
one_rest_fault ident timeline rest from at place log why.Padding (why.Length found) size_is a b = absurd b
one_rest_fault ident timeline rest from at place log why.Padding (why.Prev found expected) size_is a b = absurd b
one_rest_fault ident timeline rest from at place log why.Padding why.Reserved size_is a b = absurd b
one_rest_fault ident timeline rest from at place log why.Padding (why.Checksum found computed) size_is a b = absurd b
