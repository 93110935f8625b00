-- Of the rest of a record there is one answer.
use Rattle.std.proofs.Common.{◌≡◌, ℕ, ◌+◌, ◌-◌, ◌<◌, ◌≤◌, List, length, take, drop, get_or, replicate, get_or-drop, refl, sym, ap, ◌∙◌, subst, inl, inr, arith, length-append}
use Rattle.std.proofs.lemmas.Bool.{cases_lt, cases_order}
use Rattle.std.proofs.lemmas.List.{drop_at, get_or-replicate, get_or-take, get_or_past, length-replicate, length-take-le, take-append-drop, take-take, take_at}
use Rattle.repl_lsn.specs.Segment.{IsSegSize}
use Rattle.repl_page.specs.declared.fault.PageFault.{PageFault}
use Rattle.repl_page.specs.declared.ident.Ident.{Ident}
use Rattle.repl_page.specs.Header.{Agrees}
use Rattle.repl_record.specs.declared.answer.WalkReason.{WalkReason}
use Rattle.repl_record.specs.declared.answer.WalkReason.TheVariants as why
use Rattle.repl_record.specs.Record.{LastIsContent, content}
use Rattle.repl_record.proofs.Content.{length-content-front, length-content-short, length-content-take}
use Rattle.repl_record.proofs.Headers.{no_fault}
use Rattle.repl_record.proofs.Pages.{header_is_whole}
use Rattle.repl_walk.specs.Rest.{HasAll, IsGapBegun, IsRestBegun, IsRestFault, IsRestWhole, IsWrongGap, IsWrongHeader, due_on, header_at}
use Rattle.repl_walk.proofs.RestPages.{fits_more}

-- ---- where the record's bytes end

-- they end with the log's first so many bytes
record EndsAt (ident : Ident) (rest from : ℕ) (log : List ℕ) (n : ℕ) : Type 0 where
  within : n ≤ length log
  bytes : length (content ident.size from (take n log)) ≡ rest
  last : LastIsContent ident.size from (take n log)

-- there is one such place
one_place : (ident : Ident) (rest from : ℕ) (log : List ℕ) (m n : ℕ) → EndsAt ident rest from log m → EndsAt ident rest from log n → m ≡ n
one_place ident rest from log m n a b =
    let size = ident.size in
    let m_is = length-take-le m log a.within in
    let n_is = length-take-le n log b.within in
    elim (cases_order m n) [
      | inl same ↦ same
      | inr (inl below) ↦ absurd (omega (
        arith,
        a.bytes,
        b.bytes,
        ap (λ (t : List ℕ). length (content size from t)) (take-take m n log (omega arith)),
        length-content-short size from m (take n log) (omega arith) b.last,
      ))
      | inr (inr above) ↦ absurd (omega (
        arith,
        a.bytes,
        b.bytes,
        ap (λ (t : List ℕ). length (content size from t)) (take-take n m log (omega arith)),
        length-content-short size from n (take m log) (omega arith) a.last,
      ))
    ]

ends_all : (ident : Ident) (rest from k : ℕ) (log : List ℕ) → k ≤ length log → (all : HasAll ident rest from (take k log))
    → EndsAt ident rest from log (length all.front) × (k ≡ length all.front + all.gap) × (drop (length all.front) (take k log)
    ≡ replicate all.gap 0)
ends_all ident rest from k log within all =
    let n = length all.front in
    let counted = length-take-le k log within in
    let both : k ≡ n + all.gap = omega (
      arith,
      counted,
      ap length all.parts
          ∙ length-append all.front (replicate all.gap 0) ∙ ap (λ (j : ℕ). n + j) (length-replicate all.gap 0),
    ) in
    let front : take n log ≡ all.front = sym (take-take n k log (omega arith)) ∙ ap (take n) all.parts
    ∙ take_at all.front (replicate all.gap 0) n refl in (
      record {
        within = omega arith;
        bytes = ap (λ (t : List ℕ). length (content ident.size from t)) front ∙ all.bytes;
        last = subst (LastIsContent ident.size from) (sym front) all.last;
      },
      both,
      ap (drop n) all.parts ∙ drop_at all.front (replicate all.gap 0) n refl,
    )

ends_wrong : (ident : Ident) (timeline : ℕ → ℕ) (rest from : ℕ) (log : List ℕ) → (is : IsWrongGap ident timeline rest from log)
    → EndsAt ident rest from log (length is.front) × (drop (length is.front) log ≡ is.past)
ends_wrong ident timeline rest from log is =
    let n = length is.front in
    let front : take n log ≡ is.front = ap (take n) is.parts ∙ take_at is.front is.past n refl in (
      record {
        within = omega (arith, ap length is.parts, length-append is.front is.past);
        bytes = ap (λ (t : List ℕ). length (content ident.size from t)) front ∙ is.bytes;
        last = subst (LastIsContent ident.size from) (sym front) is.last;
      },
      ap (drop n) is.parts ∙ drop_at is.front is.past n refl,
    )

-- what is begun has its bytes where all are there
begun_all : (ident : Ident) (rest from : ℕ) (log : List ℕ) → (gap : IsGapBegun ident rest from log)
    → EndsAt ident rest from log (length gap.all.front) × (length log ≡ length gap.all.front + gap.all.gap)
    × (drop (length gap.all.front) log ≡ replicate gap.all.gap 0)
begun_all ident rest from log gap =
    let all = gap.all in
    let n = length all.front in
    let both : length log ≡ n + all.gap = ap length all.parts ∙ length-append all.front (replicate all.gap 0)
    ∙ ap (λ (k : ℕ). n + k) (length-replicate all.gap 0) in
    let front : take n log ≡ all.front = ap (take n) all.parts ∙ take_at all.front (replicate all.gap 0) n refl in (
      record {
        within = omega arith;
        bytes = ap (λ (t : List ℕ). length (content ident.size from t)) front ∙ all.bytes;
        last = subst (LastIsContent ident.size from) (sym front) all.last;
      },
      both,
      ap (drop n) all.parts ∙ drop_at all.front (replicate all.gap 0) n refl,
    )

-- fewer bytes are there than up to that place
not_few : (ident : Ident) (rest from n : ℕ) (log : List ℕ) → EndsAt ident rest from log n → length (content ident.size from log) < rest → ⊥
not_few ident rest from n log ends few = absurd (omega (arith, ends.bytes, few, length-content-front ident.size from n log))

zeros_are_zero : (n i : ℕ) → let zeros : List ℕ = replicate n 0 in get_or zeros i 0 ≡ 0
zeros_are_zero n i =
    elim (cases_lt i n) [
      | inl inside ↦ get_or-replicate n i 0 0 inside
      | inr past ↦ let zeros : List ℕ = replicate n 0 in let counted : length zeros ≡ n = length-replicate n 0 in
          get_or_past zeros i 0 (omega arith)
    ]

-- ---- one answer

pub one_whole : (ident : Ident) (timeline : ℕ → ℕ) (rest from : ℕ) (log : List ℕ) (end other : ℕ)
    → IsRestWhole ident timeline rest from log end → IsRestWhole ident timeline rest from log other → end ≡ other
one_whole ident timeline rest from log end other a b =
    let one = ends_all ident rest from (end - from) log (omega (arith, a.within)) a.rest_is.all in
    let two = ends_all ident rest from (other - from) log (omega (arith, b.within)) b.rest_is.all in
    let same = one_place ident rest from log (length a.rest_is.all.front) (length b.rest_is.all.front) one.0 two.0 in
    omega (
      arith,
      same,
      one.1,
      two.1,
      a.after,
      b.after,
      a.rest_is.all.few,
      b.rest_is.all.few,
      a.rest_is.rounded,
      b.rest_is.rounded,
      length-take-le (end - from) log (omega (arith, a.within)),
      length-take-le (other - from) log (omega (arith, b.within)),
    )

pub whole_not_begun : (ident : Ident) (timeline : ℕ → ℕ) (rest from : ℕ) (log : List ℕ) (end : ℕ)
    → IsRestWhole ident timeline rest from log end → ¬ IsRestBegun ident timeline rest from log
whole_not_begun ident timeline rest from log end whole begun =
    let one = ends_all ident rest from (end - from) log (omega (arith, whole.within)) whole.rest_is.all in
    elim begun.few [
      | inl few ↦ not_few ident rest from (length whole.rest_is.all.front) log one.0 few
      | inr gap ↦
          let two = begun_all ident rest from log gap in
          let same = one_place ident rest from log (length whole.rest_is.all.front) (length gap.all.front) one.0 two.0 in
          absurd (omega (
            arith,
            same,
            one.1,
            two.1,
            whole.after,
            whole.within,
            whole.rest_is.rounded,
            gap.unrounded,
            gap.inside,
            length-take-le (end - from) log (omega (arith, whole.within)),
          ))
    ]

-- a header that is not due does not fit
wrong_not_fit : (ident : Ident) (timeline : ℕ → ℕ) (rest from page : ℕ) (log : List ℕ) (fault : PageFault)
    → IsWrongHeader ident timeline rest from log page fault
    → ¬ Agrees (due_on ident timeline rest from log page) (header_at ident.size from log page)
wrong_not_fit ident timeline rest from page log fault is =
    no_fault (due_on ident timeline rest from log page) (header_at ident.size from log page) fault is.fault

pub fault_not_begun : (ident : Ident) (timeline : ℕ → ℕ) (rest from : ℕ) (log : List ℕ) (at : ℕ) (reason : WalkReason)
    → IsSegSize ident.size
    → IsRestFault ident timeline rest from log at reason → ¬ IsRestBegun ident timeline rest from log
fault_not_begun ident timeline rest from log at (why.Page fault) size_is is begun =
    wrong_not_fit ident timeline rest from at log fault is (begun.headers at is.is_page is.began is.whole)
fault_not_begun ident timeline rest from log at why.Padding size_is is begun =
    let wrong = is.1 in
    let one = ends_wrong ident timeline rest from log wrong in
    elim begun.few [
      | inl few ↦ not_few ident rest from (length wrong.front) log one.0 few
      | inr gap ↦
          let two = begun_all ident rest from log gap in
          let same = one_place ident rest from log (length wrong.front) (length gap.all.front) one.0 two.0 in
          let past : wrong.past ≡ replicate gap.all.gap 0 = sym one.1 ∙ ap (λ (k : ℕ). drop k log) same ∙ two.2 in
          wrong.wrong (ap (λ (t : List ℕ). get_or t wrong.place 0) past ∙ zeros_are_zero gap.all.gap wrong.place)
    ]
fault_not_begun ident timeline rest from log at (why.Length found) size_is is begun = is
fault_not_begun ident timeline rest from log at (why.Prev found expected) size_is is begun = is
fault_not_begun ident timeline rest from log at why.Reserved size_is is begun = is
fault_not_begun ident timeline rest from log at (why.Checksum found computed) size_is is begun = is

pub fault_not_whole : (ident : Ident) (timeline : ℕ → ℕ) (rest from : ℕ) (log : List ℕ) (at end : ℕ) (reason : WalkReason)
    → IsSegSize ident.size
    → IsRestFault ident timeline rest from log at reason → ¬ IsRestWhole ident timeline rest from log end
fault_not_whole ident timeline rest from log at end (why.Page fault) size_is is whole =
    let size = ident.size in
    let k = end - from in
    let one = ends_all ident rest from k log (omega (arith, whole.within)) whole.rest_is.all in
    let n = length whole.rest_is.all.front in
    let counted = length-take-le k log (omega (arith, whole.within)) in
    let n_is = length-take-le n log one.0.within in
    let before : at - from < n = elim (cases_lt (at - from) n) [
      | inl less ↦ less
      | inr more ↦ absurd (omega (arith, length-content-take size from n (at - from) log more, one.0.bytes, is.goes_on))
    ] in
    let header = header_is_whole size at (from + length (take n log) - 1) size_is is.is_page (omega (arith, is.began)) one.0.last in
    let fits = whole.rest_is.headers at is.is_page is.began (omega (arith, one.1)) in
    let more = fits_more ident timeline rest from (take k log) (drop k log) at is.began (omega (arith, one.1)) fits in
    wrong_not_fit ident timeline rest from at log fault is (subst (λ (t : List ℕ). Agrees (due_on ident timeline rest from t at)
    (header_at size from t at)) (take-append-drop k log) more)
fault_not_whole ident timeline rest from log at end why.Padding size_is is whole =
    let wrong = is.1 in
    let k = end - from in
    let one = ends_wrong ident timeline rest from log wrong in
    let two = ends_all ident rest from k log (omega (arith, whole.within)) whole.rest_is.all in
    let n = length whole.rest_is.all.front in
    let gap = whole.rest_is.all.gap in
    let same = one_place ident rest from log (length wrong.front) n one.0 two.0 in
    let counted = length-take-le k log (omega (arith, whole.within)) in
    let inside : n + wrong.place < k = omega (
      arith,
      same,
      two.1,
      counted,
      wrong.unrounded,
      wrong.inside,
      whole.rest_is.rounded,
      whole.after,
    ) in
    let read : get_or wrong.past wrong.place 0 ≡ 0 = ap (λ (t : List ℕ). get_or t wrong.place 0) (sym one.1)
    ∙ get_or-drop (length wrong.front) log wrong.place 0
    ∙ ap (λ (j : ℕ). get_or log (j + wrong.place) 0) same
    ∙ sym (get_or-take k log (n + wrong.place) 0 inside)
    ∙ sym (get_or-drop n (take k log) wrong.place 0)
    ∙ ap (λ (t : List ℕ). get_or t wrong.place 0) two.2 ∙ zeros_are_zero gap wrong.place in
    wrong.wrong read
fault_not_whole ident timeline rest from log at end (why.Length found) size_is is whole = is
fault_not_whole ident timeline rest from log at end (why.Prev found expected) size_is is whole = is
fault_not_whole ident timeline rest from log at end why.Reserved size_is is whole = is
fault_not_whole ident timeline rest from log at end (why.Checksum found computed) size_is is whole = is
