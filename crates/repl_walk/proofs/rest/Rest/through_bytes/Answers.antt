-- The record's bytes go on after the page, or end on it; then zeros follow, or a byte that is wrong.
use Rattle.std.proofs.Common.{
  ◌≡◌,
  ◌≢◌,
  ℕ,
  ◌+◌,
  ◌-◌,
  ◌<◌,
  ◌≤◌,
  List,
  ◌++◌,
  length,
  take,
  drop,
  get_or,
  ap,
  sym,
  ◌∙◌,
  subst,
  arith,
  get_or-drop,
}
use Rattle.std.proofs.lemmas.List.{get_or-take, length-drop, length-take}
use Rattle.repl_page.specs.Page.{header_length}
use Rattle.repl_page.specs.Header.{Agrees, header_of}
use Rattle.repl_walk.specs.declared.rest.Rest.{Rest}
use Rattle.repl_walk.specs.Rest.{IsRestWhole}
use Rattle.repl_walk.proofs.RestPages.{IsDue, gap_begun, gap_differs, page_all, page_begun, page_passed, page_whole}
use Rattle.repl_walk.proofs.rest.Rest.through_bytes.Goals as goal

pub returns-then-room-left-clause-answers : goal.returns-then-room-left-clause-answers
returns-then-room-left-clause-answers c timeline rest from log passed on =
    let r = c.args.self.now in
    let left = ap (λ (n : Rest). n.left) c.self.view_is in
    let due : IsDue r timeline rest from c.args.tli log c.args.page.now = record {
      passed = passed;
      size_is = c.requires.size;
      on = on;
      enough = omega (arith, c.requires.header, c.requires.whole);
      few = c.requires.fits;
      agrees = subst (λ (n : ℕ). Agrees (header_of r.ident c.args.tli r.at r.left) (take n c.args.page.now)) c.requires.header
          c.requires.agrees;
    } in
    page_begun due (omega (arith, left, c.if-room-left.true, c.requires.header, c.requires.whole))

pub returns-then-room-left-clause-goes_on : goal.returns-then-room-left-clause-goes_on
returns-then-room-left-clause-goes_on c timeline rest from log passed on whole =
    let r = c.args.self.now in
    let left = ap (λ (n : Rest). n.left) c.self.view_is in
    let at = ap (λ (n : Rest). n.at) c.self.view_is in
    let due : IsDue r timeline rest from c.args.tli log c.args.page.now = record {
      passed = passed;
      size_is = c.requires.size;
      on = on;
      enough = omega (arith, c.requires.header, c.requires.whole);
      few = c.requires.fits;
      agrees = subst (λ (n : ℕ). Agrees (header_of r.ident c.args.tli r.at r.left) (take n c.args.page.now)) c.requires.header
          c.requires.agrees;
    } in
    page_passed due (ap (λ (n : Rest). n.ident) c.self.view_is) (ap (λ (n : Rest). n.from) c.self.view_is) (omega (arith, at)) (omega (
      arith,
      left,
      c.if-room-left.true,
      c.requires.header,
      c.requires.whole,
    )) (omega (arith, c.if-room-left.true)) whole

-- what a gap has that is a part of the page
in_gap : (m n place k : ℕ) (page : List ℕ) → m ≡ k → place < n → get_or (take n (drop m page)) place 0 ≢ 0
    → get_or (drop k page) place 0 ≢ 0
in_gap m n place k page same inside set zero = set (get_or-take n (drop m page) place 0 inside
    ∙ ap (λ (j : ℕ). get_or (drop j page) place 0) same
    ∙ zero)

-- where it has nothing but zeros
no_set : (m n k first : ℕ) (page : List ℕ) → m ≡ k → length (take n (drop m page)) ≤ first
    → ((i : ℕ) → i < first → get_or (take n (drop m page)) i 0 ≡ 0) → m + n ≤ length page
    → (i : ℕ) → i < n → get_or page (k + i) 0 ≡ 0
no_set m n k first page same all zero within i below =
    let counted = length-take n (drop m page) in
    ap (λ (j : ℕ). get_or page (j + i) 0) (sym same) ∙ sym (get_or-drop m page i 0) ∙ sym (get_or-take n (drop m page) i 0 below)
    ∙ zero i (omega (arith, counted, length-drop m page))

pub returns-then-first_set-gap-clause-answers : goal.returns-then-first_set-gap-clause-answers
returns-then-first_set-gap-clause-answers c timeline rest from log passed on =
    let r = c.args.self.now in
    let page = c.args.page.now in
    let left = ap (λ (n : Rest). n.left) c.self.view_is in
    let begins = ap (λ (n : Rest). n.from) c.self.view_is in
    let due : IsDue r timeline rest from c.args.tli log c.args.page.now = record {
      passed = passed;
      size_is = c.requires.size;
      on = on;
      enough = omega (arith, c.requires.header, c.requires.whole);
      few = c.requires.fits;
      agrees = subst (λ (n : ℕ). Agrees (header_of r.ident c.args.tli r.at r.left) (take n c.args.page.now)) c.requires.header
          c.requires.agrees;
    } in
    let m = c.args.header + c.self.inside.0.1.1.1.0 in
    let n = c.min.result - m in
    let place = c.first_set.result in
    let some = c.if-first_set-gap.true in
    let end = c.next_multiple_of-end.ensures in
    let k = header_length r.ident.size r.at + r.left in
    let same : m ≡ k = omega (arith, left, c.requires.header) in
    let counted = length-take n (drop m page) in
    let inside : place < n = omega (arith, some, counted) in
    let wrong = in_gap m n place k page same inside (c.first_set.ensures.found some) in
    let gap : n ≤ c.next_multiple_of-end.result - m = omega (arith, c.min.ensures) in (
      begins ∙ passed.begins,
      gap_differs place due (omega (arith, end.multiple, end.upper_bound, end.lower_bound, same)) (omega (
        arith,
        end.multiple,
        end.upper_bound,
        end.lower_bound,
        same,
      )) (omega (arith, same, c.if-room-left.false)) wrong,
    )

pub returns-then-page-end-clause-answers : goal.returns-then-page-end-clause-answers
returns-then-page-end-clause-answers c timeline rest from log passed on =
    let r = c.args.self.now in
    let page = c.args.page.now in
    let left = ap (λ (n : Rest). n.left) c.self.view_is in
    let due : IsDue r timeline rest from c.args.tli log c.args.page.now = record {
      passed = passed;
      size_is = c.requires.size;
      on = on;
      enough = omega (arith, c.requires.header, c.requires.whole);
      few = c.requires.fits;
      agrees = subst (λ (n : ℕ). Agrees (header_of r.ident c.args.tli r.at r.left) (take n c.args.page.now)) c.requires.header
          c.requires.agrees;
    } in
    let m = c.args.header + c.self.inside.0.1.1.1.0 in
    let n = c.min.result - m in
    let end = c.next_multiple_of-end.ensures in
    let k = header_length r.ident.size r.at + r.left in
    let same : m ≡ k = omega (arith, left, c.requires.header) in
    let within : m ≤ length page = omega (arith, c.if-room-left.false, c.requires.whole) in
    let least : c.min.result ≡ length page = omega (arith, c.min.ensures, c.if-page-end.true) in
    let zero = no_set m n k c.first_set.result page same c.if-first_set-gap.false c.first_set.ensures.before (omega (arith, least)) in
    gap_begun due (omega (arith, same, within)) (omega (
      arith,
      same,
      end.multiple,
      end.upper_bound,
      end.lower_bound,
      c.if-page-end.true,
    )) (omega (
      arith,
      same,
      end.multiple,
      end.upper_bound,
      end.lower_bound,
      c.if-page-end.true,
    )) (λ i below. zero i (omega (arith, same, least)))

pub returns-clause-answers : goal.returns-clause-answers
returns-clause-answers c timeline rest from log passed on =
    let r = c.args.self.now in
    let page = c.args.page.now in
    let left = ap (λ (n : Rest). n.left) c.self.view_is in
    let at = ap (λ (n : Rest). n.at) c.self.view_is in
    let due : IsDue r timeline rest from c.args.tli log c.args.page.now = record {
      passed = passed;
      size_is = c.requires.size;
      on = on;
      enough = omega (arith, c.requires.header, c.requires.whole);
      few = c.requires.fits;
      agrees = subst (λ (n : ℕ). Agrees (header_of r.ident c.args.tli r.at r.left) (take n c.args.page.now)) c.requires.header
          c.requires.agrees;
    } in
    let m = c.args.header + c.self.inside.0.1.1.1.0 in
    let n = c.min.result - m in
    let top = c.next_multiple_of-end.result in
    let end = c.next_multiple_of-end.ensures in
    let k = header_length r.ident.size r.at + r.left in
    let same : m ≡ k = omega (arith, left, c.requires.header) in
    let within : m ≤ length page = omega (arith, c.if-room-left.false, c.requires.whole) in
    let least : c.min.result ≡ top = omega (arith, c.min.ensures, c.if-page-end.false) in
    let zero = no_set m n k c.first_set.result page same c.if-first_set-gap.false c.first_set.ensures.before (omega (
      arith,
      least,
      end.lower_bound,
      c.if-page-end.false,
    )) in
    let all = page_all top due c.if-page-end.false (omega (arith, same, end.lower_bound)) (omega (
      arith,
      same,
      end.upper_bound,
    )) (λ i below. zero i (omega (arith, same, least))) in
    subst (λ (p : ℕ). IsRestWhole r.ident timeline rest from (log ++ page) (p + top)) (sym at)
    (page_whole top due c.if-page-end.false (omega (arith, same, end.lower_bound)) (omega (arith, end.multiple)) all)

pub returns-clause-goes_on : goal.returns-clause-goes_on
returns-clause-goes_on c timeline rest from log passed on = omega (arith, passed.past, ap (λ (n : Rest). n.at) c.self.view_is)
