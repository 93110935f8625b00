-- A page more, or the end: the rest is whole, a fault was met, or all bytes were taken.
use Rattle.std.proofs.Common.{
  ◌≡◌,
  ℕ,
  ◌+◌,
  ◌-◌,
  ◌%◌,
  ◌≤◌,
  ◌⊎◌,
  List,
  ◌++◌,
  length,
  take,
  drop,
  refl,
  sym,
  subst,
  inl,
  inr,
  arith,
  append-nil,
  length-append,
  length-drop,
}
use Rattle.std.proofs.lemmas.Bool.{cases_lt}
use Rattle.std.proofs.lemmas.List.{length-take, take_all}
use Rattle.repl_page.specs.declared.ident.Ident.{Ident}
use Rattle.repl_walk.specs.Rest.{HasPassed, IsRestBegun, IsRestFault, IsRestWhole, rest_identity}
use Rattle.repl_walk.proofs.RestWalks.{Passing, fault_more, of_all, page_is_on, passing_on, whole_more}
use Rattle.repl_walk.proofs.rest.Rest.step.Goals as goal

-- nothing is taken at first
pub pages-init : goal.pages-init
pages-init c = record {
  within = omega arith;
  full = inr (omega arith);
  same = refl;
  low = omega arith;
  begun = λ timeline rest from log passed on.
      let same : log ≡ log ++ take 0 c.args.bytes.now = sym (append-nil log) in
      subst (IsRestBegun (rest_identity c.args.self.now) timeline rest from) same (record {
        headers = passed.headers;
        few = inl (omega (arith, passed.left, passed.some));
      });
  passed = λ timeline rest from log passed on more.
      let same : log ≡ log ++ take 0 c.args.bytes.now = sym (append-nil log) in
      subst (HasPassed c.args.self.now timeline rest from) same passed;
}

-- how long the part is that is taken next
part_is : (used top : ℕ) (bytes : List ℕ) → top ≤ length bytes → length (take (top - used) (drop used bytes)) ≡ top - used
part_is used top bytes within = omega (arith, length-take (top - used) (drop used bytes), length-drop used bytes)

-- a page, or all that is left
page_or_all : (used top : ℕ) (bytes : List ℕ) → used ≤ top → top ≡ used + 8192 ⊎ top ≡ length bytes
    → (top - used ≡ 8192) ⊎ (used + (top - used) ≡ length bytes)
page_or_all used top bytes above (inl page) = inl (omega arith)
page_or_all used top bytes above (inr all) = inr (omega arith)

pub pages-preserved : goal.pages-preserved
pages-preserved c =
    let bytes = c.args.bytes.now in
    let used = c.pages.used in
    let top = c.min.result in
    let some = c.pages-test.true in
    let on = c.in-Short.ensures in
    let long = part_is used top bytes (omega (arith, c.min.ensures)) in
    let least : (top ≡ used + 8192) ⊎ (top ≡ length bytes) = elim (cases_lt (used + 8192) (length bytes)) [
      | inl page ↦ inl (omega (arith, c.min.ensures))
      | inr all ↦ inr (omega (arith, c.min.ensures))
    ] in
    subst (λ (k : ℕ). Passing c.args.self.now c.through_page.new.self c.args.tli bytes (used + k)) (sym long)
    (passing_on c.args.self.now c.pages.self c.through_page.new.self c.args.tli used (top - used) bytes c.pages.invariant some (omega (
      arith,
      c.min.ensures,
      some,
    )) (page_or_all used top bytes (omega (arith, c.min.ensures, some)) least) on.ident (omega (
      arith,
      on.position refl,
      long,
    )) on.answers on.goes_on)

-- ---- the answers

pub returns-in-Whole-clause-answers : goal.returns-in-Whole-clause-answers
returns-in-Whole-clause-answers c timeline rest from log passed on =
    let bytes = c.args.bytes.now in
    let used = c.pages.used in
    let going = c.pages.invariant in
    let now = going.passed timeline rest from log passed on (inl c.pages-test.true) in
    let page_on = page_is_on timeline rest from log going passed on c.pages-test.true in
    subst (λ (i : Ident). IsRestWhole i timeline rest from (log ++ bytes) c.in-Whole.end) going.same
    (of_all (λ (t : List ℕ). IsRestWhole (rest_identity c.pages.self) timeline rest from t c.in-Whole.end) (λ l more.
    whole_more (rest_identity c.pages.self) timeline rest from c.in-Whole.end l more) log bytes used (c.min.result - used)
    (c.in-Whole.ensures.answers timeline rest from (log ++ take used bytes) now page_on))

pub returns-in-Whole-clause-goes_on : goal.returns-in-Whole-clause-goes_on
returns-in-Whole-clause-goes_on c timeline rest from log passed on =
    let bytes = c.args.bytes.now in
    let used = c.pages.used in
    let going = c.pages.invariant in
    let now = going.passed timeline rest from log passed on (inl c.pages-test.true) in
    let page_on = page_is_on timeline rest from log going passed on c.pages-test.true in
    let is = c.in-Whole.ensures.goes_on timeline rest from (log ++ take used bytes) now page_on in
    omega (arith, is, length-append log (take used bytes), length-take used bytes, going.within)

pub returns-in-Whole-clause-takes : goal.returns-in-Whole-clause-takes
returns-in-Whole-clause-takes c =
    let bytes = c.args.bytes.now in
    let long = part_is c.pages.used c.min.result bytes (omega (arith, c.min.ensures)) in
    let takes = c.in-Whole.ensures.takes in
    let pages : c.pages.used % 8192 ≡ 0 = elim c.pages.invariant.full [
      | inl all ↦ absurd (omega (arith, c.pages-test.true))
      | inr full ↦ full
    ] in
    (omega (arith, takes.0), omega (arith, takes.1, long, c.min.ensures), omega (arith, takes.2, pages))

pub returns-in-Bad-clause-answers : goal.returns-in-Bad-clause-answers
returns-in-Bad-clause-answers c timeline rest from log passed on =
    let bytes = c.args.bytes.now in
    let used = c.pages.used in
    let going = c.pages.invariant in
    let now = going.passed timeline rest from log passed on (inl c.pages-test.true) in
    let page_on = page_is_on timeline rest from log going passed on c.pages-test.true in
    subst (λ (i : Ident). IsRestFault i timeline rest from (log ++ bytes) c.in-Bad.at c.in-Bad.why) going.same
    (of_all (λ (t : List ℕ). IsRestFault (rest_identity c.pages.self) timeline rest from t c.in-Bad.at c.in-Bad.why) (λ l more.
    fault_more (rest_identity c.pages.self) timeline rest from c.in-Bad.at c.in-Bad.why l more) log bytes used (c.min.result - used)
    (c.in-Bad.ensures.answers timeline rest from (log ++ take used bytes) now page_on))

pub returns-clause-answers : goal.returns-clause-answers
returns-clause-answers c timeline rest from log passed on =
    let bytes = c.args.bytes.now in
    let all : take c.pages.used bytes ≡ bytes = take_all c.pages.used bytes (omega (arith, c.pages-test.false)) in
    subst (λ (t : List ℕ). IsRestBegun (rest_identity c.args.self.now) timeline rest from (log ++ t)) all
    (c.pages.invariant.begun timeline rest from log passed on)

pub returns-clause-goes_on : goal.returns-clause-goes_on
returns-clause-goes_on c timeline rest from log passed on whole =
    let bytes = c.args.bytes.now in
    let all : take c.pages.used bytes ≡ bytes = take_all c.pages.used bytes (omega (arith, c.pages-test.false)) in
    subst (λ (t : List ℕ). HasPassed c.pages.self timeline rest from (log ++ t)) all
    (c.pages.invariant.passed timeline rest from log passed on (inr (subst (λ (t : List ℕ). (from + length (log ++ t)) % 8192 ≡ 0) (sym all)
    whole)))
