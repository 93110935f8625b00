-- Where nothing is wrong at any front of the log, the fields of its record are what they must be.
use Rattle.std.proofs.Common.{◌≡◌, ℕ, ◌+◌, ◌≤◌, List, length, take, refl, sym, ap, ◌∙◌, subst, arith}
use Rattle.std.proofs.lemmas.List.{length-take-le}
use Rattle.repl_page.specs.declared.ident.Ident.{Ident}
use Rattle.repl_page.specs.Header.{field}
use Rattle.repl_record.specs.declared.answer.WalkReason.TheVariants as why
use Rattle.repl_record.specs.Record.{content}
use Rattle.repl_record.specs.Judging.{IsLength, HasLength, Ends, IsRight, length_field, computed_sum}
use Rattle.repl_record.proofs.Fields.{same_number, field-take}
use Rattle.repl_record.proofs.ContentFronts.{FrontOf, front_of}

-- nothing is wrong at any front of the log
abbrev pub IsRightUpTo : Ident → (ℕ → ℕ) → ℕ → ℕ → List ℕ → Type 0
IsRightUpTo ident timeline from prev log = (n : ℕ) → n ≤ length log → IsRight ident timeline from prev (take n log)

-- a field of a front's content is that of the log's
pub front_field : (size from k place width : ℕ) (log : List ℕ) (front : FrontOf size from k log) → place + width ≤ k
    → field place width (content size from (take front.m log)) ≡ field place width (content size from log)
front_field size from k place width log front within = ap (field place width) front.content_is
    ∙ field-take place width k (content size from log) within

front_ends : (size from k : ℕ) (log : List ℕ) (front : FrontOf size from k log) → k ≤ length (content size from log)
    → Ends size from k (take front.m log)
front_ends size from k log front enough = record {
  count_is = ap length front.content_is ∙ length-take-le k (content size from log) enough;
  last = front.last;
}

front_has : (size from k : ℕ) (log : List ℕ) (front : FrontOf size from k log) → 4 ≤ k → HasLength (content size from log)
    → HasLength (content size from (take front.m log))
front_has size from k log front some has = subst IsLength (sym (front_field size from k 0 4 log front some)) has

-- the start of the record before
pub prev_is : (ident : Ident) (timeline : ℕ → ℕ) (from prev : ℕ) (log : List ℕ) → IsRightUpTo ident timeline from prev log
    → HasLength (content ident.size from log) → 16 ≤ length (content ident.size from log)
    → field 8 8 (content ident.size from log) ≡ prev
prev_is ident timeline from prev log right has enough =
    let front = front_of ident.size from 16 log (omega arith) enough in
    let found = field 8 8 (content ident.size from log) in
    same_number found prev (λ differ.
    right front.m front.within (why.Prev found prev) (
      front_ends ident.size from 16 log front enough,
      front_has ident.size from 16 log front (omega arith) has,
      sym (front_field ident.size from 16 8 8 log front (omega arith)),
      refl,
      differ,
    ))

-- the reserved bytes
pub reserved_is : (ident : Ident) (timeline : ℕ → ℕ) (from prev : ℕ) (log : List ℕ) → IsRightUpTo ident timeline from prev log
    → HasLength (content ident.size from log) → 20 ≤ length (content ident.size from log)
    → field 18 2 (content ident.size from log) ≡ 0
reserved_is ident timeline from prev log right has enough =
    let front = front_of ident.size from 20 log (omega arith) enough in
    let same = front_field ident.size from 20 18 2 log front (omega arith) in
    same_number (field 18 2 (content ident.size from log)) 0 (λ differ.
    right front.m front.within why.Reserved (
      front_ends ident.size from 20 log front enough,
      front_has ident.size from 20 log front (omega arith) has,
      λ none. differ (sym same ∙ none),
    ))

-- the checksum of the record whose last byte is the front's
pub sum_is : (ident : Ident) (timeline : ℕ → ℕ) (from prev : ℕ) (log : List ℕ) → IsRightUpTo ident timeline from prev log
    → HasLength (content ident.size from log)
    → length_field (content ident.size from log) ≤ length (content ident.size from log)
    → (front : FrontOf ident.size from (length_field (content ident.size from log)) log)
    → field 20 4 (content ident.size from (take front.m log)) ≡ computed_sum (content ident.size from (take front.m log))
sum_is ident timeline from prev log right has all front =
    let total = length_field (content ident.size from log) in
    let bytes = content ident.size from (take front.m log) in
    let same = front_field ident.size from total 0 4 log front (omega (arith, has.0)) in
    let ends = front_ends ident.size from total log front all in
    same_number (field 20 4 bytes) (computed_sum bytes) (λ differ.
    right front.m front.within (why.Checksum (field 20 4 bytes) (computed_sum bytes)) (
      record { count_is = ends.count_is ∙ sym same; last = front.last },
      front_has ident.size from total log front (omega (arith, has.0)) has,
      refl,
      refl,
      differ,
    ))
