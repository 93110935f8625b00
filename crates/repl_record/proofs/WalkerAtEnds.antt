-- A walker at the beginning of a record's image, and at its end.
use Rattle.std.proofs.Common.{◌≡◌, ℕ, ◌%◌, ◌^◌, ◌<◌, ◌≤◌, min, zero, suc, List, [], length, take, None, refl, sym, ap, ◌∙◌, arith}
use Rattle.std.proofs.lemmas.List.{drop_all, length-take}
use Rattle.repl_page.specs.declared.ident.Ident.{Ident}
use Rattle.repl_page.specs.Page.{page_start}
use Rattle.repl_record.specs.declared.answer.WalkReason.TheVariants as why
use Rattle.repl_record.specs.declared.walker.Walker.{Walker}
use Rattle.repl_record.specs.Checksum.{checksum, message, remainder}
use Rattle.repl_record.specs.Record.{content}
use Rattle.repl_record.specs.Judging.{IsBeginning, IsOver, IsRight, length_field}
use Rattle.repl_record.specs.Walker.{Keeps, Stands, so_far}
use Rattle.repl_record.specs.Moves.{IsAtEnd}
use Rattle.repl_record.proofs.Pages.{header_is}
use Rattle.repl_record.proofs.Content.{content-nil, length-content-front}
use Rattle.repl_record.proofs.WalkerStands.{many_are, total_is, new_page}

-- ---- the beginning

nothing_over : (size from : ℕ) → ¬ IsOver size from []
nothing_over size from h = absurd (omega (arith, h.right, ap length_field (content-nil size from)))

nothing_right : (ident : Ident) (timeline : ℕ → ℕ) (from prev : ℕ) → IsRight ident timeline from prev []
nothing_right ident timeline from prev (why.Page fault) h = absurd (omega (arith, h.began, h.ended, header_is ident.size h.page))
nothing_right ident timeline from prev (why.Length found) h = absurd (omega (arith, h.0.count_is, ap length (content-nil ident.size from)))
nothing_right ident timeline from prev (why.Prev found expected) h =
    absurd (omega (arith, h.0.count_is, ap length (content-nil ident.size from)))
nothing_right ident timeline from prev why.Reserved h = absurd (omega (arith, h.0.count_is, ap length (content-nil ident.size from)))
nothing_right ident timeline from prev (why.Checksum found computed) h =
    absurd (omega (arith, h.1, ap length_field (content-nil ident.size from)))
nothing_right ident timeline from prev why.Padding h = absurd (omega (arith, h.1, ap length_field (content-nil ident.size from)))

pub nothing_begins : (ident : Ident) (timeline : ℕ → ℕ) (from prev : ℕ) → IsBeginning ident timeline from prev []
nothing_begins ident timeline from prev zero below = (nothing_over ident.size from, nothing_right ident timeline from prev)
nothing_begins ident timeline from prev (suc m) below = (nothing_over ident.size from, nothing_right ident timeline from prev)

checksum-nil : checksum [] ≡ 0
unfolding remainder message
checksum-nil = refl

pub begun : (w : Walker) (timeline : ℕ → ℕ) (prev : ℕ) → w.refused ≡ None → w.count ≡ 0 → w.sum ≡ 0 → w.at ≡ w.from → w.from % 8 ≡ 0
    → w.prev ≡ prev → prev < 2 ^ 64 → Stands w timeline w.from prev []
begun w timeline prev not_refused count sum at aligned follows fits =
    let none = content-nil w.ident.size w.from in
    let Front : List ℕ → Type 0 = λ bytes. take (min w.count 24) w.front ≡ take 24 bytes in
    let no_front : take (min w.count 24) w.front ≡ [] = ap (λ (m : ℕ). take m w.front) (min_zero w.count count) in
    record {
      keeps = record {
        not_refused = not_refused;
        begins = refl;
        follows = follows;
        prev_fits = fits;
        past = omega arith;
        aligned = aligned;
        are_bytes = λ i. omega arith;
        header_is = λ inside above. new_page w.from w.at w.header [] (omega arith) (first w.at w.from at above);
        timeline_is = λ inside above begun. absurd (omega arith);
        front_is = no_front ∙ ap (take 24) (sym none);
        few = λ less. omega (arith, ap length none);
        many = λ enough. absurd (omega (arith, ap length none));
        sum_is = sum ∙ sym checksum-nil ∙ sym (ap checksum (drop_all 24 (take w.count (so_far w w.from [])) (omega (
          arith,
          length-take w.count (so_far w w.from []),
          ap length none,
        ))));
        has_length = λ four. absurd (omega (arith, ap length none));
        in_gap = λ four all. absurd (omega (arith, ap length none));
      };
      beginning = nothing_begins w.ident timeline w.from prev;
    }
  where
    min_zero : (n : ℕ) → n ≡ 0 → min n 24 ≡ 0
    min_zero n is = omega arith

    first : (at from : ℕ) → at ≡ from → from ≤ page_start at → at % 8192 ≡ 0
    first at from is above = omega arith

-- ---- the end

pub over_from : (w : Walker) (timeline : ℕ → ℕ) (from prev : ℕ) (log : List ℕ) → Keeps w timeline from prev log → IsAtEnd w
    → IsOver w.ident.size from log
over_from w timeline from prev log k end =
    let bytes = so_far w from log in
    let many = many_are k end.whole in
    let all : length_field bytes ≤ length bytes = omega (arith, k.many many, total_is k (omega (arith, end.whole)), end.all) in
    record {
      right = k.has_length (omega arith);
      all = all;
      last = k.in_gap (omega arith) all;
      rounded = omega (arith, k.past, end.rounded);
    }

pub over_tells : (w : Walker) (timeline : ℕ → ℕ) (from prev : ℕ) (log : List ℕ) → Keeps w timeline from prev log
    → IsOver w.ident.size from log → IsAtEnd w
over_tells w timeline from prev log k over =
    let bytes = so_far w from log in
    let many : 24 ≤ length bytes = omega (arith, over.right, over.all) in
    let whole : 24 ≤ w.count = omega (arith, k.many many, over.right, over.all) in
    record {
      whole = whole;
      all = omega (arith, k.many many, total_is k (omega arith), over.all);
      rounded = omega (arith, k.past, over.rounded);
    }

-- ---- after another record

-- what is judged of the start of the record before
right_past : (ident : Ident) (timeline : ℕ → ℕ) (from prev other : ℕ) (log : List ℕ) → length (content ident.size from log) < 16
    → IsRight ident timeline from other log → IsRight ident timeline from prev log
right_past ident timeline from prev other log few right (why.Page fault) h = right (why.Page fault) h
right_past ident timeline from prev other log few right (why.Length found) h = right (why.Length found) h
right_past ident timeline from prev other log few right (why.Prev found expected) h = absurd (omega (arith, h.0.count_is))
right_past ident timeline from prev other log few right why.Reserved h = right why.Reserved h
right_past ident timeline from prev other log few right (why.Checksum found computed) h = right (why.Checksum found computed) h
right_past ident timeline from prev other log few right why.Padding h = right why.Padding h

pub stands_past : (w : Walker) (timeline : ℕ → ℕ) (from prev other : ℕ) (log : List ℕ) → prev < 2 ^ 64 → Stands w timeline from other log
    → length (so_far w from log) < 16 → Stands (record w { prev = prev }) timeline from prev log
stands_past w timeline from prev other log fits s few =
    let k = s.keeps in
    record {
      keeps = record {
        not_refused = k.not_refused;
        begins = k.begins;
        follows = refl;
        prev_fits = fits;
        past = k.past;
        aligned = k.aligned;
        are_bytes = k.are_bytes;
        header_is = k.header_is;
        timeline_is = k.timeline_is;
        front_is = k.front_is;
        few = k.few;
        many = k.many;
        sum_is = k.sum_is;
        has_length = k.has_length;
        in_gap = k.in_gap;
      };
      beginning = λ m below. (
        (s.beginning m below).0,
        right_past w.ident timeline from prev other (take m log) (omega (arith, length-content-front w.ident.size from m log, few))
            (s.beginning m below).1,
      );
    }
