-- A walker that takes a part of the gap after a record: what it keeps then, and what is judged.
use Rattle.std.proofs.Common.{◌≡◌, ◌≢◌, ℕ, ◌+◌, ◌-◌, ◌%◌, ◌<◌, ◌≤◌, ◌==◌, Bool, true, false, not, List, ◌++◌, length, take, drop, get_or, min, refl, sym, ap, ◌∙◌, subst, inl, inr, arith, length-append}
use Rattle.std.specs.List.{list_any, position_or_len}
use Rattle.std.proofs.lemmas.Bool.{both_ways, cases_lt, false_from_ne_true, not-false, not-true, eqb-false, eqb-true}
use Rattle.std.proofs.lemmas.List.{get_or-append_right, get_or-take, length-take-le, take-append-le, take-take}
use Rattle.std.proofs.lemmas.List.Folds.{Any-from_list_any, list_any_at}
use Rattle.std.proofs.lemmas.List.Sums.{fails_before_first, passes_at_first}
use Rattle.std.proofs.Math.Seq.{take-append-add}
use Rattle.repl_lsn.specs.Segment.{IsSegSize}
use Rattle.repl_page.specs.Page.{header_length, in_header}
use Rattle.repl_record.specs.declared.answer.WalkReason.TheVariants as why
use Rattle.repl_record.specs.declared.walker.Walker.{Walker}
use Rattle.repl_record.specs.Checksum.{checksum}
use Rattle.repl_record.specs.Record.{AreBytes, LastIsContent, start_of}
use Rattle.repl_record.specs.Judging.{HasLength, IsFaultAt, IsFirstFault, IsLength, IsOpenBefore, IsOver, IsRight, length_field}
use Rattle.repl_record.specs.Walker.{Keeps, Stands, so_far}
use Rattle.repl_record.specs.Moves.{Reached, goal, total, with_gap}
use Rattle.repl_record.proofs.Fields.{field-append, AreBytes-append, AreBytes-take}
use Rattle.repl_record.proofs.Pages.{at_page}
use Rattle.repl_record.proofs.Content.{content-more, last_more}
use Rattle.repl_record.proofs.JudgingCalm.{IsCalm, open_more, header_fault_last}
use Rattle.repl_record.proofs.WalkerGoals.{goal_passed}
use Rattle.repl_record.proofs.WalkerStands.{not_rounded, total_is, new_page, many_are}

-- ---- bytes that are not zero

abbrev pub is_other : ℕ → Bool
is_other byte = not (byte == 0)

-- the first of the bytes that is not zero
pub record FirstOther (bytes : List ℕ) : Type 0 where
  pub place : ℕ
  pub within : place < length bytes
  pub other : get_or bytes place 0 ≢ 0
  pub zeros : (i : ℕ) → i < place → get_or bytes i 0 ≡ 0

is_zero : (byte : ℕ) → is_other byte ≡ false → byte ≡ 0
is_zero byte is = eqb-true byte 0 (not-false (byte == 0) is)

not_zero : (byte : ℕ) → is_other byte ≡ true → byte ≢ 0
not_zero byte is = eqb-false byte 0 (not-true (byte == 0) is)

first_is_there : (bytes : List ℕ) → list_any is_other bytes ≡ true → position_or_len is_other bytes < length bytes
first_is_there bytes some =
    let any = Any-from_list_any is_other bytes some in
    elim (cases_lt (position_or_len is_other bytes) (length bytes)) [
      | inl inside ↦ inside
      | inr none ↦ absurd (both_ways (is_other any.1) (ap is_other (sym any.3)
          ∙ fails_before_first is_other bytes any.0 any.1 (omega (arith, any.2))) any.4)
    ]

pub first_other : (bytes : List ℕ) → list_any is_other bytes ≡ true → FirstOther bytes
first_other bytes some =
    let place = position_or_len is_other bytes in
    let inside = first_is_there bytes some in
    record {
      place = place;
      within = inside;
      other = not_zero (get_or bytes place 0) (passes_at_first is_other bytes 0 inside);
      zeros = λ i before. is_zero (get_or bytes i 0) (fails_before_first is_other bytes i 0 before);
    }

pub all_zero : (bytes : List ℕ) → list_any is_other bytes ≡ false → (i : ℕ) → i < length bytes → get_or bytes i 0 ≡ 0
all_zero bytes none i inside = is_zero (get_or bytes i 0) (false_from_ne_true (is_other (get_or bytes i 0)) (λ some.
    both_ways (list_any is_other bytes) none (list_any_at is_other bytes i 0 inside some)))

-- the last byte of a log with a part of a piece after it
last_byte : (log bytes : List ℕ) (i : ℕ) → 0 < i → i ≤ length bytes
    → get_or (log ++ take i bytes) (length (log ++ take i bytes) - 1) 0 ≡ get_or bytes (i - 1) 0
last_byte log bytes i some enough =
    let all = length-take-le i bytes enough in
    let last : length (log ++ take i bytes) - 1 ≡ length log + (i - 1) = omega (arith, length-append log (take i bytes)) in
    ap (λ (n : ℕ). get_or (log ++ take i bytes) n 0) last
    ∙ get_or-append_right log (take i bytes) (length log) (length log + (i - 1)) 0 refl (omega arith)
    ∙ ap (λ (n : ℕ). get_or (take i bytes) n 0) (omega arith)
    ∙ get_or-take i bytes (i - 1) 0 (omega arith)

-- ---- where a record's bytes are all there

is_finished : {w : Walker} {timeline : ℕ → ℕ} {from prev : ℕ} {log : List ℕ} → Keeps w timeline from prev log → goal w ≤ w.count
    → (24 ≤ length (so_far w from log)) × (length_field (so_far w from log) ≤ length (so_far w from log))
is_finished {w = w} {from = from} {log = log} k passed =
    let done = goal_passed w.count (total w) passed in
    let many = many_are k done.0 in
    (many, omega (arith, k.many many, done.1, total_is k (omega (arith, done.0))))

-- The walker stands after the log's bytes, which are all of a record's and a part of the gap after it, and it takes so
-- many of these bytes, up to the next multiple of 8 at most.
pub record IsGapPart (w : Walker) (timeline : ℕ → ℕ) (from prev : ℕ) (log bytes : List ℕ) (taken : ℕ) : Type 0 where
  pub stands : Stands w timeline from prev log
  pub size : IsSegSize w.ident.size
  pub outside : header_length w.ident.size w.at ≤ w.at % 8192
  pub front : 24 ≤ length (so_far w from log)
  pub all : length_field (so_far w from log) ≤ length (so_far w from log)
  pub some : 0 < taken
  pub enough : taken ≤ length bytes
  pub within : w.at % 8 + taken ≤ 8
  pub begun : w.at % 8 ≢ 0
  pub are_bytes : AreBytes bytes

-- as much of the bytes as there is room for
pub gap_part : {w : Walker} {timeline : ℕ → ℕ} {from prev : ℕ} {log : List ℕ} (bytes : List ℕ) (taken : ℕ) → Stands w timeline from prev log
    → IsSegSize w.ident.size → header_length w.ident.size w.at ≤ w.at % 8192
    → goal w ≤ w.count → 0 < length bytes → AreBytes bytes → taken ≡ min (8 - w.at % 8) (length bytes)
    → IsGapPart w timeline from prev log bytes taken
gap_part {w = w} bytes taken s is outside passed some are taken_is =
    let done = is_finished s.keeps passed in
    record {
      stands = s;
      size = is;
      outside = outside;
      front = done.0;
      all = done.1;
      some = omega arith;
      enough = omega arith;
      within = omega arith;
      begun = not_rounded s (omega (arith, done.0)) done.1;
      are_bytes = are;
    }

-- ---- a part of the gap

-- it follows the record's bytes
so_far_is : {w : Walker} {timeline : ℕ → ℕ} {from prev : ℕ} {log bytes : List ℕ} {taken : ℕ} (i : ℕ)
    → IsGapPart w timeline from prev log bytes taken → i ≤ taken → so_far w from (log ++ take i bytes) ≡ so_far w from log ++ take i bytes
so_far_is {w = w} {from = from} {log = log} {bytes = bytes} i g within =
    content-more w.ident.size w.at from log (take i bytes) g.size g.stands.keeps.past g.outside (omega (
      arith,
      length-take-le i bytes (omega (arith, g.enough)),
      g.within,
    ))

-- of which there are more then
length_is : {w : Walker} {timeline : ℕ → ℕ} {from prev : ℕ} {log bytes : List ℕ} {taken : ℕ} (i : ℕ)
    → IsGapPart w timeline from prev log bytes taken → i ≤ taken
    → length (so_far w from (log ++ take i bytes)) ≡ length (so_far w from log) + i
length_is {w = w} {from = from} {log = log} {bytes = bytes} i g within =
    ap length (so_far_is i g within) ∙ omega (
      arith,
      length-append (so_far w from log) (take i bytes),
      length-take-le i bytes (omega (arith, g.enough)),
    )

-- and its length is as before
field_is : {w : Walker} {timeline : ℕ → ℕ} {from prev : ℕ} {log bytes : List ℕ} {taken : ℕ} (i : ℕ)
    → IsGapPart w timeline from prev log bytes taken → i ≤ taken
    → length_field (so_far w from (log ++ take i bytes)) ≡ length_field (so_far w from log)
field_is {w = w} {from = from} {log = log} {bytes = bytes} i g within = ap length_field (so_far_is i g within)
    ∙ field-append 0 4 (so_far w from log) (take i bytes) (omega (arith, g.front))

has_length : {w : Walker} {timeline : ℕ → ℕ} {from prev : ℕ} {log bytes : List ℕ} {taken : ℕ} (i : ℕ)
    → IsGapPart w timeline from prev log bytes taken → i ≤ taken → HasLength (so_far w from (log ++ take i bytes))
has_length i g within = subst IsLength (sym (field_is i g within)) (g.stands.keeps.has_length (omega (arith, g.front)))

-- it is none of a header
last_is_content : {w : Walker} {timeline : ℕ → ℕ} {from prev : ℕ} {log bytes : List ℕ} {taken : ℕ} (i : ℕ)
    → IsGapPart w timeline from prev log bytes taken → 0 < i → i ≤ taken → LastIsContent w.ident.size from (log ++ take i bytes)
last_is_content {w = w} {from = from} {log = log} {bytes = bytes} i g some within =
    let counted = length-take-le i bytes (omega (arith, g.enough)) in
    last_more w.ident.size w.at from log (take i bytes) g.size g.stands.keeps.past g.outside (omega (
      arith,
      counted,
      g.within,
    )) (omega (arith, counted))

-- where its last byte is zero nothing is wrong
right_gap : {w : Walker} {timeline : ℕ → ℕ} {from prev : ℕ} {log bytes : List ℕ} {taken : ℕ} (i : ℕ)
    → IsGapPart w timeline from prev log bytes taken → 0 < i → i ≤ taken → get_or bytes (i - 1) 0 ≡ 0
    → IsRight w.ident timeline from prev (log ++ take i bytes)
right_gap {w = w} {timeline = timeline} {from = from} {prev = prev} {log = log} {bytes = bytes} i g some within zero = right
  where
    longer : List ℕ
    longer = log ++ take i bytes

    count : length (so_far w from longer) ≡ length (so_far w from log) + i
    count = length_is i g within

    right : IsRight w.ident timeline from prev longer
    right (why.Page found) h = header_fault_last w.ident timeline from longer found g.size h (last_is_content i g some within)
    right (why.Length found) h = absurd (omega (arith, h.0.count_is, count, g.front))
    right (why.Prev found expected) h = absurd (omega (arith, h.0.count_is, count, g.front))
    right why.Reserved h = absurd (omega (arith, h.0.count_is, count, g.front))
    right (why.Checksum found computed) h = absurd (omega (arith, h.0.count_is, count, g.all, field_is i g within))
    right why.Padding h = h.3 (last_byte log bytes i some (omega (arith, g.enough)) ∙ zero)

-- and before the multiple of 8 no record ends
calm_gap : {w : Walker} {timeline : ℕ → ℕ} {from prev : ℕ} {log bytes : List ℕ} {taken : ℕ} (i : ℕ)
    → IsGapPart w timeline from prev log bytes taken → 0 < i → i < taken → get_or bytes (i - 1) 0 ≡ 0
    → IsCalm w.ident timeline from prev (log ++ take i bytes)
calm_gap {w = w} {from = from} {log = log} {bytes = bytes} i g some within zero = (over, right_gap i g some (omega arith) zero)
  where
    over : ¬ IsOver w.ident.size from (log ++ take i bytes)
    over h = absurd (omega (
      arith,
      h.rounded,
      g.stands.keeps.past,
      g.within,
      g.begun,
      length-append log (take i bytes),
      length-take-le i bytes (omega (arith, g.enough)),
    ))

-- ---- where the walker gets to

keeps_gap : {w : Walker} {timeline : ℕ → ℕ} {from prev : ℕ} {log bytes : List ℕ} {taken : ℕ}
    → IsGapPart w timeline from prev log bytes taken → Keeps (with_gap w taken) timeline from prev (log ++ take taken bytes)
keeps_gap {w = w} {from = from} {log = log} {bytes = bytes} {taken = taken} g =
    let k = g.stands.keeps in
    let piece = take taken bytes in
    let same : so_far w from (log ++ piece) ≡ so_far w from log ++ piece = so_far_is taken g (omega arith) in
    let count : length (so_far w from (log ++ piece)) ≡ length (so_far w from log) + taken = length_is taken g (omega arith) in
    let total : length_field (so_far w from (log ++ piece)) ≡ length_field (so_far w from log) = field_is taken g (omega arith) in
    let past : w.at + taken ≡ from + length (log ++ piece) = omega (
      arith,
      k.past,
      length-append log piece,
      length-take-le taken bytes g.enough,
    ) in
    let many : w.count ≡ min (length (so_far w from log)) (length_field (so_far w from log)) = k.many g.front in
    let first : in_header w.ident.size (w.at + taken) ≡ true → (w.at + taken) % 8192 ≡ 0 =
    at_page w.ident.size w.at taken g.size g.outside (omega (arith, g.within)) in
    record {
      not_refused = k.not_refused;
      begins = k.begins;
      follows = k.follows;
      prev_fits = k.prev_fits;
      past = past;
      aligned = k.aligned;
      are_bytes = AreBytes-append log piece k.are_bytes (AreBytes-take taken bytes g.are_bytes);
      header_is = λ inside began. new_page from (w.at + taken) w.header (log ++ piece) past (first inside);
      timeline_is = λ inside began after. absurd (omega (arith, after, first inside));
      front_is = k.front_is ∙ sym (ap (take 24) same ∙ take-append-le 24 (so_far w from log) piece g.front);
      few = λ few. absurd (omega (arith, few, count, g.front));
      many = λ more. omega (arith, many, count, total, g.all);
      sum_is = k.sum_is ∙ ap (λ (t : List ℕ). checksum (drop 24 t)) (sym (ap (take w.count) same
          ∙ take-append-le w.count (so_far w from log) piece (omega arith)));
      has_length = λ four. has_length taken g (omega arith);
      in_gap = λ four all. last_is_content taken g g.some (omega arith);
    }

-- up to the first byte that is not zero nothing is judged
open_gap : {w : Walker} {timeline : ℕ → ℕ} {from prev : ℕ} {log bytes : List ℕ} {taken : ℕ} (longer : List ℕ) (n : ℕ)
    → IsGapPart w timeline from prev log bytes taken → n ≤ taken → take n longer ≡ take n bytes
    → ((i : ℕ) → i + 1 < n → get_or bytes i 0 ≡ 0) → IsOpenBefore w.ident timeline from prev (log ++ longer) (length log + n)
open_gap {w = w} {timeline = timeline} {from = from} {prev = prev} {log = log} {bytes = bytes} longer n g within same zeros =
    open_more w.ident timeline from prev log longer n g.stands.beginning calm
  where
    calm : (i : ℕ) → 0 < i → i < n → IsCalm w.ident timeline from prev (log ++ take i longer)
    calm i some below =
        let Calm : List ℕ → Type 0 = λ (t : List ℕ). IsCalm w.ident timeline from prev (log ++ t) in
        let part : take i longer ≡ take i bytes = sym (take-take i n longer (omega arith)) ∙ ap (take i) same
        ∙ take-take i n bytes (omega arith) in
        subst Calm (sym part) (calm_gap i g some (omega arith) (zeros (i - 1) (omega arith)))

-- all of the bytes are zero
pub gap_goes_on : {w : Walker} {timeline : ℕ → ℕ} {from prev : ℕ} {log bytes : List ℕ} {taken : ℕ}
    → IsGapPart w timeline from prev log bytes taken → ((i : ℕ) → i < taken → get_or bytes i 0 ≡ 0)
    → Reached (with_gap w taken) timeline from prev (log ++ take taken bytes)
gap_goes_on {w = w} {timeline = timeline} {from = from} {prev = prev} {log = log} {bytes = bytes} {taken = taken} g zeros =
    let piece = take taken bytes in
    let Open : ℕ → Type 0 = λ (n : ℕ). IsOpenBefore w.ident timeline from prev (log ++ piece) n in
    let whole : length log + taken ≡ length (log ++ piece) = omega (arith, length-append log piece, length-take-le taken bytes g.enough) in
    record {
      keeps = keeps_gap g;
      open_before = subst Open whole (open_gap piece taken g (omega arith) (take-take taken taken bytes (omega arith)) (λ i below.
          zeros i (omega arith)));
      right = right_gap taken g g.some (omega arith) (zeros (taken - 1) (omega (arith, g.some)));
    }

-- one of them is not
pub gap_differs : {w : Walker} {timeline : ℕ → ℕ} {from prev start : ℕ} {log bytes : List ℕ} {taken : ℕ}
    → IsGapPart w timeline from prev log bytes taken → FirstOther (take taken bytes) → start ≡ start_of w.ident.size from
    → IsFirstFault w.ident timeline from prev (log ++ bytes) start why.Padding
gap_differs {w = w} {timeline = timeline} {from = from} {prev = prev} {log = log} {bytes = bytes} {taken = taken} g first start_is =
    let n = first.place + 1 in
    let inside : first.place < taken = omega (arith, first.within, length-take-le taken bytes g.enough) in
    let within : n ≤ taken = omega arith in
    let same : take (length log + n) (log ++ bytes) ≡ log ++ take n bytes = take-append-add log bytes n in
    let byte : get_or (log ++ take n bytes) (length (log ++ take n bytes) - 1) 0 ≡ get_or (take taken bytes) first.place 0 =
    last_byte log bytes n (omega arith) (omega (arith, g.enough)) ∙ ap (λ (i : ℕ). get_or bytes i 0) (omega arith)
    ∙ sym (get_or-take taken bytes first.place 0 inside) in
    let Fault : List ℕ → Type 0 = λ (t : List ℕ). IsFaultAt w.ident timeline from prev t why.Padding in
    record {
      n = length log + n;
      within = omega (arith, length-append log bytes, g.enough);
      first = open_gap bytes n g within refl (λ i below. sym (get_or-take taken bytes i 0 (omega arith)) ∙ first.zeros i (omega arith));
      fault = subst Fault (sym same) (
        last_is_content n g (omega arith) within,
        has_length n g within,
        omega (
          arith,
          field_is n g within,
          length_is n g within,
          g.all,
        ),
        λ zero. first.other (sym byte ∙ zero),
      );
      place = start_is;
    }
