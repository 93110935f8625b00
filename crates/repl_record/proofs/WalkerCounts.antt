-- What a walker keeps of a record, when a part of the record is added to it.
use Rattle.std.proofs.Common.{◌≡◌, ℕ, ◌+◌, ◌<◌, ◌≤◌, nat_lt, min, List, ◌++◌, length, take, drop, refl, sym, ap, ◌∙◌, subst, inl, inr, arith, length-append}
use Rattle.std.proofs.lemmas.Bool.{cases_lt, cond-true, cond-false, lt-ltb, le-ltb}
use Rattle.std.proofs.lemmas.List.{take_at, take_all, take-append-le, drop_all, drop-append-le, length-take, take-take}
use Rattle.repl_page.specs.Header.{field}
use Rattle.repl_record.specs.declared.walker.Walker.{Walker}
use Rattle.repl_record.specs.Checksum.{checksum, checksum_from}
use Rattle.repl_record.specs.Judging.{HasLength, IsLength, computed_sum, length_field}
use Rattle.repl_record.specs.Walker.{Keeps, so_far}
use Rattle.repl_record.specs.Moves.{full_sum, goal, put, total, with_record}
use Rattle.repl_record.proofs.Fields.{field-append, field-take}
use Rattle.repl_record.proofs.ChecksumPieces.{goes_on}
use Rattle.repl_record.proofs.WalkerGoals.{goal_is}

-- a walker keeps of a record what these bytes of it say
pub record Holds (w : Walker) (bytes : List ℕ) : Type 0 where
  pub front_is : take (min w.count 24) w.front ≡ take 24 bytes
  pub few : length bytes < 24 → w.count ≡ length bytes
  pub many : 24 ≤ length bytes → w.count ≡ min (length bytes) (length_field bytes)
  pub sum_is : w.sum ≡ checksum (drop 24 (take w.count bytes))

pub holds_from : (w : Walker) (timeline : ℕ → ℕ) (from prev : ℕ) (log : List ℕ) → Keeps w timeline from prev log
    → Holds w (so_far w from log)
holds_from w timeline from prev log keeps = record { front_is = keeps.front_is; few = keeps.few; many = keeps.many; sum_is = keeps.sum_is }

-- all of the record's bytes so far are counted
pub record IsCounted (w : Walker) (bytes : List ℕ) : Type 0 where
  pub holds : Holds w bytes
  pub count_is : w.count ≡ length bytes
  pub has_length : 4 < length bytes → HasLength bytes

-- ---- fields

-- what is kept of the record's first bytes has their fields
pub field_kept : (w : Walker) (bytes : List ℕ) (place n : ℕ) → take (min w.count 24) w.front ≡ take 24 bytes → place + n ≤ min w.count 24
    → field place n w.front ≡ field place n bytes
field_kept w bytes place n same within = sym (field-take place n (min w.count 24) w.front within) ∙ ap (field place n) same
    ∙ field-take place n 24 bytes (omega arith)

pub field_is : (w : Walker) (bytes : List ℕ) (place n : ℕ) → IsCounted w bytes → place + n ≤ length bytes → place + n ≤ 24
    → field place n w.front ≡ field place n bytes
field_is w bytes place n counted there within = field_kept w bytes place n counted.holds.front_is (omega (arith, counted.count_is))

pub total_is : (w : Walker) (bytes : List ℕ) → IsCounted w bytes → 4 ≤ length bytes → total w ≡ length_field bytes
total_is w bytes counted four = field_is w bytes 0 4 counted four (omega arith)

-- before a record's end each byte is counted
pub counted_from : (w : Walker) (bytes : List ℕ) → Holds w bytes → (4 ≤ length bytes → HasLength bytes) → w.count < goal w
    → IsCounted w bytes
counted_from w bytes holds has_length unfinished =
    elim (cases_lt (length bytes) 24) [
      | inl few ↦ record { holds = holds; count_is = holds.few few; has_length = λ four. has_length (omega arith) }
      | inr many ↦
          let right = has_length (omega arith) in
          let count = holds.many many in
          let whole : 24 ≤ w.count = omega (arith, right, count) in
          let total_same : total w ≡ length_field bytes = field_kept w bytes 0 4 holds.front_is (omega arith) in
          record {
            holds = holds;
            count_is = omega (arith, goal_is w.count (total w), total_same, count, unfinished);
            has_length =
                λ four. right;
          }
    ]

-- ---- a part more

length_grown : (bytes piece : List ℕ) → HasLength bytes → 4 ≤ length bytes → HasLength (bytes ++ piece)
length_grown bytes piece right four = subst IsLength (sym (field-append 0 4 bytes piece four)) right

-- the length is right after its own four bytes
has_length_grown : (w : Walker) (bytes piece : List ℕ) → IsCounted w bytes → (4 ≤ length bytes → HasLength bytes)
    → w.count + length piece ≤ goal w → 4 < length (bytes ++ piece) → HasLength (bytes ++ piece)
has_length_grown w bytes piece counted right fits many =
    elim (cases_lt (length bytes) 4) [
      | inl few ↦ absurd (omega (arith, goal_is w.count (total w), counted.count_is, length-append bytes piece))
      | inr four ↦ length_grown bytes piece (right four) four
    ]

-- among its first 24 bytes
grown_front : (w : Walker) (bytes piece : List ℕ) → IsCounted w bytes → (4 < length (bytes ++ piece) → HasLength (bytes ++ piece))
    → w.count < 24 → w.count + length piece ≤ 24 → Holds (with_record w piece) (bytes ++ piece)
grown_front w bytes piece counted right few fits =
    let all = bytes ++ piece in
    let count = counted.count_is in
    let long : length all ≡ w.count + length piece = omega (arith, count, length-append bytes piece) in
    let short = cond-true (nat_lt w.count 24) (put w.front w.count piece) w.front (lt-ltb w.count 24 few) in
    let kept : take w.count w.front ≡ bytes = ap (λ (m : ℕ). take m w.front) (omega arith) ∙ counted.holds.front_is
    ∙ take_all 24 bytes (omega (arith, count)) in
    let past = drop (w.count + length piece) w.front in
    let written : put w.front w.count piece ≡ all ++ past = ap (λ (front : List ℕ). front ++ piece ++ past) kept in
    let front : take (min (w.count + length piece) 24) (put w.front w.count piece) ≡ all =
    ap (λ (m : ℕ). take m (put w.front w.count piece)) (omega (arith, long)) ∙ ap (take (length all)) written
    ∙ take_at all past (length all) refl in
    record {
      front_is = ap (take (min (w.count + length piece) 24)) short ∙ front ∙ sym (take_all 24 all (omega (arith, long)));
      few = λ _. sym long;
      many = λ enough. omega (arith, long, right (omega arith));
      sum_is =
          cond-true (nat_lt w.count 24) w.sum (checksum_from w.sum piece) (lt-ltb w.count 24 few) ∙ counted.holds.sum_is
          ∙ ap checksum (drop_all 24 (take w.count bytes) (omega (arith, length-take w.count bytes))
          ∙ sym (drop_all 24 (take (w.count + length piece) all) (omega (arith, length-take (w.count + length piece) all))));
    }

-- after them, in its body
grown_body : (w : Walker) (bytes piece : List ℕ) → IsCounted w bytes → HasLength bytes → 24 ≤ w.count
    → w.count + length piece ≤ length_field bytes → Holds (with_record w piece) (bytes ++ piece)
grown_body w bytes piece counted right many fits =
    let all = bytes ++ piece in
    let count = counted.count_is in
    let long : length all ≡ w.count + length piece = omega (arith, count, length-append bytes piece) in
    let kept = cond-false (nat_lt w.count 24) (put w.front w.count piece) w.front (le-ltb w.count 24 many) in
    let added = cond-false (nat_lt w.count 24) w.sum (checksum_from w.sum piece) (le-ltb w.count 24 many) in
    let body : drop 24 (take w.count bytes) ≡ drop 24 bytes = ap (drop 24) (take_all w.count bytes (omega arith)) in
    let body_all : drop 24 (take (w.count + length piece) all) ≡ drop 24 bytes ++ piece =
    ap (drop 24) (take_all (w.count + length piece) all (omega arith)) ∙ drop-append-le 24 bytes piece (omega arith) in
    record {
      front_is = ap (take (min (w.count + length piece) 24)) kept ∙ ap (λ (m : ℕ). take m w.front) (omega arith) ∙ counted.holds.front_is
          ∙ sym (take-append-le 24 bytes piece (omega arith));
      few = λ less. absurd (omega arith);
      many = λ enough. omega (arith, long, field-append 0 4 bytes piece (omega arith));
      sum_is =
          added ∙ ap (λ (sum : ℕ). checksum_from sum piece) (counted.holds.sum_is ∙ ap checksum body)
          ∙ goes_on 0 (drop 24 bytes) piece ∙ ap checksum (sym body_all);
    }

pub grown : (w : Walker) (bytes piece : List ℕ) → IsCounted w bytes → (4 ≤ length bytes → HasLength bytes) → 0 < length piece
    → w.count < goal w → w.count + length piece ≤ goal w → IsCounted (with_record w piece) (bytes ++ piece)
grown w bytes piece counted right some unfinished fits = record {
  holds =
      elim (cases_lt w.count 24) [
        | inl few ↦ grown_front w bytes piece counted (has_length_grown w bytes piece counted right fits) few (omega (
          arith,
          goal_is w.count (total w),
        ))
        | inr many ↦ grown_body w bytes piece counted (right (omega (arith, counted.count_is))) many (omega (
          arith,
          goal_is w.count (total w),
          total_is w bytes counted (omega (arith, counted.count_is)),
        ))
      ];
  count_is = omega (arith, counted.count_is, length-append bytes piece);
  has_length = has_length_grown w bytes piece counted right fits;
}

-- ---- what is judged with the last byte

-- the checksum is that of the record
pub full_sum_is : (w : Walker) (bytes : List ℕ) → IsCounted w bytes → 24 ≤ length bytes → full_sum w ≡ computed_sum bytes
full_sum_is w bytes counted enough =
    let count = counted.count_is in
    let m = min w.count 24 in
    let front : take 20 w.front ≡ take 20 bytes = sym (take-take 20 m w.front (omega arith)) ∙ ap (take 20) counted.holds.front_is
    ∙ take-take 20 24 bytes (omega arith) in
    let body : w.sum ≡ checksum (drop 24 bytes) = counted.holds.sum_is
    ∙ ap (λ (t : List ℕ). checksum (drop 24 t)) (take_all w.count bytes (omega arith)) in
    ap (λ (sum : ℕ). checksum_from sum (take 20 w.front)) body ∙ ap (checksum_from (checksum (drop 24 bytes))) front
    ∙ goes_on 0 (drop 24 bytes) (take 20 bytes)
