-- How long an image is: positions after parts of a record, and where they end.
use Rattle.std.proofs.Common.{◌≡◌, ℕ, ◌+◌, ◌-◌, ◌*◌, ◌%◌, ◌<◌, ◌≤◌, true, false, List, [], ◌∷◌, length, min, replicate, zero, suc, refl, sym, ap, ◌∙◌, subst, inl, inr, arith, add-zero, length-append}
use Rattle.std.proofs.lemmas.Bool.{cases_Bool, cond-true, cond-false}
use Rattle.std.proofs.lemmas.List.{length-replicate}
use Rattle.std.specs.Int.{next_multiple_of}
use Rattle.repl_lsn.specs.Segment.{IsSegSize}
use Rattle.repl_page.specs.declared.ident.Ident.{Ident}
use Rattle.repl_page.specs.Page.{page_start, header_length, in_header}
use Rattle.repl_record.specs.declared.record.RecordIn.{RecordIn}
use Rattle.repl_record.specs.Record.{IsImage, LastIsContent, content, start_of}
use Rattle.repl_record.specs.Length.{CanBegin, image_end, image_length, position_past}
use Rattle.repl_record.proofs.Pages.{at_page, header_is, in_header_tells, not_in_header_from, not_in_header_tells, same_header_length, same_page_start, place_on_page}
use Rattle.repl_record.proofs.Content.{content-header_byte, content-byte, content-nil, length-content-short}
use Rattle.repl_record.proofs.ImageRightFields.{length-record_bytes}

-- ---- where a record's byte stands

start_inside : (size position : ℕ) → in_header size position ≡ true → start_of size position ≡ page_start position
    + header_length size position
start_inside size position is = cond-true (in_header size position) _ _ is

start_outside : (size position : ℕ) → in_header size position ≡ false → start_of size position ≡ position
start_outside size position is = cond-false (in_header size position) _ _ is

-- no earlier than the position, and in no header
pub start_least : (size position : ℕ) → position ≤ start_of size position
start_least size position =
    elim (cases_Bool (in_header size position)) [
      | inl inside ↦ omega (arith, start_inside size position inside, in_header_tells size position inside)
      | inr outside ↦ omega (arith, start_outside size position outside)
    ]

start_most : (size position : ℕ) → start_of size position ≤ position + 40
start_most size position =
    elim (cases_Bool (in_header size position)) [
      | inl inside ↦ omega (arith, start_inside size position inside, header_is size position)
      | inr outside ↦ omega (arith, start_outside size position outside)
    ]

pub start_is_outside : (size position : ℕ) → IsSegSize size → in_header size (start_of size position) ≡ false
start_is_outside size position is =
    elim (cases_Bool (in_header size position)) [
      | inl inside ↦
          let step = header_length size position - position % 8192 in
          let below = in_header_tells size position inside in
          let on_page : position % 8192 + step < 8192 = omega (arith, header_is size position) in
          let place : start_of size position ≡ position + step = omega (arith, start_inside size position inside) in
          ap (in_header size) place ∙ not_in_header_from size (position + step) (omega (
            arith,
            place_on_page position step on_page,
            same_header_length size position step is on_page,
          ))
      | inr outside ↦ ap (in_header size) (start_outside size position outside) ∙ outside
    ]

-- from one byte of a header on as from the next
start_of_next : (size position : ℕ) → IsSegSize size → in_header size position ≡ true → start_of size (position + 1) ≡ start_of size position
start_of_next size position is inside =
    let below = in_header_tells size position inside in
    let on_page : position % 8192 + 1 < 8192 = omega (arith, header_is size position) in
    let place = place_on_page position 1 on_page in
    let same = same_header_length size position 1 is on_page in
    let start = same_page_start position 1 on_page in
    elim (cases_Bool (in_header size (position + 1))) [
      | inl still ↦ start_inside size (position + 1) still ∙ omega (arith, start, same) ∙ sym (start_inside size position inside)
      | inr ended ↦ start_outside size (position + 1) ended ∙ omega (
        arith,
        place,
        same,
        not_in_header_tells size (position + 1) ended,
      ) ∙ sym (start_inside size position inside)
    ]

-- ---- positions after parts of a record

position_past-none : (size position : ℕ) → position_past size position 0 ≡ position
unfolding position_past
position_past-none size position = refl

position_past-more : (size position n : ℕ) → position_past size position (suc n) ≡ position_past size (start_of size position + 1) n
unfolding position_past
position_past-more size position n = refl

pub position_past-least : (size position n : ℕ) → position + n ≤ position_past size position n
position_past-least size position zero = omega (arith, position_past-none size position)
position_past-least size position (suc n) = omega (
  arith,
  start_least size position,
  position_past-more size position n,
  position_past-least size (start_of size position + 1) n,
)

-- of two parts
position_past-append : (size position m n : ℕ)
    → position_past size position (m + n) ≡ position_past size (position_past size position m) n
position_past-append size position zero n =
    let none : zero + n ≡ n = omega arith in
    ap (position_past size position) none ∙ ap (λ (p : ℕ). position_past size p n) (sym (position_past-none size position))
position_past-append size position (suc m) n =
    let more : suc m + n ≡ suc (m + n) = omega arith in
    ap (position_past size position) more
    ∙ position_past-more size position (m + n)
    ∙ position_past-append size (start_of size position + 1) m n
    ∙ ap (λ (p : ℕ). position_past size p n) (sym (position_past-more size position m))

-- of a longer record no less
position_past-later : (size position m n : ℕ) → m ≤ n → position_past size position m ≤ position_past size position n
position_past-later size position m n within =
    let split : n ≡ m + (n - m) = omega arith in
    let parts = ap (position_past size position) split ∙ position_past-append size position m (n - m) in
    omega (arith, parts, position_past-least size (position_past size position m) (n - m))

-- after the first byte of a header as from it, before some of the record
position_past-header : (size position n : ℕ) → IsSegSize size → in_header size position ≡ true
    → position_past size position (suc n) ≡ position_past size (position + 1) (suc n)
position_past-header size position n is inside = position_past-more size position n
    ∙ ap (λ (p : ℕ). position_past size (p + 1) n) (sym (start_of_next size position is inside))
    ∙ sym (position_past-more size (position + 1) n)

position_past-byte : (size position n : ℕ) → in_header size position ≡ false
    → position_past size position (suc n) ≡ position_past size (position + 1) n
position_past-byte size position n outside = position_past-more size position n
    ∙ ap (λ (p : ℕ). position_past size (p + 1) n) (start_outside size position outside)

-- from where the record's next byte stands
position_past-start : (size position n : ℕ) → IsSegSize size → position_past size position (suc n) ≡ position_past size
    (start_of size position) (suc n)
position_past-start size position n is = position_past-more size position n
    ∙ sym (position_past-byte size (start_of size position) n (start_is_outside size position is))

-- after a part of a page
position_past-page : (size position count n : ℕ) → IsSegSize size → in_header size position ≡ false
    → position % 8192 + count ≤ 8192 → position_past size position (count + n) ≡ position_past size (position + count) n
position_past-page size position zero n is outside within =
    let none : zero + n ≡ n = omega arith in
    ap (position_past size position) none ∙ ap (λ (p : ℕ). position_past size p n) (sym (add-zero position))
position_past-page size position (suc zero) n is outside within =
    let one : suc zero + n ≡ suc n = omega arith in
    ap (position_past size position) one ∙ position_past-byte size position n outside
position_past-page size position (suc (suc count)) n is outside within =
    let on_page : position % 8192 + 1 < 8192 = omega arith in
    let place = place_on_page position 1 on_page in
    let next : in_header size (position + 1) ≡ false = not_in_header_from size (position + 1) (omega (
      arith,
      place,
      same_header_length size position 1 is on_page,
      not_in_header_tells size position outside,
    )) in
    let along : position + 1 + suc count ≡ position + suc (suc count) = omega arith in
    let more : suc (suc count) + n ≡ suc (suc count + n) = omega arith in
    ap (position_past size position) more
    ∙ position_past-byte size position (suc count + n) outside
    ∙ position_past-page size (position + 1) (suc count) n is next (omega (arith, place))
    ∙ ap (λ (p : ℕ). position_past size p n) along

-- a turn over a page, of which so many bytes are taken
position_past-turn : (size position left count : ℕ) → IsSegSize size → 0 < count → count ≤ left
    → start_of size position % 8192 + count ≤ 8192
    → position_past size position left ≡ position_past size (start_of size position + count) (left - count)
position_past-turn size position left count is some within on_page =
    let split : left ≡ suc (left - 1) = omega arith in
    let parts : suc (left - 1) ≡ count + (left - count) = omega arith in
    ap (position_past size position) split
    ∙ position_past-start size position (left - 1) is
    ∙ ap (position_past size (start_of size position)) parts
    ∙ position_past-page size (start_of size position) count (left - count) is (start_is_outside size position is) on_page

-- what is left of a record ends where it did, and each byte goes on by 41 positions at most
pub turn_kept : (size position left start room count end limit : ℕ) → IsSegSize size → start ≡ start_of size position → 0 < left
    → room + start % 8192 ≡ 8192 → count ≡ min room left
    → (position_past size position left ≡ end) × (position + 41 * left ≤ limit)
    → (position_past size (start + count) (left - count) ≡ end) × (start + count + 41 * (left - count) ≤ limit)
turn_kept size position left start room count end limit is start_is some room_is count_is kept =
    let on_page : start_of size position % 8192 + count ≤ 8192 = omega (arith, ap (λ (n : ℕ). n % 8192) start_is) in
    let more : 0 < count = omega arith in
    let turn = position_past-turn size position left count is more (omega arith) on_page in (
      ap (λ (n : ℕ). position_past size (n + count) (left - count)) start_is ∙ sym turn ∙ kept.0,
      omega (arith, start_most size position, kept.1),
    )

-- where nothing is left, the record ends
pub nothing_left : (size position left end : ℕ) → left ≡ 0 → position_past size position left ≡ end → position ≡ end
nothing_left size position left end none is = sym (position_past-none size position) ∙ ap (position_past size position) (sym none) ∙ is

-- ---- where a list ends whose content is so many bytes

-- so many bytes of a record that end with the last of the list
past_front : (size position n : ℕ) (front : List ℕ) → IsSegSize size → length (content size position front) ≡ n → 0 < n
    → LastIsContent size position front → position_past size position n ≡ position + length front
past_front size position n [] is counted some last = absurd (omega (arith, ap length (content-nil size position)))
past_front size position zero (byte ∷ front) is counted some last = absurd (omega arith)
past_front size position (suc n) (byte ∷ []) is counted some last =
    let same : position + 1 - 1 ≡ position = omega arith in
    let outside : in_header size position ≡ false = ap (in_header size) (sym same) ∙ last in
    let one : n ≡ 0 = omega (
      arith,
      ap length (content-byte size position byte [] outside),
      ap length (content-nil size (position + 1)),
    ) in
    position_past-byte size position n outside ∙ ap (position_past size (position + 1)) one ∙ position_past-none size (position + 1)
past_front size position (suc n) (byte ∷ next ∷ front) is counted some last =
    let place : position + 1 + length (next ∷ front) - 1 ≡ position + length (byte ∷ next ∷ front) - 1 = omega arith in
    let rest_last : LastIsContent size (position + 1) (next ∷ front) = ap (in_header size) place ∙ last in
    let along : position + 1 + length (next ∷ front) ≡ position + length (byte ∷ next ∷ front) = omega arith in
    elim (cases_Bool (in_header size position)) [
      | inl inside ↦
          let rest = ap length (sym (content-header_byte size position byte (next ∷ front) inside)) ∙ counted in
          position_past-header size position n is inside ∙ past_front size (position + 1) (suc n) (next
          ∷ front) is rest some rest_last ∙ along
      | inr outside ↦
          let rest : length (content size (position + 1) (next ∷ front)) ≡ n =
          omega (arith, ap length (content-byte size position byte (next ∷ front) outside)) in
          let more = length-content-short size (position + 1) 0 (next ∷ front) (omega arith) rest_last in
          position_past-byte size position n outside ∙ past_front size (position + 1) n (next ∷ front) is rest (omega arith) rest_last
          ∙ along
    ]

-- after the record of an image
pub past_record : (ident : Ident) (timeline : ℕ → ℕ) (from prev : ℕ) (item : RecordIn) (log : List ℕ) → IsSegSize ident.size
    → (image : IsImage ident timeline from prev item log) → position_past ident.size from (24 + length item.body) ≡ from
    + length image.front
past_record ident timeline from prev item log is image =
    past_front ident.size from (24 + length item.body) image.front is (ap length image.bytes ∙ length-record_bytes prev item) (omega arith)
    image.last

rounded_is : (position gap : ℕ) → gap < 8 → (position + gap) % 8 ≡ 0 → next_multiple_of position 8 ≡ position + gap
rounded_is position gap few rounded = omega arith

pub same_image_end : (ident : Ident) (timeline : ℕ → ℕ) (from prev : ℕ) (item : RecordIn) (log : List ℕ) → IsSegSize ident.size
    → IsImage ident timeline from prev item log → from + length log ≡ image_end ident.size from (length item.body)
same_image_end ident timeline from prev item log is image =
    let front = image.front in
    let gap = image.gap in
    let long : from + length log ≡ from + length front + gap = omega (
      arith,
      ap length image.parts,
      length-append front (replicate gap 0),
      length-replicate {A = ℕ} gap 0,
    ) in
    long
    ∙ sym (rounded_is (from + length front) gap image.few (ap (λ (n : ℕ). n % 8) (sym long) ∙ image.rounded))
    ∙ ap (λ (p : ℕ). next_multiple_of p 8) (sym (past_record ident timeline from prev item log is image))

pub same_image_length : (ident : Ident) (timeline : ℕ → ℕ) (from prev : ℕ) (item : RecordIn) (log : List ℕ) → IsSegSize ident.size
    → IsImage ident timeline from prev item log → length log ≡ image_length ident.size from (length item.body)
same_image_length ident timeline from prev item log is image = omega (arith, same_image_end ident timeline from prev item log is image)

-- ---- where images end

rounded_whole : (position : ℕ) → next_multiple_of position 8 % 8 ≡ 0
rounded_whole position = omega arith

pub end_is_rounded : (size at body_length : ℕ) → image_end size at body_length % 8 ≡ 0
end_is_rounded size at body_length = rounded_whole (position_past size at (24 + body_length))

-- the last of some of a record's bytes is none of a header
last_outside : (size position n : ℕ) → IsSegSize size → (last : ℕ) × (position_past size position (suc n) ≡ last + 1)
    × (in_header size last ≡ false)
last_outside size position zero is = (
  start_of size position,
  position_past-more size position 0 ∙ position_past-none size (start_of size position + 1),
  start_is_outside size position is,
)
last_outside size position (suc n) is =
    let rest = last_outside size (start_of size position + 1) n is in
    (rest.0, position_past-more size position (suc n) ∙ rest.1, rest.2)

gap_on_page : (last : ℕ) → last % 8192 + (next_multiple_of (last + 1) 8 - last) ≤ 8192
gap_on_page last = omega arith

gap_past : (last : ℕ) → next_multiple_of (last + 1) 8 ≡ last + (next_multiple_of (last + 1) 8 - last)
gap_past last = omega arith

rounded_can_begin : (size last : ℕ) → IsSegSize size → in_header size last ≡ false → CanBegin size (next_multiple_of (last + 1) 8)
rounded_can_begin size last is outside inside =
    let step = next_multiple_of (last + 1) 8 - last in
    let there : in_header size (last + step) ≡ true = ap (in_header size) (sym (gap_past last)) ∙ inside in
    ap (λ (p : ℕ). p % 8192) (gap_past last)
    ∙ at_page size last step is (not_in_header_tells size last outside) (gap_on_page last) there

pub end_can_begin : (size at body_length : ℕ) → IsSegSize size → CanBegin size (image_end size at body_length)
end_can_begin size at body_length is =
    let last = last_outside size at (23 + body_length) is in
    let more : suc (23 + body_length) ≡ 24 + body_length = omega arith in
    subst (λ (p : ℕ). CanBegin size (next_multiple_of p 8)) (sym (sym (ap (position_past size at) more) ∙ last.1))
    (rounded_can_begin size last.0 is last.2)

rounded_least : (position : ℕ) → position ≤ next_multiple_of position 8
rounded_least position = omega arith

rounded_later : (m n : ℕ) → m ≤ n → next_multiple_of m 8 ≤ next_multiple_of n 8
rounded_later m n within = omega arith

pub end_least : (size at body_length : ℕ) → at + 24 + body_length ≤ image_end size at body_length
end_least size at body_length =
    let past = position_past size at (24 + body_length) in
    omega (arith, rounded_least past, position_past-least size at (24 + body_length))

pub end_later : (size at shorter longer : ℕ) → shorter ≤ longer → image_end size at shorter ≤ image_end size at longer
end_later size at shorter longer within =
    rounded_later (position_past size at (24 + shorter)) (position_past size at (24 + longer))
    (position_past-later size at (24 + shorter) (24 + longer) (omega arith))
