-- Where the headers of pages stand: what holds of positions on one page.
use Rattle.std.proofs.Common.{◌≡◌, ℕ, ◌+◌, ◌-◌, ◌*◌, ◌%◌, ◌/◌, ◌^◌, ◌<◌, ◌≤◌, ◌⊎◌, Bool, true, false, cond, nat_lt, refl, sym, ap, ◌∙◌, add_assoc, inl, inr, arith}
use Rattle.std.proofs.Math.Nat.{div-add-mod', mod-lt, one-le-pow, mul-add-mod_self_right, mul_comm, mul_assoc, mul-le-mul_left}
use Rattle.std.proofs.lemmas.Bool.{cases_lt, lt-ltb, le-ltb, ltb-true, ltb-false}
use Rattle.std.proofs.lemmas.Nat.{mod-mul-add, pow-add, pow_below}
use Rattle.repl_lsn.specs.Segment.{IsSegSize}
use Rattle.repl_page.specs.Page.{page_start, in_first_page, header_length, in_header}

-- a power of two of 2^20 or more is so many times 2^13
many_pages : (e k : ℕ) → e ≡ 13 + k → 2 ^ e ≡ 8192 * 2 ^ k
many_pages e k is = ap (λ (n : ℕ). 2 ^ n) is ∙ pow-add 2 13 k

small_powers : (e : ℕ) → e < 13 → 2 ^ 20 ≤ 2 ^ e → ⊥
small_powers e below h =
    let less : 2 ^ e < 2 ^ 13 = pow_below e 13 below in
    absurd (omega arith)

-- a segment is so many pages
whole_pages : (size : ℕ) → IsSegSize size → (pages : ℕ) × (size ≡ 8192 * pages) × (0 < pages)
whole_pages size is =
    elim (cases_lt is.exponent 13) [
      | inl below ↦ absurd (small_powers is.exponent below (omega (arith, is.least, is.power)))
      | inr above ↦ (
        2 ^ (is.exponent - 13),
        is.power ∙ many_pages is.exponent (is.exponent - 13) (omega arith),
        one-le-pow (is.exponent - 13) 2 (omega arith),
      )
    ]

-- two positions as far from the segment's start, or both after its first page
same_test : (r i : ℕ) → r % 8192 + i < 8192 → nat_lt (r + i) 8192 ≡ nat_lt r 8192
same_test r i within =
    elim (cases_lt r 8192) [
      | inl first ↦ lt-ltb (r + i) 8192 (omega arith) ∙ sym (lt-ltb r 8192 first)
      | inr later ↦ le-ltb (r + i) 8192 (omega arith) ∙ sym (le-ltb r 8192 later)
    ]

-- what is left of a segment past a position on a page is at least the rest of that page
page_in_segment : (pages r i : ℕ) → r < 8192 * pages → r % 8192 + i < 8192 → r + i < 8192 * pages
page_in_segment pages r i inside within =
    let page = r / 8192 in
    elim (cases_lt page pages) [
      | inl below ↦ let room : 8192 * (page + 1) ≤ 8192 * pages = mul-le-mul_left 8192 (omega arith) in omega arith
      | inr above ↦ let full : 8192 * pages ≤ 8192 * page = mul-le-mul_left 8192 above in absurd (omega arith)
    ]

place_in_segment : (size pages position i : ℕ) → size ≡ 8192 * pages → 0 < pages → position % 8192 + i < 8192
    → ((position + i) % size ≡ position % size + i) × (position % size % 8192 ≡ position % 8192)
place_in_segment size pages position i is some within =
    let r = position % size in
    let q = position / size in
    let inside : r < size = mod-lt position (omega arith) in
    let split : q * size + r ≡ position = div-add-mod' position size in
    let regroup : q * size ≡ (q * pages) * 8192 = ap (λ (n : ℕ). q * n) (is ∙ mul_comm 8192 pages) ∙ sym (mul_assoc q pages 8192) in
    let same : position % 8192 ≡ r % 8192 = ap (λ (n : ℕ). n % 8192) (sym split ∙ ap (λ (n : ℕ). n + r) regroup)
    ∙ mul-add-mod_self_right (q * pages) 8192 r in
    let room : r + i < 8192 * pages = page_in_segment pages r i (omega arith) (omega (arith, same)) in
    let fits : r + i < size = omega arith in (
      ap (λ (n : ℕ). (n + i) % size) (sym split) ∙ ap (λ (n : ℕ). n % size) (add_assoc (q * size) r i) ∙ mod-mul-add q size (r + i) fits,
      sym same,
    )

-- a position on the same page has the same place in its segment
same_first_page : (size position i : ℕ) → IsSegSize size → position % 8192 + i < 8192
    → in_first_page size (position + i) ≡ in_first_page size position
same_first_page size position i is within =
    let pages = whole_pages size is in
    let places = place_in_segment size pages.0 position i pages.1 pages.2 within in
    ap (λ (n : ℕ). nat_lt n 8192) places.0 ∙ same_test (position % size) i (omega (arith, places.1))

pub same_header_length : (size position i : ℕ) → IsSegSize size → position % 8192 + i < 8192
    → header_length size (position + i) ≡ header_length size position
same_header_length size position i is within = ap (λ (b : Bool). cond b 40 24) (same_first_page size position i is within)

cond_is : (b : Bool) → (cond {A = ℕ} b 40 24 ≡ 24) ⊎ (cond {A = ℕ} b 40 24 ≡ 40)
cond_is true = inr refl
cond_is false = inl refl

pub header_is : (size position : ℕ) → (header_length size position ≡ 24) ⊎ (header_length size position ≡ 40)
header_is size position = cond_is (in_first_page size position)

pub place_on_page : (position i : ℕ) → position % 8192 + i < 8192 → (position + i) % 8192 ≡ position % 8192 + i
place_on_page position i within = omega arith

pub same_page_start : (position i : ℕ) → position % 8192 + i < 8192 → page_start (position + i) ≡ page_start position
same_page_start position i within = omega arith

pub page_start_is_page : (position : ℕ) → page_start position % 8192 ≡ 0
page_start_is_page position = omega arith

-- ---- bytes of headers and others

pub in_header_from : (size position : ℕ) → position % 8192 < header_length size position → in_header size position ≡ true
in_header_from size position inside = lt-ltb (position % 8192) (header_length size position) inside

pub not_in_header_from : (size position : ℕ) → header_length size position ≤ position % 8192 → in_header size position ≡ false
not_in_header_from size position past = le-ltb (position % 8192) (header_length size position) past

pub in_header_tells : (size position : ℕ) → in_header size position ≡ true → position % 8192 < header_length size position
in_header_tells size position is = ltb-true (position % 8192) (header_length size position) is

pub not_in_header_tells : (size position : ℕ) → in_header size position ≡ false → header_length size position ≤ position % 8192
not_in_header_tells size position is = ltb-false (position % 8192) (header_length size position) is

-- the byte before a page is none of a header
pub before_page : (size page : ℕ) → page % 8192 ≡ 0 → 0 < page → in_header size (page - 1) ≡ false
before_page size page is some = not_in_header_from size (page - 1) (omega (arith, header_is size (page - 1)))

-- a position that is a multiple of 8 and not in a header has no header before the next multiple of 8
pub same_eight : (size position i : ℕ) → IsSegSize size → in_header size position ≡ false → position % 8 + i < 8
    → in_header size (position + i) ≡ false
same_eight size position i is outside within =
    let past = not_in_header_tells size position outside in
    not_in_header_from size (position + i) (omega (
      arith,
      same_header_length size position i is (omega arith),
      place_on_page position i (omega arith),
    ))

-- ---- ends of headers

-- a page has one header
pub length_of_page : (size at : ℕ) → IsSegSize size → header_length size (page_start at) ≡ header_length size at
length_of_page size at is =
    let on_page : page_start at % 8192 + at % 8192 < 8192 = omega arith in
    sym (same_header_length size (page_start at) (at % 8192) is on_page) ∙ ap (header_length size) (omega arith)

-- so many bytes on it is in the header yet
pub still_in_header : (size at i : ℕ) → IsSegSize size → at % 8192 + i < header_length size at → in_header size (at + i) ≡ true
still_in_header size at i is within =
    let on_page : at % 8192 + i < 8192 = omega (arith, header_is size at) in
    in_header_from size (at + i) (omega (arith, place_on_page at i on_page, same_header_length size at i is on_page))

-- a page whose header ends here is the one in whose header the position was
pub page_of_end : (size at i page : ℕ) → page % 8192 ≡ 0 → at % 8192 + i ≤ header_length size at → at + i ≡ page + header_length size page
    → page ≡ page_start at
page_of_end size at i page is_page within ended = omega (arith, header_is size at, header_is size page)

-- a header that began is whole before a byte that is none of it
pub header_is_whole : (size page position : ℕ) → IsSegSize size → page % 8192 ≡ 0 → page ≤ position → in_header size position ≡ false
    → page + header_length size page ≤ position
header_is_whole size page position is is_page began outside =
    elim (cases_lt position (page + header_length size page)) [
      | inl inside ↦
          let step = position - page in
          let place : position ≡ page + step = omega arith in
          let past = not_in_header_tells size (page + step) (ap (in_header size) (sym place) ∙ outside) in
          let limit = same_header_length size page step is (omega (arith, header_is size page)) in
          absurd (omega (arith, header_is size page))
      | inr whole ↦ whole
    ]

-- after bytes on one page the position is in a header at its page's first byte alone
pub at_page : (size at n : ℕ) → IsSegSize size → header_length size at ≤ at % 8192 → at % 8192 + n ≤ 8192 → in_header size (at + n) ≡ true
    → (at + n) % 8192 ≡ 0
at_page size at n is outside on_page inside =
    elim (cases_lt (at % 8192 + n) 8192) [
      | inl within ↦ absurd (omega (
        arith,
        in_header_tells size (at + n) inside,
        place_on_page at n within,
        same_header_length size at n is within,
      ))
      | inr end ↦ omega arith
    ]
