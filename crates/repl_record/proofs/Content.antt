-- The log's bytes without the headers of its pages: of parts of the log, of a longer log, and how many there are.
use Rattle.std.proofs.Common.{◌≡◌, ℕ, ◌+◌, ◌%◌, ◌<◌, ◌≤◌, true, false, List, [], ◌∷◌, ◌++◌, length, take, drop, suc, refl, sym, ap, ◌∙◌, subst, inl, inr, arith, add-zero, ◌-◌, get_or, append-nil, length-append, length-drop}
use Rattle.std.proofs.lemmas.Bool.{cases_Bool, cond-true, cond-false}
use Rattle.std.proofs.lemmas.List.{take-append-drop, take_at, length-take-le, take-take, take_all, take_more}
use Rattle.repl_lsn.specs.Segment.{IsSegSize}
use Rattle.repl_page.specs.Page.{header_length, in_header}
use Rattle.repl_record.specs.Record.{AreBytes, content, LastIsContent}
use Rattle.repl_record.proofs.Fields.{AreBytes-cons}
use Rattle.repl_record.proofs.Pages.{header_is, same_header_length, place_on_page, in_header_from, not_in_header_from}

-- one byte more at the front
pub content-header_byte : (size position byte : ℕ) (bytes : List ℕ) → in_header size position ≡ true
    → content size position (byte ∷ bytes) ≡ content size (position + 1) bytes
unfolding content
content-header_byte size position byte bytes is = cond-true (in_header size position) _ _ is

pub content-byte : (size position byte : ℕ) (bytes : List ℕ) → in_header size position ≡ false
    → content size position (byte ∷ bytes) ≡ byte ∷ content size (position + 1) bytes
unfolding content
content-byte size position byte bytes is = cond-false (in_header size position) _ _ is

pub content-nil : (size position : ℕ) → content size position [] ≡ []
unfolding content
content-nil size position = refl

-- of two parts
pub content-append : (size position : ℕ) (xs ys : List ℕ) → content size position (xs ++ ys) ≡ content size position xs
    ++ content size (position + length xs) ys
content-append size position [] ys = ap (λ (p : ℕ). content size p ys) (sym (add-zero position))
    ∙ ap (λ (front : List ℕ). front ++ content size (position + 0) ys) (sym (content-nil size position))
content-append size position (x ∷ xs) ys =
    let past : content size (position + 1 + length xs) ys ≡ content size (position + suc (length xs)) ys =
    ap (λ (p : ℕ). content size p ys) (omega arith) in
    let rest = content-append size (position + 1) xs ys ∙ ap (λ (t : List ℕ). content size (position + 1) xs ++ t) past in
    elim (cases_Bool (in_header size position)) [
      | inl inside ↦ content-header_byte size position x (xs ++ ys) inside ∙ rest
          ∙ ap (λ (front : List ℕ). front ++ content size (position + suc (length xs)) ys)
          (sym (content-header_byte size position x xs inside))
      | inr outside ↦ content-byte size position x (xs ++ ys) outside ∙ ap (λ (t : List ℕ). x ∷ t) rest
          ∙ ap (λ (front : List ℕ). front ++ content size (position + suc (length xs)) ys) (sym (content-byte size position x xs outside))
    ]

-- of a part of a header nothing is left
pub content-header : (size position : ℕ) (bytes : List ℕ) → IsSegSize size → position % 8192 + length bytes ≤ header_length size position
    → content size position bytes ≡ []
content-header size position [] is within = content-nil size position
content-header size position (byte ∷ bytes) is within =
    let inside = in_header_from size position (omega arith) in
    let on_page : position % 8192 + 1 < 8192 = omega (arith, header_is size position) in
    let place = place_on_page position 1 on_page in
    let limit = same_header_length size position 1 is on_page in
    content-header_byte size position byte bytes inside ∙ content-header size (position + 1) bytes is (omega (arith, place, limit))

-- of a part of the rest of a page all is
pub content-page : (size position : ℕ) (bytes : List ℕ) → IsSegSize size → header_length size position ≤ position % 8192
    → position % 8192 + length bytes ≤ 8192 → content size position bytes ≡ bytes
content-page size position [] is past within = content-nil size position
content-page size position (byte ∷ []) is past within =
    content-byte size position byte [] (not_in_header_from size position past)
    ∙ ap (λ (t : List ℕ). byte ∷ t) (content-nil size (position + 1))
content-page size position (byte ∷ next ∷ bytes) is past within =
    let on_page : position % 8192 + 1 < 8192 = omega arith in
    let place = place_on_page position 1 on_page in
    let limit = same_header_length size position 1 is on_page in
    let rest = content-page size (position + 1) (next ∷ bytes) is (omega (arith, place, limit)) (omega (arith, place)) in
    content-byte size position byte (next ∷ bytes) (not_in_header_from size position past) ∙ ap (λ (t : List ℕ). byte ∷ t) rest

pub length-content : (size position : ℕ) (bytes : List ℕ) → length (content size position bytes) ≤ length bytes
length-content size position [] = omega (arith, ap length (content-nil size position))
length-content size position (byte ∷ bytes) =
    let rest = length-content size (position + 1) bytes in
    elim (cases_Bool (in_header size position)) [
      | inl inside ↦ omega (arith, rest, ap length (content-header_byte size position byte bytes inside))
      | inr outside ↦ omega (arith, rest, ap length (content-byte size position byte bytes outside))
    ]

-- what is left of a front is a front of what is left
content-take : (size position n : ℕ) (bytes : List ℕ) → content size position bytes ≡ content size position (take n bytes)
    ++ content size (position + length (take n bytes)) (drop n bytes)
content-take size position n bytes = ap (content size position) (sym (take-append-drop n bytes))
    ∙ content-append size position (take n bytes) (drop n bytes)

pub take-content : (size position n : ℕ) (bytes : List ℕ) → take (length (content size position (take n bytes)))
    (content size position bytes) ≡ content size position (take n bytes)
take-content size position n bytes = ap (take (length (content size position (take n bytes)))) (content-take size position n bytes)
    ∙ take_at (content size position (take n bytes)) (content size (position + length (take n bytes)) (drop n bytes))
    (length (content size position (take n bytes))) refl

pub AreBytes-content : (size position : ℕ) (bytes : List ℕ) → AreBytes bytes → AreBytes (content size position bytes)
AreBytes-content size position [] are = subst AreBytes (sym (content-nil size position)) are
AreBytes-content size position (byte ∷ bytes) are =
    let rest = AreBytes-content size (position + 1) bytes (λ (i : ℕ). are (suc i)) in
    elim (cases_Bool (in_header size position)) [
      | inl inside ↦ subst AreBytes (sym (content-header_byte size position byte bytes inside)) rest
      | inr outside ↦ subst AreBytes (sym (content-byte size position byte bytes outside))
          (AreBytes-cons byte (content size (position + 1) bytes) (are 0) rest)
    ]

-- ---- of what is longer

-- of bytes on one page after its header all is added
pub content-more : (size at from : ℕ) (log piece : List ℕ) → IsSegSize size → at ≡ from + length log → header_length size at ≤ at % 8192
    → at % 8192 + length piece ≤ 8192
    → content size from (log ++ piece) ≡ content size from log ++ piece
content-more size at from log piece is past outside on_page =
    content-append size from log piece ∙ ap (λ (t : List ℕ). content size from log ++ t) (ap (λ (p : ℕ). content size p piece) (sym past)
    ∙ content-page size at piece is outside on_page)

-- and the last of them is none of a header
pub last_more : (size at from : ℕ) (log piece : List ℕ) → IsSegSize size → at ≡ from + length log → header_length size at ≤ at % 8192
    → at % 8192 + length piece ≤ 8192 → 0 < length piece
    → LastIsContent size from (log ++ piece)
last_more size at from log piece is past outside on_page some =
    let i = length piece - 1 in
    let within : at % 8192 + i < 8192 = omega arith in
    let place : from + length (log ++ piece) - 1 ≡ at + i = omega (arith, length-append log piece) in
    ap (in_header size) place ∙ not_in_header_from size (at + i) (omega (
      arith,
      place_on_page at i within,
      same_header_length size at i is within,
    ))

-- of a part of a header nothing is
pub content-append-header : (size from at : ℕ) (log piece : List ℕ) → IsSegSize size → at ≡ from + length log
    → at % 8192 + length piece ≤ header_length size at → content size from (log ++ piece) ≡ content size from log
content-append-header size from at log piece is past within =
    let Within : ℕ → Type 0 = λ (p : ℕ). p % 8192 + length piece ≤ header_length size p in
    content-append size from log piece ∙ ap (λ (t : List ℕ). content size from log
    ++ t) (content-header size (from + length log) piece is (subst Within past within)) ∙ append-nil (content size from log)

-- where a header is begun, the record's bytes are those before its page
pub content-before_page : (size from page : ℕ) (log : List ℕ) → IsSegSize size → page % 8192 ≡ 0 → from ≤ page → page ≤ from + length log
    → from + length log ≤ page + header_length size page → content size from log ≡ content size from (take (page - from) log)
content-before_page size from page log is is_page began ended within =
    let n = page - from in
    let past : page ≡ from + length (take n log) = omega (arith, length-take-le n log (omega arith)) in
    ap (content size from) (sym (take-append-drop n log)) ∙ content-append-header size from page (take n log) (drop n log) is past
    (omega (arith, length-drop n log))

-- ---- how much there is

-- of a front there is no more
pub length-content-front : (size from n : ℕ) (bytes : List ℕ) → length (content size from (take n bytes)) ≤ length (content size from bytes)
length-content-front size from n bytes =
    let front = content size from (take n bytes) in
    let past = content size (from + length (take n bytes)) (drop n bytes) in
    omega (arith, ap length (content-take size from n bytes), length-append front past)

-- of a longer front there is no less
pub length-content-take : (size from m n : ℕ) (bytes : List ℕ) → m ≤ n
    → length (content size from (take m bytes)) ≤ length (content size from (take n bytes))
length-content-take size from m n bytes within =
    let shorter : length (content size from (take m (take n bytes))) ≡ length (content size from (take m bytes)) =
    ap (λ (t : List ℕ). length (content size from t)) (take-take m n bytes within) in
    omega (arith, shorter, length-content-front size from m (take n bytes))

-- a byte more, which is none of a header
pub length-content-next : (size from i : ℕ) (bytes : List ℕ) → i < length bytes → in_header size (from + i) ≡ false
    → length (content size from (take (i + 1) bytes)) ≡ length (content size from (take i bytes)) + 1
length-content-next size from i bytes inside outside =
    let byte = get_or bytes i 0 in
    let front = take i bytes in
    let here = ap (λ (k : ℕ). in_header size (from + k)) (length-take-le i bytes (omega arith)) ∙ outside in
    let single : length (content size (from + length front) (byte ∷ [])) ≡ 1 =
    ap length (content-byte size (from + length front) byte [] here)
    ∙ ap (λ (t : List ℕ). length (byte ∷ t)) (content-nil size (from + length front + 1)) in
    ap (λ (t : List ℕ). length (content size from t)) (take_more bytes i 0 inside)
    ∙ ap length (content-append size from front (byte ∷ []))
    ∙ length-append (content size from front) (content size (from + length front) (byte ∷ []))
    ∙ omega (arith, single)

-- without the last byte, which is none of a header, or more, there is less
pub length-content-short : (size from n : ℕ) (bytes : List ℕ) → n < length bytes → LastIsContent size from bytes
    → length (content size from (take n bytes)) < length (content size from bytes)
length-content-short size from n bytes below last =
    let m = length bytes - 1 in
    let place : from + length bytes - 1 ≡ from + m = omega arith in
    let next = length-content-next size from m bytes (omega arith) (subst (λ (p : ℕ). in_header size p ≡ false) place last) in
    let all = ap (λ (t : List ℕ). length (content size from t)) (take_all (m + 1) bytes (omega arith)) in
    omega (arith, all, next, length-content-take size from n m bytes (omega arith))

-- the eight bytes before a page are content
pub eight_before_page : (size from page : ℕ) (bytes : List ℕ) → IsSegSize size → page % 8192 ≡ 0 → from + 8 ≤ page
    → page ≤ from + length bytes → 8 ≤ length (content size from (take (page - from) bytes))
eight_before_page size from page bytes is is_page past within =
    let n = page - from in
    let front = take n bytes in
    let all : length front ≡ n = length-take-le n bytes (omega arith) in
    let first : length (take (n - 8) front) ≡ n - 8 = length-take-le (n - 8) front (omega arith) in
    let place : from + length (take (n - 8) front) ≡ page - 8 = omega arith in
    let eight : length (drop (n - 8) front) ≡ 8 = omega (arith, length-drop (n - 8) front) in
    let counted : content size (from + length (take (n - 8) front)) (drop (n - 8) front) ≡ drop (n - 8) front =
    content-page size (from + length (take (n - 8) front)) (drop (n - 8) front) is (omega (
      arith,
      header_is size (from + length (take (n - 8) front)),
    )) (omega arith) in
    omega (
      arith,
      ap length (content-take size from (n - 8) front),
      length-append (content size from (take (n - 8) front)) (content size (from + length (take (n - 8) front)) (drop (n - 8) front)),
      ap length counted,
    )
