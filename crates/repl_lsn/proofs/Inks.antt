-- Bytes without blanks at their ends, and those of a list from which its blanks are taken.
use Rattle.std.proofs.Common.{◌≡◌, ◌≢◌, ℕ, zero, suc, ◌+◌, ◌-◌, ◌<◌, true, false, List, [], ◌∷◌, ◌++◌, length, get_or, take, drop, refl, sym, ap, subst, ◌∙◌, take-append-drop, length-drop, append_assoc, reverse, arith}
use Rattle.std.proofs.lemmas.Bool.{both_ways}
use Rattle.std.proofs.lemmas.List.{get_or-take, get_or-drop, get_or-reverse, length-take-le, length-reverse}
use Rattle.std.proofs.lemmas.List.Elements.{All-head, All-tail, All-from_get_or, All-take, All-drop, All-append}
use Rattle.std.proofs.lemmas.List.Sums.{prefix_len_passes, prefix_len_stops, suffix_len-le-length}
use Rattle.std.specs.List.{All, prefix_len, suffix_len}
use Rattle.repl_lsn.specs.Line.{is_blank, AreBlank, BeginsInk, EndsInk, IsLine}
use Rattle.repl_lsn.specs.History.{IsReason}
use Rattle.repl_lsn.proofs.Blanks.{inked, blanks_of, blanks_blank, inked_ink, inked_parts, inked_is}

-- the last byte

pub ends_from_last : (bytes : List ℕ) → (0 < length bytes → is_blank (get_or bytes (length bytes - 1) 0) ≡ false) → EndsInk bytes
ends_from_last [] h = tt
ends_from_last (c ∷ []) h = h (omega arith)
ends_from_last (c ∷ d ∷ cs) h =
    let e : length (c ∷ d ∷ cs) - 1 ≡ suc (length (d ∷ cs) - 1) = omega arith in
    ends_from_last (d ∷ cs) (λ l. ap (λ k. is_blank (get_or (c ∷ d ∷ cs) k 0)) (sym e) ∙ h (omega arith))

pub last_from_ends : (bytes : List ℕ) → EndsInk bytes → 0 < length bytes → is_blank (get_or bytes (length bytes - 1) 0) ≡ false
last_from_ends [] h some = absurd (omega arith)
last_from_ends (c ∷ []) h some = h
last_from_ends (c ∷ d ∷ cs) h some =
    let e : length (c ∷ d ∷ cs) - 1 ≡ suc (length (d ∷ cs) - 1) = omega arith in
    ap (λ k. is_blank (get_or (c ∷ d ∷ cs) k 0)) e ∙ last_from_ends (d ∷ cs) h (omega arith)

ends_tail : (c : ℕ) (cs : List ℕ) → EndsInk (c ∷ cs) → EndsInk cs
ends_tail c [] h = tt
ends_tail c (d ∷ cs) h = h

-- bytes that end with no blank are not all blank
not_blank : (c : ℕ) (cs past : List ℕ) → EndsInk (c ∷ cs) → AreBlank ((c ∷ cs) ++ past) → ⊥
not_blank c [] past h blank = both_ways (is_blank c) h (All-head (λ b. is_blank b ≡ true) c past blank)
not_blank c (d ∷ cs) past h blank = not_blank d cs past h (All-tail (λ b. is_blank b ≡ true) c ((d ∷ cs) ++ past) blank)

one_tail : (a b c d : List ℕ) → EndsInk a → EndsInk b → AreBlank c → AreBlank d → a ++ c ≡ b ++ d → a ≡ b
one_tail [] [] c d h k p q e = refl
one_tail [] (y ∷ b) c d h k p q e = absurd (not_blank y b d k (subst AreBlank e p))
one_tail (x ∷ a) [] c d h k p q e = absurd (not_blank x a c h (subst AreBlank (sym e) q))
one_tail (x ∷ a) (y ∷ b) c d h k p q e =
    let first : x ≡ y = cc in
    let rest : a ++ c ≡ b ++ d = cc in
    let r = one_tail a b c d (ends_tail x a h) (ends_tail y b k) p q rest in
    cc

begins_take : (n : ℕ) (bytes : List ℕ) → BeginsInk bytes → BeginsInk (take n bytes)
begins_take zero bytes h = tt
begins_take (suc n) [] h = tt
begins_take (suc n) (c ∷ cs) h = h

blank_past : (a b : List ℕ) → AreBlank (a ++ b) → AreBlank b
blank_past [] b h = h
blank_past (c ∷ a) b h = blank_past a b (All-tail (λ x. is_blank x ≡ true) c (a ++ b) h)

all_blank : (bytes : List ℕ) → IsReason bytes [] → AreBlank bytes
all_blank bytes p = subst AreBlank (sym (p.parts ∙ append_assoc p.front [] p.back)) (All-append (λ c. is_blank c ≡ true) p.front p.back
    p.blank.0 p.blank.1)

not_all_blank : (bytes : List ℕ) (c : ℕ) (cs : List ℕ) → AreBlank bytes → IsReason bytes (c ∷ cs) → ⊥
not_all_blank bytes c cs blank p =
    not_blank c cs p.back (p.line).ends (blank_past p.front ((c ∷ cs) ++ p.back) (subst AreBlank (p.parts
    ∙ append_assoc p.front (c ∷ cs) p.back) blank))

-- what is left of the blanks of one text is one
pub one_reason : (bytes a b : List ℕ) → IsReason bytes a → IsReason bytes b → a ≡ b
one_reason bytes [] [] p q = refl
one_reason bytes [] (y ∷ b) p q = absurd (not_all_blank bytes y b (all_blank bytes p) q)
one_reason bytes (x ∷ a) [] p q = absurd (not_all_blank bytes x a (all_blank bytes q) p)
one_reason bytes (x ∷ a) (y ∷ b) p q =
    let u = inked_is bytes p.front ((x ∷ a) ++ p.back) (p.parts ∙ append_assoc p.front (x ∷ a) p.back) p.blank.0 (p.line).begins in
    let v = inked_is bytes q.front ((y ∷ b) ++ q.back) (q.parts ∙ append_assoc q.front (y ∷ b) q.back) q.blank.0 (q.line).begins in
    one_tail (x ∷ a) (y ∷ b) p.back q.back (p.line).ends (q.line).ends p.blank.1 q.blank.1 (u.1 ∙ sym v.1)

-- where the blanks at the end begin
abbrev pub ink_end : List ℕ → ℕ
ink_end bytes = length bytes - suffix_len is_blank bytes

from_end : (bytes : List ℕ) (i : ℕ) → i < length bytes → get_or bytes i 0 ≡ get_or (reverse bytes) (length bytes - 1 - i) 0
from_end bytes i l =
    let below : length bytes - 1 - i < length bytes = omega arith in
    let same : length bytes - 1 - (length bytes - 1 - i) ≡ i = omega arith in
    ap (λ k. get_or bytes k 0) (sym same) ∙ sym (get_or-reverse bytes (length bytes - 1 - i) 0 below)

blank_end : (bytes : List ℕ) → AreBlank (drop (ink_end bytes) bytes)
blank_end bytes = All-from_get_or (λ c. is_blank c ≡ true) (drop (ink_end bytes) bytes) 0
    (λ i l.
    let size = length-drop (ink_end bytes) bytes in
    let few = suffix_len-le-length is_blank bytes in
    let inside : ink_end bytes + i < length bytes = omega arith in
    let near : length bytes - 1 - (ink_end bytes + i) < suffix_len is_blank bytes = omega arith in
    ap is_blank (get_or-drop (ink_end bytes) bytes i 0 ∙ from_end bytes (ink_end bytes + i) inside)
    ∙ prefix_len_passes is_blank (reverse bytes) (length bytes - 1 - (ink_end bytes + i)) 0 near)

ends_front : (bytes : List ℕ) → EndsInk (take (ink_end bytes) bytes)
ends_front bytes = ends_from_last (take (ink_end bytes) bytes)
    (λ some.
    let few = suffix_len-le-length is_blank bytes in
    let size : length (take (ink_end bytes) bytes) ≡ ink_end bytes = length-take-le (ink_end bytes) bytes (omega arith) in
    let last : ink_end bytes - 1 < ink_end bytes = omega arith in
    let inside : ink_end bytes - 1 < length bytes = omega arith in
    let place : length bytes - 1 - (ink_end bytes - 1) ≡ suffix_len is_blank bytes = omega arith in
    let long : suffix_len is_blank bytes < length (reverse bytes) = omega (arith, length-reverse bytes) in
    ap (λ k. is_blank (get_or (take (ink_end bytes) bytes) (k - 1) 0)) size
    ∙ ap is_blank (get_or-take (ink_end bytes) bytes (ink_end bytes - 1) 0 last ∙ from_end bytes (ink_end bytes - 1) inside
    ∙ ap (λ k. get_or (reverse bytes) k 0) place)
    ∙ prefix_len_stops is_blank (reverse bytes) 0 long)

-- the bytes without the blanks at their ends
abbrev pub ink_of : List ℕ → List ℕ
ink_of bytes = take (ink_end (inked bytes)) (inked bytes)

pub ink_is_line : (bytes : List ℕ) → All (λ c. c ≢ 10) bytes → IsLine (ink_of bytes)
ink_is_line bytes one = record {
  one = All-take (λ c. c ≢ 10) (ink_end (inked bytes)) (inked bytes) (All-drop (λ c. c ≢ 10) (prefix_len is_blank bytes) bytes one);
  begins = begins_take (ink_end (inked bytes)) (inked bytes) (inked_ink bytes);
  ends = ends_front (inked bytes);
}

pub ink_is_reason : (bytes : List ℕ) → All (λ c. c ≢ 10) bytes → IsReason bytes (ink_of bytes)
ink_is_reason bytes one = record {
  front = blanks_of bytes;
  back = drop (ink_end (inked bytes)) (inked bytes);
  parts = inked_parts bytes ∙ ap (λ rest. blanks_of bytes ++ rest) (sym (take-append-drop (ink_end (inked bytes)) (inked bytes)))
      ∙ sym (append_assoc (blanks_of bytes) (ink_of bytes) (drop (ink_end (inked bytes)) (inked bytes)));
  blank = (blanks_blank bytes, blank_end (inked bytes));
  line = ink_is_line bytes one;
}
