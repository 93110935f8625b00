-- The canonical text of a position: the one that is printed, and no other.
use Rattle.std.proofs.Common.{◌≡◌, ℕ, ◌/◌, ◌%◌, ◌^◌, ◌<◌, true, List, ◌∷◌, ◌++◌, refl, sym, ap, ◌∙◌, arith}
use Rattle.std.specs.Fmt.{digits}
use Rattle.std.specs.Str.Parse.{digits_value}
use Rattle.repl_lsn.specs.Position.{Spells, IsCanonical, position_text}
use Rattle.repl_lsn.proofs.Halves.{half_fits}
use Rattle.repl_lsn.proofs.Hex.{plain_digits, value_digits, plain_is_digits}

pub position_text_canonical : (position : ℕ) → position < 2 ^ 64 → IsCanonical (position_text position) position
position_text_canonical position small = record {
  high = digits 16 true (position / 2 ^ 32);
  low = digits 16 true (position % 2 ^ 32);
  high_is = plain_digits (position / 2 ^ 32) (omega arith);
  low_is = plain_digits (position % 2 ^ 32) (omega arith);
  parts = refl;
  value = omega (arith, value_digits (position / 2 ^ 32) (omega arith), value_digits (position % 2 ^ 32) (omega arith));
}

pub canonical_spells : (text : List ℕ) (position : ℕ) → IsCanonical text position → Spells text position
canonical_spells text position h = record {
  high = h.high;
  low = h.low;
  high_is = h.high_is.is_half;
  low_is = h.low_is.is_half;
  parts = h.parts;
  value = h.value;
}

pub position_text_spells : (position : ℕ) → position < 2 ^ 64 → Spells (position_text position) position
position_text_spells position small = canonical_spells (position_text position) position (position_text_canonical position small)

-- the canonical text is the one that is printed
pub canonical_is_position_text : (text : List ℕ) (position : ℕ) → IsCanonical text position → text ≡ position_text position
canonical_is_position_text text position h =
    let fits = half_fits h.low h.low_is.is_half.hexadecimal h.low_is.is_half.few in
    let high : digits_value 16 h.high ≡ position / 2 ^ 32 = omega (arith, h.value) in
    let low : digits_value 16 h.low ≡ position % 2 ^ 32 = omega (arith, h.value) in
    let high_text : h.high ≡ digits 16 true (position / 2 ^ 32) = sym (plain_is_digits h.high h.high_is) ∙ ap (digits 16 true) high in
    let low_text : h.low ≡ digits 16 true (position % 2 ^ 32) = sym (plain_is_digits h.low h.low_is) ∙ ap (digits 16 true) low in
    h.parts ∙ ap (λ x. x ++ 47 ∷ h.low) high_text ∙ ap (λ x. digits 16 true (position / 2 ^ 32) ++ 47 ∷ x) low_text

pub one_canonical : (a b : List ℕ) (position : ℕ) → IsCanonical a position → IsCanonical b position → a ≡ b
one_canonical a b position p q = canonical_is_position_text a position p ∙ sym (canonical_is_position_text b position q)
