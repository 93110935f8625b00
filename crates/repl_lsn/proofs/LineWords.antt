-- The number and the switch point of a line: what stands where, and that they are one.
use Rattle.std.proofs.Common.{◌≡◌, ℕ, ◌+◌, ◌^◌, ◌<◌, ◌≤◌, true, false, ◌==◌, List, [], ◌∷◌, ◌++◌, length, refl, sym, ap, subst, ◌∙◌, append_assoc, length-append, ⊎_elim, arith}
use Rattle.std.proofs.lemmas.Bool.{eqb-true, or_cases, false_from_ne_true, cond-true}
use Rattle.std.proofs.lemmas.Bool.Decides.{nat_tests}
use Rattle.std.proofs.lemmas.List.{length-take-le}
use Rattle.std.proofs.lemmas.List.Sums.{prefix_len-le-length}
use Rattle.std.proofs.lemmas.List.Elements.{All-nil, All-cons, All-append, All-weaker, All-head}
use Rattle.std.specs.Char.{is_ascii_digit, digit_value}
use Rattle.std.specs.List.{All, prefix_len}
use Rattle.std.specs.Str.Parse.{AllDigits, digits_value}
use Rattle.repl_lsn.specs.Line.{is_blank, AreBlank, BeginsInk}
use Rattle.repl_lsn.specs.Position.{Spells}
use Rattle.repl_lsn.specs.History.{IsApart, HasNumber, HasSwitch}
use Rattle.repl_lsn.proofs.Splits.{one_position}
use Rattle.repl_lsn.proofs.Blanks.{inked, blanks_of, word_of, past_word, blanks_blank, inked_parts, inked_is, word_apart, word_parts, word_is}

-- digits are no blanks

digit_inks : (c : ℕ) → is_ascii_digit c ≡ true → is_blank c ≡ false
digit_inks c e = grind (arith, nat_tests)

no_hex : (c d : ℕ) → c ≡ d → digit_value c < 16 → 16 ≤ digit_value d → ⊥
no_hex c d e h high = let l : digit_value d < 16 = subst (λ x. digit_value x < 16) e h in omega arith

hex_inks : (c : ℕ) → digit_value c < 16 → is_blank c ≡ false
hex_inks c h = false_from_ne_true (is_blank c) (λ e. ⊎_elim
    (λ space. no_hex c 32 (eqb-true c 32 space) h (omega arith))
    (λ tab. no_hex c 9 (eqb-true c 9 tab) h (omega arith))
    (or_cases (c == 32) (c == 9) e))

half_inks : (half : List ℕ) → AllDigits 16 half → All (λ c. is_blank c ≡ false) half
half_inks [] h = All-nil (λ c. is_blank c ≡ false)
half_inks (c ∷ cs) h = All-cons (λ c. is_blank c ≡ false) c cs (hex_inks c h.0) (half_inks cs h.1)

pub position_inks : (text : List ℕ) (position : ℕ) → Spells text position → All (λ c. is_blank c ≡ false) text
position_inks text position p =
    subst (All (λ c. is_blank c ≡ false)) (sym p.parts)
    (All-append (λ c. is_blank c ≡ false) p.high (47 ∷ p.low) (half_inks p.high p.high_is.hexadecimal)
    (All-cons (λ c. is_blank c ≡ false) 47 p.low refl (half_inks p.low p.low_is.hexadecimal)))

position_some : (text : List ℕ) (position : ℕ) → Spells text position → 0 < length text
position_some text position p = omega (arith, ap length p.parts, length-append p.high (47 ∷ p.low), p.high_is.some)

-- a word without blanks begins with none
begins_word : (word past : List ℕ) → All (λ c. is_blank c ≡ false) word → 0 < length word → BeginsInk (word ++ past)
begins_word [] past inks some = absurd (omega arith)
begins_word (c ∷ cs) past inks some = All-head (λ c. is_blank c ≡ false) c cs inks

-- a word after blanks is the one that is cut there
pub word_past : (bytes lead word past : List ℕ) → bytes ≡ (lead ++ word) ++ past → AreBlank lead → All (λ c. is_blank c ≡ false) word
    → 0 < length word → IsApart past
    → (word ≡ word_of (inked bytes)) × (past ≡ past_word (inked bytes))
word_past bytes lead word past e blank inks some apart =
    let rest = inked_is bytes lead (word ++ past) (e ∙ append_assoc lead word past) blank (begins_word word past inks some) in
    word_is (inked bytes) word past (sym rest.1) inks apart

pub cut_parts : (bytes : List ℕ) → bytes ≡ (blanks_of bytes ++ word_of (inked bytes)) ++ past_word (inked bytes)
cut_parts bytes =
    inked_parts bytes ∙ ap (λ rest. blanks_of bytes ++ rest) (word_parts (inked bytes))
    ∙ sym (append_assoc (blanks_of bytes) (word_of (inked bytes)) (past_word (inked bytes)))

-- numbers

pub record IsNumber (word : List ℕ) (n : ℕ) : Type 0 where
  pub digits : All (λ c. is_ascii_digit c ≡ true) word
  pub some : 0 < length word
  pub value : n ≡ digits_value 10 word
  pub in_range : (0 < n) × (n < 2 ^ 32)

pub has_number : (line : List ℕ) (n : ℕ) → IsNumber (word_of (inked line)) n → HasNumber line n (past_word (inked line))
has_number line n h = record {
  lead = blanks_of line;
  number = word_of (inked line);
  parts = cut_parts line;
  blank = blanks_blank line;
  digits = h.digits;
  some = h.some;
  value = h.value;
  in_range = h.in_range;
  apart = word_apart (inked line);
}

pub number_is : (line : List ℕ) (n : ℕ) (past : List ℕ) → HasNumber line n past → IsNumber (word_of (inked line)) n
    × (past ≡ past_word (inked line))
number_is line n past h =
    let inks = All-weaker (λ c. is_ascii_digit c ≡ true) (λ c. is_blank c ≡ false) digit_inks h.number h.digits in
    let w = word_past line h.lead h.number past h.parts h.blank inks h.some h.apart in
    (subst (λ word. IsNumber word n) w.0 (record { digits = h.digits; some = h.some; value = h.value; in_range = h.in_range }), w.1)

pub one_number : (line : List ℕ) (m n : ℕ) (a b : List ℕ) → HasNumber line m a → HasNumber line n b → (m ≡ n) × (a ≡ b)
one_number line m n a b p q =
    let x = number_is line m a p in
    let y = number_is line n b q in
    ((x.0).value ∙ sym (y.0).value, x.1 ∙ sym y.1)

-- switch points

gap_some : (bytes : List ℕ) → IsApart bytes → 0 < length (word_of (inked bytes)) → 0 < length (blanks_of bytes)
gap_some [] apart some = absurd (omega arith)
gap_some (c ∷ cs) apart some =
    let more : prefix_len is_blank (c ∷ cs) ≡ 1 + prefix_len is_blank cs = cond-true (is_blank c) (1 + prefix_len is_blank cs) 0 apart in
    omega (arith, length-take-le (prefix_len is_blank (c ∷ cs)) (c ∷ cs) (prefix_len-le-length is_blank (c ∷ cs)), more)

pub has_switch : (bytes : List ℕ) (switch : ℕ) → IsApart bytes → Spells (word_of (inked bytes)) switch
    → HasSwitch bytes switch (past_word (inked bytes))
has_switch bytes switch apart h = record {
  gap = blanks_of bytes;
  position = word_of (inked bytes);
  parts = cut_parts bytes;
  blank = blanks_blank bytes;
  some = gap_some bytes apart (position_some (word_of (inked bytes)) switch h);
  spelled = h;
  apart = word_apart (inked bytes);
}

pub switch_is : (bytes : List ℕ) (switch : ℕ) (past : List ℕ) → HasSwitch bytes switch past → Spells (word_of (inked bytes)) switch
    × (past ≡ past_word (inked bytes))
switch_is bytes switch past h =
    let w = word_past bytes h.gap h.position past h.parts h.blank (position_inks h.position switch h.spelled)
    (position_some h.position switch h.spelled) h.apart in
    (subst (λ word. Spells word switch) w.0 h.spelled, w.1)

pub one_switch : (bytes : List ℕ) (m n : ℕ) (a b : List ℕ) → HasSwitch bytes m a → HasSwitch bytes n b → (m ≡ n) × (a ≡ b)
one_switch bytes m n a b p q =
    let x = switch_is bytes m a p in
    let y = switch_is bytes n b q in
    (one_position (word_of (inked bytes)) m n x.0 y.0, x.1 ∙ sym y.1)
