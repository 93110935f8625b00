-- The names of the log's files are texts.
use Rattle.std.proofs.Common.{◌≡◌, Result, Ok, Err, IfOk, string_bytes, String, Global, ℕ, zero, suc, ◌<◌, List, get_or, codes, refl, sym, subst, inl, inr, arith}
use Rattle.std.proofs.lemmas.List.Elements.{All-append}
use Rattle.repl_lsn.specs.FileName.{HasDigitsAnd, HasForm}
use Rattle.repl_lsn.specs.Segment.{IsDigit}
use Rattle.repl_text.proofs.Literals.{text_from_test}
use Rattle.repl_text.specs.Text.{IsText}

text_digit : (c : ℕ) → IsDigit c → (0 < c) × (c < 256)
text_digit zero is = absurd (omega (arith, is.0))
text_digit (suc c) is = (omega arith, omega (arith, is.1))

text_of : (count : ℕ) (past name : List ℕ) → IsText past → HasDigitsAnd count past name → IsText name
text_of count past name is has = subst IsText (sym has.parts) (All-append (λ c. (0 < c) × (c < 256)) has.digits past
    (λ k d lt. text_digit (get_or has.digits k d) (has.are k d lt)) is)

pub text_of_form : (name : List ℕ) → HasForm name → IsText name
text_of_form name (inl whole) = text_of 24 (codes "") name (text_from_test (codes "") refl) whole
text_of_form name (inr (inl partial)) = text_of 24 (codes ".partial") name (text_from_test (codes ".partial") refl) partial
text_of_form name (inr (inr history)) = text_of 8 (codes ".history") name (text_from_test (codes ".history") refl) history

-- so is a name that is made of it
pub named_text : {E : Type 0} (result : Result (String Global) E) (name : List ℕ) → HasForm name → IfOk result (λ made. string_bytes made ≡ name)
    → IfOk result (λ made. IsText (string_bytes made))
named_text (Ok made) name form is = subst IsText (sym is) (text_of_form name form)
named_text (Err e) name form is = tt
