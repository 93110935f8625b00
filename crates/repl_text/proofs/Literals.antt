-- Texts that are written out.
use Rattle.std.proofs.Common.{◌≡◌, ℕ, true, ◌&&◌, nat_lt, ◌<◌, List, [], ◌∷◌}
use Rattle.std.proofs.lemmas.Bool.{and_parts, ltb-true}
use Rattle.std.proofs.lemmas.List.Elements.{All-nil, All-cons}
use Rattle.repl_text.specs.Text.{IsText}
pub use Rattle.repl_text.specs.Text.{is_text_by_test}

pub text_from_test : (bytes : List ℕ) → is_text_by_test bytes ≡ true → IsText bytes
text_from_test [] e = All-nil (λ (c : ℕ). (0 < c) × (c < 256))
text_from_test (b ∷ bs) e =
    let both = and_parts (nat_lt 0 b && nat_lt b 256) (is_text_by_test bs) e in
    let byte = and_parts (nat_lt 0 b) (nat_lt b 256) both.0 in
    let fits : (0 < b) × (b < 256) = (ltb-true 0 b byte.0, ltb-true b 256 byte.1) in
    All-cons (λ (c : ℕ). (0 < c) × (c < 256)) b bs fits (text_from_test bs both.1)
