-- Names in small letters.
use Rattle.std.proofs.Common.{◌≡◌, ℕ, ◌<◌, List, [], ◌∷◌, get_or, map, refl, arith}
use Rattle.std.specs.Char.{to_ascii_lowercase}
use Rattle.std.proofs.lemmas.Str.Ascii.{lowercase-lowercase}
use Rattle.std.proofs.lemmas.Bool.Decides.{nat_tests}
use Rattle.std.proofs.lemmas.List.Elements.{All-map}
use Rattle.repl_text.specs.Text.{IsText}
use Rattle.repl_cmd.specs.Name.{IsParameterName}

lower_twice : (text : List ℕ) → map to_ascii_lowercase (map to_ascii_lowercase text) ≡ map to_ascii_lowercase text
lower_twice [] = refl
lower_twice (c ∷ text) = rw (lowercase-lowercase c, lower_twice text)

lower_in_text : (c : ℕ) → (0 < c) × (c < 256) → (0 < to_ascii_lowercase c) × (to_ascii_lowercase c < 256)
lower_in_text c h = let a = h.0 in let b = h.1 in (grind (arith, nat_tests), grind (arith, nat_tests))

pub lowered_parameter : (text name : List ℕ) → name ≡ map to_ascii_lowercase text → IsText text → IsParameterName name
lowered_parameter text name lowered is = rw lowered (record {
  text = All-map (λ b. (0 < b) × (b < 256)) to_ascii_lowercase text (λ k d l. lower_in_text (get_or text k d) (is k d l));
  small = lower_twice text;
})
