-- Names of run-time parameters.
use Rattle.std.specs.Prelude.{◌≡◌, ℕ, List, map}
use Rattle.std.specs.Char.{to_ascii_lowercase}
use Rattle.repl_text.specs.Text.{IsText}

-- no capital is in it, and no zero byte
pub record IsParameterName (name : List ℕ) : Type 0 where
  pub text : IsText name
  pub small : map to_ascii_lowercase name ≡ name
