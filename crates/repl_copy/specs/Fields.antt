-- Words on parts of a payload.
use Rattle.std.specs.Prelude.{◌≡◌, ℕ, List, ◌++◌}
use Rattle.repl_copy.specs.declared.fault.CopyFault.{CopyFault}
use Rattle.repl_copy.specs.declared.fault.CopyFault.TheVariants as fault
use Rattle.repl_copy.specs.Payload.{IsFlagged}

-- the payload ends with a byte that is no flag, as the fault says
abbrev pub IsFlagFault : List ℕ → CopyFault → Type 0
IsFlagFault payload (fault.Flag said) = IsFlagged said payload
IsFlagFault payload fault.Empty = ⊥
IsFlagFault payload (fault.Kind kind) = ⊥
IsFlagFault payload (fault.Length have) = ⊥

-- something was added at the end
pub record Extends (old new : List ℕ) : Type 0 where
  pub more : List ℕ
  pub parts : new ≡ old ++ more
