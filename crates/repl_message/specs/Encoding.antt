-- Words for encoders.
use Rattle.std.specs.Prelude.{◌≡◌, ℕ, ◌-◌, ◌^◌, ◌<◌, min, List, ◌++◌, Result, OnOk, OnErr, FitsSigned}
use Rattle.std.specs.Int.{w16, w32}
use Rattle.repl_message.specs.declared.back.Field.{Field}

-- a length, which stops at the greatest number of 64 bits
abbrev pub capped : ℕ → ℕ
capped n = min n (2 ^ 64 - 1)

-- something was added at the end
pub record Extends (old new : List ℕ) : Type 0 where
  pub more : List ℕ
  pub parts : new ≡ old ++ more

-- A step of an encoder added these bytes. Where it failed, some bytes may be added.
pub record Appends {T E : Type 0} (result : Result T E) (old new bytes : List ℕ) : Type 0 where
  pub ok : OnOk result (new ≡ old ++ bytes)
  pub err : OnErr result (Extends old new)

-- the numbers of a column have their types
pub record FitsNumbers (f : Field) : Type 0 where
  pub table : f.table < 2 ^ 32
  pub attribute : FitsSigned w16 f.attribute
  pub type_oid : f.type_oid < 2 ^ 32
  pub size : FitsSigned w16 f.size
  pub modifier : FitsSigned w32 f.modifier
  pub format : f.format < 2 ^ 16
