-- Faults of a token that is not what is wanted.
use Rattle.std.specs.Prelude.{◌≡◌, ℕ, ◌⊎◌, Bool, true, false, List, codes}
use Rattle.repl_cmd.specs.declared.fault.CmdFault.{CmdFault}
use Rattle.repl_cmd.specs.declared.fault.CmdFault.TheVariants as fault
use Rattle.repl_cmd.specs.declared.fault.Unsupported.TheVariants as unsupported
use Rattle.repl_cmd.specs.declared.state.State.{State}
use Rattle.repl_cmd.specs.declared.state.State.TheVariants as state
use Rattle.repl_cmd.specs.Token.{Lexeme}
use Rattle.repl_cmd.specs.Command.{IsKeyword, IsNaming, IsJudged, IsSlot, IsNumber, IsPosition}

-- the fault is this one where the token is of a kind that is judged, and of the syntax where it is not
abbrev pub IsJudgement : Type 0 → CmdFault → Lexeme → CmdFault → Type 0
IsJudgement judged own t f = (judged × (f ≡ own)) ⊎ ((¬ judged) × (f ≡ fault.Syntax t.place))

-- no slot's name, by this fault
pub record IsNoSlot (t : Lexeme) (f : CmdFault) : Type 0 where
  pub none : (name : List ℕ) → ¬ IsSlot name t
  pub fault : IsJudgement (IsNaming t) (fault.BadSlotName t.place) t f

-- no number, by this fault
pub record IsNoNumber (least : ℕ) (t : Lexeme) (f : CmdFault) : Type 0 where
  pub none : (n : ℕ) → ¬ IsNumber least n t
  pub fault : IsJudgement (IsJudged t) (fault.BadNumber t.place) t f

-- no position, by this fault
pub record IsNoPosition (t : Lexeme) (f : CmdFault) : Type 0 where
  pub none : (at : ℕ) → ¬ IsPosition at t
  pub fault : IsJudgement (IsJudged t) (fault.BadLsn t.place) t f

-- no position: where `LOGICAL` stands, that is left out
pub record IsLogicalOrNone (t : Lexeme) (f : CmdFault) : Type 0 where
  pub none : (at : ℕ) → ¬ IsPosition at t
  pub fault : (IsKeyword (codes "logical") t × (f ≡ fault.Unsupported unsupported.Logical))
      ⊎ ((¬ IsKeyword (codes "logical") t) × IsNoPosition t f)

-- no `PHYSICAL`: where `LOGICAL` stands, that is left out
pub record IsNotPhysical (t : Lexeme) (f : CmdFault) : Type 0 where
  pub none : ¬ IsKeyword (codes "physical") t
  pub fault : (IsKeyword (codes "logical") t × (f ≡ fault.Unsupported unsupported.Logical))
      ⊎ ((¬ IsKeyword (codes "logical") t) × (f ≡ fault.Syntax t.place))

-- the fault of this first word that begins no command
abbrev pub IsLeftOut : Lexeme → CmdFault → Type 0
IsLeftOut t f =
    (IsKeyword (codes "base_backup") t × (f ≡ fault.Unsupported unsupported.BaseBackup))
    ⊎ (IsKeyword (codes "upload_manifest") t × (f ≡ fault.Unsupported unsupported.UploadManifest))
    ⊎ (IsKeyword (codes "alter_replication_slot") t × (f ≡ fault.Unsupported unsupported.AlterSlot))
    ⊎ ((f ≡ fault.Syntax t.place) × (¬ IsKeyword (codes "base_backup") t) × (¬ IsKeyword (codes "upload_manifest") t)
    × (¬ IsKeyword (codes "alter_replication_slot") t))

-- a semicolon is the last token
abbrev pub is_ended : State → Bool
is_ended (state.Ended c) = true
is_ended _ = false
