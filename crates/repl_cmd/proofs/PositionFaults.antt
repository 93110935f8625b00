-- The faults of a token where a position is wanted.
use Rattle.std.proofs.Common.{◌≡◌, ◌≢◌, ℕ, ◌↔◌, inl, inr, Bool, true, false, IsTrue, List, Option, codes, refl, subst, sym, ◌∙◌}
use Rattle.std.proofs.lemmas.Bool.{false≢true}
use Rattle.repl_cmd.specs.declared.fault.CmdFault.{CmdFault}
use Rattle.repl_cmd.specs.declared.fault.CmdFault.TheVariants as fault
use Rattle.repl_cmd.specs.declared.fault.Unsupported.TheVariants as unsupported
use Rattle.repl_cmd.specs.declared.state.State.{State}
use Rattle.repl_cmd.specs.declared.state.State.TheVariants as state
use Rattle.repl_cmd.specs.declared.token.Kind.TheVariants as kind
use Rattle.repl_cmd.specs.Token.{Lexeme}
use Rattle.repl_cmd.specs.Command.{IsKeyword, IsJudged}
use Rattle.repl_cmd.specs.Walk.{IsStuck, IsStop, IsOwnFault, wants_physical, wants_slot, wants_position, wants_number, is_start, wants_names}
use Rattle.repl_cmd.specs.Wanted.{IsNoPosition, IsLogicalOrNone}

-- a position is wanted in the state, and none of a slot's name, a number, a list and a first word
pub record WantsOnlyPosition (s : State) : Type 0 where
  pub position : wants_position s ≡ true
  pub start : is_start s ≡ false
  pub slot : wants_slot s ≡ false
  pub number : wants_number s ≡ false
  pub names : wants_names s ≡ false

no_own : (s : State) (t : Lexeme) (f : CmdFault) → WantsOnlyPosition s → ¬ IsJudged t
    → ¬ ((wants_physical s ≡ true) × IsKeyword (codes "logical") t) → ¬ IsOwnFault s t f
no_own s t (fault.Syntax place) w judged logical = λ h. h
no_own s t (fault.Unsupported unsupported.Logical) w judged logical = logical
no_own s t (fault.Unsupported unsupported.BaseBackup) w judged logical = λ h. false≢true (sym w.start ∙ h.0)
no_own s t (fault.Unsupported unsupported.UploadManifest) w judged logical = λ h. false≢true (sym w.start ∙ h.0)
no_own s t (fault.Unsupported unsupported.AlterSlot) w judged logical = λ h. false≢true (sym w.start ∙ h.0)
no_own s t (fault.BadSlotName place) w judged logical = λ h. false≢true (sym w.slot ∙ h.1)
no_own s t (fault.BadLsn place) w judged logical = λ h. judged h.2
no_own s t (fault.BadNumber place) w judged logical = λ h. judged h.2
no_own s t (fault.BadNames found) w judged logical = λ h. false≢true (sym w.names ∙ h.0)
no_own s t fault.Memory w judged logical = λ h. h

pub position_stop : (s : State) (t : Lexeme) (f : CmdFault) → WantsOnlyPosition s
    → ¬ ((wants_physical s ≡ true) × IsKeyword (codes "logical") t) → IsNoPosition t f → IsStuck s t → IsStop s t f
position_stop s t f w logical none stuck = elim none.fault [
  | inl h ↦ subst (IsStop s t) (sym h.1) (record { stuck = stuck; cause = (refl, w.position, h.0, logical) })
  | inr h ↦ subst (IsStop s t) (sym h.1) (record { stuck = stuck; cause = (refl, λ own. no_own s t own.0 w h.0 logical own.1) })
]

logical_stop : (s : State) (t : Lexeme) (f : CmdFault) → WantsOnlyPosition s → wants_physical s ≡ true → IsLogicalOrNone t f → IsStuck s t
    → IsStop s t f
logical_stop s t f w physical none stuck = elim none.fault [
  | inl h ↦ subst (IsStop s t) (sym h.1) (record { stuck = stuck; cause = (physical, h.0) })
  | inr h ↦ position_stop s t f w (λ logical. h.0 logical.1) h.1 stuck
]

pub stream_stop : (t : Lexeme) (f : CmdFault) → t.kind ≢ kind.Semicolon → ¬ IsKeyword (codes "slot") t → ¬ IsKeyword (codes "physical") t
    → IsLogicalOrNone t f → IsStop state.Stream t f
stream_stop t f going slot physical none =
    logical_stop state.Stream t f (record { position = refl; start = refl; slot = refl; number = refl; names = refl }) refl none
    (λ next step. elim step [
      | inl move ↦ elim move [ inl h ↦ slot h.0 | inr other ↦ elim other [ inl h ↦ physical h.0 | inr h ↦ none.none h.0 h.1 ] ]
      | inr close ↦ going close.0
    ])

pub named_stop : (name : List ℕ) (t : Lexeme) (f : CmdFault) → t.kind ≢ kind.Semicolon → ¬ IsKeyword (codes "physical") t
    → IsLogicalOrNone t f → IsStop (state.StreamNamed name) t f
named_stop name t f going physical none =
    logical_stop (state.StreamNamed name) t f (record { position = refl; start = refl; slot = refl; number = refl; names = refl }) refl none
    (λ next step. elim step [
      | inl move ↦ elim move [ inl h ↦ physical h.0 | inr h ↦ none.none h.0 h.1 ]
      | inr close ↦ going close.0
    ])

pub physical_stop : (slot : Option (List ℕ)) (t : Lexeme) (f : CmdFault) → t.kind ≢ kind.Semicolon → IsNoPosition t f
    → IsStop (state.StreamPhysical slot) t f
physical_stop slot t f going none =
    position_stop (state.StreamPhysical slot) t f (record { position = refl; start = refl; slot = refl; number = refl; names = refl })
    (λ h. false≢true h.0) none
    (λ next step. elim step [ inl h ↦ none.none h.0 h.1 | inr close ↦ going close.0 ])

-- a test that fails
pub failed : {P : Type 0} (b : Bool) → (IsTrue b ↔ P) → b ≡ false → ¬ P
failed b test e = λ h. false≢true (sym e ∙ test.1 h)
