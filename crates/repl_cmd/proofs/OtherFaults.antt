-- The faults of a second semicolon, and of a text that is no standby list.
use Rattle.std.proofs.Common.{◌≡◌, ◌≢◌, ◌⊎◌, inl, inr, true, Result, Ok, Err, List, ℕ, refl, subst, sym}
use Rattle.std.proofs.lemmas.Bool.{false≢true}
use Rattle.repl_names.specs.declared.fault.NamesFault.{NamesFault}
use Rattle.repl_names.specs.declared.fault.NamesFault.TheVariants as names_fault
use Rattle.repl_names.specs.StandbyList.{Listing}
use Rattle.repl_names.specs.Grammar as names
use Rattle.repl_cmd.specs.declared.command.Command.{Command}
use Rattle.repl_cmd.specs.declared.fault.CmdFault.{CmdFault}
use Rattle.repl_cmd.specs.declared.fault.CmdFault.TheVariants as fault
use Rattle.repl_cmd.specs.declared.fault.Unsupported.TheVariants as unsupported
use Rattle.repl_cmd.specs.declared.state.State.{State}
use Rattle.repl_cmd.specs.declared.state.State.TheVariants as state
use Rattle.repl_cmd.specs.declared.token.Kind.TheVariants as kind
use Rattle.repl_cmd.specs.Token.{Lexeme}
use Rattle.repl_cmd.specs.Walk.{IsStop, IsOwnFault}
use Rattle.repl_cmd.specs.Wanted.{is_ended}

ended_is : (s : State) → is_ended s ≡ true → (c : Command) × (s ≡ state.Ended c)
ended_is (state.Ended c) e = (c, refl)
ended_is _ e = absurd (false≢true e)

no_ended_fault : (c : Command) (t : Lexeme) (f : CmdFault) → ¬ IsOwnFault (state.Ended c) t f
no_ended_fault c t (fault.Syntax place) = λ h. h
no_ended_fault c t (fault.Unsupported unsupported.Logical) = λ h. false≢true h.0
no_ended_fault c t (fault.Unsupported unsupported.BaseBackup) = λ h. false≢true h.0
no_ended_fault c t (fault.Unsupported unsupported.UploadManifest) = λ h. false≢true h.0
no_ended_fault c t (fault.Unsupported unsupported.AlterSlot) = λ h. false≢true h.0
no_ended_fault c t (fault.BadSlotName place) = λ h. false≢true h.1
no_ended_fault c t (fault.BadLsn place) = λ h. false≢true h.1
no_ended_fault c t (fault.BadNumber place) = λ h. false≢true h.1
no_ended_fault c t (fault.BadNames found) = λ h. false≢true h.0
no_ended_fault c t fault.Memory = λ h. h

pub ended_stop : (s : State) (t : Lexeme) (f : CmdFault) → is_ended s ≡ true → f ≡ fault.Syntax t.place → IsStop s t f
ended_stop s t f ended e =
    let is = ended_is s ended in
    let stop : IsStop (state.Ended is.0) t (fault.Syntax t.place) = record {
      stuck = λ next step. elim step [ inl move ↦ move | inr close ↦ close ];
      cause = (refl, λ own. no_ended_fault is.0 t own.0 own.1);
    } in
    subst (λ (from : State). IsStop from t f) (sym is.1) (subst (IsStop (state.Ended is.0) t) (sym e) stop)

-- the refusal of a list is that of the token, but for want of memory
pub names_stop : (t : Lexeme) (bytes : List ℕ) (r : Result Listing NamesFault) (found : NamesFault) (f : CmdFault) → bytes ≡ t.text
    → t.kind ≡ kind.Text → r ≡ Err found → names.IsListFault bytes found
    → ((list : Listing) → names.SaysList bytes list → (r ≡ Ok list) ⊎ (r ≡ Err names_fault.Memory))
    → ((found ≡ names_fault.Memory) × (f ≡ fault.Memory)) ⊎ ((found ≢ names_fault.Memory) × (f ≡ fault.BadNames found))
    → (f ≡ fault.Memory) ⊎ IsStop state.AlterText t f
names_stop t bytes r found f same text is refused only which = elim which [
  | inl h ↦ inl h.1
  | inr h ↦ inr (subst (IsStop state.AlterText t) (sym h.1) (record {
    stuck = λ next step. elim step [
      | inl move ↦ elim (only move.0 (subst (λ (b : List ℕ). names.SaysList b move.0) (sym same) move.1.1)) [
        | inl e ↦ cc
        | inr e ↦ absurd
            (h.0 cc)
      ]
      | inr close ↦ cc (text, close.0)
    ];
    cause = (refl, text, subst (λ (b : List ℕ). names.IsListFault b found) same refused, h.0);
  }))
]
