-- A fault stands at the first field with which no message goes on.
use Rattle.std.proofs.Common.{◌≡◌, ℕ, List, [], ◌∷◌, refl, subst, arith, inl, inr}
use Rattle.repl_message.specs.declared.message.Phase.{Phase}
use Rattle.repl_message.specs.declared.message.Phase.TheVariants as phase
use Rattle.repl_message.proofs.FieldLaws.{IsBytes}
use Rattle.repl_wire.specs.declared.fault.WireFault.{WireFault}
use Rattle.repl_wire.specs.declared.fault.WireFault.TheVariants as fault
use Rattle.repl_wire.specs.declared.taking.Taken.{Taken}
use Rattle.repl_wire.specs.declared.taking.Taken.TheVariants as taken
use Rattle.repl_wire.specs.Judging.{IsJudged, judge, judge_ended}
use Rattle.repl_wire.specs.Places.{IsFault}
use Rattle.repl_wire.proofs.Messages.{is_only}
use Rattle.repl_wire.proofs.MessagePlaces.{AreNone}
use Rattle.repl_wire.proofs.StartupPlaces.{startup_fault}
use Rattle.repl_wire.proofs.FrontPlaces.{front_fault}
use Rattle.repl_wire.proofs.BackPlaces.{back_fault}

-- where the session is over nothing is spelled
ended_fault : (bytes : List ℕ) (f : WireFault) → judge_ended bytes ≡ taken.Wrong f → IsFault phase.Ended bytes f
ended_fault [] f e = absurd cc
ended_fault (kind ∷ bytes) f e =
    let same : fault.Kind 0 ≡ f = cc in
    subst (IsFault phase.Ended (kind ∷ bytes)) same (refl, omega arith, λ b. b.1.1.belongs)

faults : (p : Phase) (bytes : List ℕ) (f : WireFault) → IsBytes bytes → AreNone p bytes → judge p bytes ≡ taken.Wrong f → IsFault p bytes f
faults phase.Startup bytes f fits none e = startup_fault bytes f fits none e
faults phase.Front bytes f fits none e = front_fault bytes f fits none e
faults phase.Back bytes f fits none e = back_fault bytes f fits none e
faults phase.Ended bytes f fits none e = ended_fault bytes f e

-- what is spelled is read, so bytes that are refused begin with no message
refused : (p : Phase) (bytes : List ℕ) (f : WireFault) → judge p bytes ≡ taken.Wrong f → AreNone p bytes
refused p bytes f e m text rest s parts =
    elim (is_only p bytes (taken.Wrong f) e m text rest s parts) [
      | inl whole ↦ cc
      | inr memory ↦ cc
    ]

pub fault_is : (p : Phase) (bytes : List ℕ) (f : WireFault) → IsBytes bytes → judge p bytes ≡ taken.Wrong f → IsFault p bytes f
fault_is p bytes f fits e = faults p bytes f fits (refused p bytes f e) e

-- what is answered is what judging gives
pub is_place : (p : Phase) (bytes : List ℕ) (t : Taken) → IsBytes bytes → IsJudged t (judge p bytes) → (f : WireFault) → t ≡ taken.Wrong f
    → IsFault p bytes f
is_place p bytes t fits judged f e = fault_is p bytes f fits (subst (λ (x : Taken). IsJudged x (judge p bytes)) e judged)
