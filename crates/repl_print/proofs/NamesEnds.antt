-- Which ends `names` has, once the sink is not faulty.
use Rattle.std.proofs.Common.{◌≡◌, ◌⊎◌, ℕ, List, subst, refl, inl, inr}
use Rattle.repl_effects.specs.Counts.{Rose, RoseExactly}
use Rattle.repl_io.specs.Sink.{SinkState}
use Rattle.repl_names.specs.declared.fault.NamesFault.{NamesFault}
use Rattle.repl_names.specs.StandbyList.{Listing}
use Rattle.repl_names.specs.Grammar.{SaysList}
use Rattle.repl_names.proofs.GrammarLists.{refused_unread}
use Rattle.repl_filter.specs.declared.conversion.Converted.{Converted}
use Rattle.repl_filter.specs.declared.conversion.Converted.TheVariants as converted
use Rattle.repl_filter.specs.Converting.{is_write_fault}
use Rattle.repl_print.specs.Names.{IsNoList, IsPlace, Named, NamesEnd}

-- a text that says a list is not refused
list_or_none : (text : List ℕ) (list : Listing) (place : ℕ) → SaysList text list → IsNoList text place → ⊥
list_or_none text list place says none =
    subst (λ (f : NamesFault). IsPlace text f place) (refused_unread text list none.0 says none.1) none.2

complete_of : (text : List ℕ) (end : Converted) (w w' : SinkState) → NamesEnd text end w w' → (list : Listing) → SaysList text list
    → ¬ Rose w.faults w'.faults → (end ≡ converted.Done) ⊎ (end ≡ converted.Memory)
complete_of text converted.Done w w' ends list says fine = inl refl
complete_of text converted.Memory w w' ends list says fine = inr refl
complete_of text converted.WriteFault w w' ends list says fine = absurd (fine ends.0)
complete_of text (converted.Refused place) w w' ends list says fine = absurd (list_or_none text list place says ends.0)
complete_of text converted.ReadFault w w' ends list says fine = absurd ends
complete_of text converted.TurnsSpent w w' ends list says fine = absurd ends

refuses_of : (text : List ℕ) (end : Converted) (w w' : SinkState) → NamesEnd text end w w' → ¬ ((list : Listing) × SaysList text list)
    → ((place : ℕ) × IsNoList text place × (end ≡ converted.Refused place)) ⊎ (end ≡ converted.Memory)
refuses_of text converted.Done w w' ends none = absurd (none (ends.0, ends.1))
refuses_of text converted.Memory w w' ends none = inr refl
refuses_of text converted.WriteFault w w' ends none = absurd (none ((ends.1).0, (ends.1).1))
refuses_of text (converted.Refused place) w w' ends none = inl (place, ends.0, refl)
refuses_of text converted.ReadFault w w' ends none = absurd ends
refuses_of text converted.TurnsSpent w w' ends none = absurd ends

pub named : (text : List ℕ) (end : Converted) (w w' : SinkState) → NamesEnd text end w w'
    → RoseExactly (is_write_fault end) w.faults w'.faults → Named text end w w'
named text end w w' ends fault = record {
  ends = ends;
  fault = fault;
  complete = complete_of text end w w' ends;
  refuses = refuses_of text end w w' ends;
}
