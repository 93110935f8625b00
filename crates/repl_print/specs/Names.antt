-- What `names` prints: the spelling of a standby list.
use Rattle.std.specs.Prelude.{◌≡◌, ℕ, ◌⊎◌, List, [], ◌∷◌, ◌++◌, length}
use Rattle.repl_effects.specs.Counts.{Rose, RoseExactly}
use Rattle.repl_io.specs.Sink.{SinkState}
use Rattle.repl_names.specs.declared.fault.NamesFault.{NamesFault}
use Rattle.repl_names.specs.declared.fault.NamesFault.TheVariants as fault
use Rattle.repl_names.specs.StandbyList.{Listing, list_spelling}
use Rattle.repl_names.specs.Grammar.{SaysList, IsListFault}
use Rattle.repl_filter.specs.declared.conversion.Converted.{Converted}
use Rattle.repl_filter.specs.declared.conversion.Converted.TheVariants as converted
use Rattle.repl_filter.specs.Converting.{is_write_fault}
use Rattle.repl_filter.specs.Outcome.{Wrote, WroteFront, WroteNothing}

-- the place of a fault in the text, which is its length where the list is too long
abbrev pub IsPlace : List ℕ → NamesFault → ℕ → Type 0
IsPlace text (fault.Syntax at) place = place ≡ at
IsPlace text (fault.OpenQuote at) place = place ≡ at
IsPlace text (fault.Zero at) place = place ≡ at
IsPlace text (fault.TooLarge at) place = place ≡ at
IsPlace text (fault.TooLong have) place = place ≡ length text
IsPlace text fault.Memory place = ⊥

-- the line of a list
abbrev pub names_line : Listing → List ℕ
names_line list = list_spelling list ++ 10 ∷ []

-- the text says a list, and this is how its line was written
abbrev pub OfList : List ℕ → (List ℕ → Type 0) → Type 0
OfList text How = (list : Listing) × SaysList text list × How (names_line list)

-- the text says no list, and its fault is there
abbrev pub IsNoList : List ℕ → ℕ → Type 0
IsNoList text place = (f : NamesFault) × IsListFault text f × IsPlace text f place

-- How the printing ends. Where memory runs out before the writing, nothing is written.
abbrev pub NamesEnd : List ℕ → Converted → SinkState → SinkState → Type 0
NamesEnd text converted.Done w w' = OfList text (λ line. Wrote line w w')
NamesEnd text (converted.Refused place) w w' = IsNoList text place × WroteNothing w w'
NamesEnd text converted.WriteFault w w' = Rose w.faults w'.faults × OfList text (λ bytes. WroteFront bytes w w')
NamesEnd text converted.Memory w w' = WroteNothing w w' ⊎ (Rose w.wants w'.wants × OfList text (λ bytes. WroteFront bytes w w'))
NamesEnd text converted.ReadFault w w' = ⊥
NamesEnd text converted.TurnsSpent w w' = ⊥

-- What `names` does over this text. A fault is told exactly where the sink counted one. Unless it did, or memory runs out, a
-- list is printed, and any other text is refused.
pub record Named (text : List ℕ) (end : Converted) (w w' : SinkState) : Type 0 where
  pub ends : NamesEnd text end w w'
  pub fault : RoseExactly (is_write_fault end) w.faults w'.faults
  pub complete : (list : Listing) → SaysList text list → ¬ Rose w.faults w'.faults
      → (end ≡ converted.Done) ⊎ (end ≡ converted.Memory)
  pub refuses : ¬ ((list : Listing) × SaysList text list)
      → ((place : ℕ) × IsNoList text place × (end ≡ converted.Refused place)) ⊎ (end ≡ converted.Memory)
