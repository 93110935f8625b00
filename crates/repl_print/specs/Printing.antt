-- What the parts of `frames` do: the lines of the messages that a reader holds are made and written.
use Rattle.std.specs.Prelude.{◌≡◌, ℕ, ◌+◌, ◌-◌, ◌⊎◌, List, length}
use Rattle.repl_effects.specs.Counts.{Rose}
use Rattle.repl_message.specs.declared.message.Message.{Message}
use Rattle.repl_message.specs.Encoding.{capped}
use Rattle.repl_wire.specs.declared.fault.WireFault.{WireFault}
use Rattle.repl_wire.specs.declared.taking.Taken.TheVariants as taken
use Rattle.repl_wire.specs.Judging.{judge}
use Rattle.repl_wire.specs.Reader.{Reading, Waits, AreRead, at_place}
use Rattle.repl_print.specs.declared.framing.Drained.{Drained}
use Rattle.repl_print.specs.declared.framing.Drained.TheVariants as drained
use Rattle.repl_filter.specs.declared.conversion.Converted.{Converted}
use Rattle.repl_filter.specs.declared.conversion.Converted.TheVariants as converted
use Rattle.repl_wire.specs.Places.{place_of}
use Rattle.repl_print.specs.Frames.{lines}
use Rattle.repl_io.specs.Sink.{SinkState}
use Rattle.repl_filter.specs.Outcome.{Wrote, WroteFront, WroteNothing}

-- a reader gave these messages, and this happened to their lines
pub record GivesLines (old new : Reading) (How : List ℕ → Type 0) : Type 0 where
  pub messages : List Message
  pub read : AreRead old.phase old.rest messages new.phase new.rest
  pub place : new.place ≡ capped (old.place + (length old.rest - length new.rest))
  pub wrote : How (lines old.place messages)

-- what is left in the reader is refused there
abbrev pub IsFrameFaultAt : Reading → ℕ → Type 0
IsFrameFaultAt r place = (found : WireFault) × (judge r.phase r.rest ≡ taken.Wrong found) × (place ≡ place_of (at_place r.place found))

-- how the reader is emptied; where memory runs out nothing is said
abbrev pub Drains : Drained → Reading → Reading → List ℕ → Type 0
Drains drained.Waits old new text = Waits new × GivesLines old new (λ made. text ≡ made)
Drains (drained.Refused place) old new text = IsFrameFaultAt new place × GivesLines old new (λ made. text ≡ made)
Drains drained.Memory old new text = Unit {0}

-- how the printing ends at a piece
abbrev pub PieceEnds : Converted → Reading → Reading → SinkState → SinkState → Type 0
PieceEnds (converted.Refused place) old new w w' = IsFrameFaultAt new place × GivesLines old new (λ made. Wrote made w w')
PieceEnds converted.WriteFault old new w w' = Rose w.faults w'.faults × GivesLines old new (λ made. WroteFront made w w')
PieceEnds converted.Memory old new w w' = WroteNothing w w' ⊎ GivesLines old new (λ made. WroteFront made w w')
PieceEnds converted.Done old new w w' = ⊥
PieceEnds converted.ReadFault old new w w' = ⊥
PieceEnds converted.TurnsSpent old new w w' = ⊥
