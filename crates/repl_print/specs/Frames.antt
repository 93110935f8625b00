-- What `frames` prints: a line for each message of its input.
use Rattle.std.specs.Prelude.{◌≡◌, ◌≢◌, ℕ, ◌+◌, ◌-◌, ◌^◌, ◌≤◌, ◌⊎◌, List, [], ◌∷◌, ◌++◌, length, Some, codes}
use Rattle.std.specs.Fmt.{decimal}
use Rattle.repl_effects.specs.Counts.{Rose, RoseBy}
use Rattle.repl_effects.specs.Told.{Lost}
use Rattle.repl_message.specs.declared.message.Message.{Message}
use Rattle.repl_message.specs.declared.message.Message.TheVariants as message
use Rattle.repl_message.specs.declared.message.Phase.{Phase}
use Rattle.repl_message.specs.declared.message.Side.{Side}
use Rattle.repl_message.specs.Message.{front_kind, back_kind, length_field, spelling}
use Rattle.repl_message.specs.Encoding.{capped}
use Rattle.repl_io.specs.Source.{SourceState}
use Rattle.repl_io.specs.Sink.{SinkState}
use Rattle.repl_wire.specs.declared.fault.WireFault.{WireFault}
use Rattle.repl_wire.specs.declared.taking.Taken.TheVariants as taken
use Rattle.repl_wire.specs.Judging.{judge}
use Rattle.repl_wire.specs.Places.{place_of}
use Rattle.repl_wire.specs.Reader.{AreRead, AreAll, first_phase, at_place}
use Rattle.repl_filter.specs.declared.conversion.Converted.{Converted}
use Rattle.repl_filter.specs.declared.conversion.Converted.TheVariants as converted
use Rattle.repl_filter.specs.Converting.{TellsFaults}
use Rattle.repl_filter.specs.Outcome.{IsReadOut, Wrote, WroteFront, WroteSome}

-- the type byte; a startup packet has none
abbrev pub kind_text : Message → List ℕ
kind_text (message.Startup m) = codes "-"
kind_text (message.Front m) = front_kind m ∷ []
kind_text (message.Back m) = back_kind m ∷ []

-- the place of its first byte, its type byte, and the value of its length field
abbrev pub line : ℕ → Message → List ℕ
line place m = decimal place ++ codes " " ++ kind_text m ++ codes " " ++ decimal (length_field m) ++ 10 ∷ []

-- these messages, one after another, the first of them at this place; a place stops at 2^64 - 1
abbrev pub lines : ℕ → List Message → List ℕ
lines place [] = []
lines place (m ∷ ms) = line place m ++ lines (capped (place + length (spelling m))) ms

-- what is left is nothing, or the beginning of a message, so no message is whole in it
abbrev pub IsBegun : Phase → List ℕ → Type 0
IsBegun last rest = judge last rest ≡ taken.Short

-- What is left after the messages is refused there. Or it is the beginning of a message and the input ends in it,
-- and then the place is that of its first byte.
abbrev pub IsWrongAt : Phase → List ℕ → ℕ → ℕ → SourceState → Type 0
IsWrongAt last rest past place now =
    ((found : WireFault) × (judge last rest ≡ taken.Wrong found) × (place ≡ place_of (at_place past found)))
    ⊎ (IsReadOut now × IsBegun last rest × (rest ≢ []) × (place ≡ past))

-- How the printing of these lines ends, where so many bytes were read, and what is left of them is after the last
-- message, whose end is this place. A fault is told only where it came, and want of time where the reads that gave
-- bytes and those that gave none are 2^62 at least; then each message that was read whole has its line.
abbrev pub FramesEnd : Converted → ℕ → Phase → List ℕ → ℕ → List ℕ → SourceState → SourceState → SinkState → SinkState → Type 0
FramesEnd converted.Done count last rest past printed r r' w w' = IsReadOut r' × (rest ≡ []) × Wrote printed w w'
FramesEnd (converted.Refused place) count last rest past printed r r' w w' = IsWrongAt last rest past place r' × Wrote printed w w'
FramesEnd converted.ReadFault count last rest past printed r r' w w' = Rose r.faults r'.faults × IsBegun last rest × Wrote printed w w'
FramesEnd converted.TurnsSpent count last rest past printed r r' w w' =
    ((quiet : ℕ) × RoseBy quiet r.quiets r'.quiets × (2 ^ 62 ≤ count + quiet)) × IsBegun last rest × Wrote printed w w'
FramesEnd converted.WriteFault count last rest past printed r r' w w' = Rose w.faults w'.faults × WroteFront printed w w'
FramesEnd converted.Memory count last rest past printed r r' w w' = WroteSome printed w w'

-- An input of this side is read, or some of it: what is read is these messages and what is left. Their lines are printed.
pub record Printed (s : Side) (end : Converted) (r r' : SourceState) (w w' : SinkState) : Type 0 where
  pub bytes : List ℕ
  pub messages : List Message
  pub last : Phase
  pub rest : List ℕ
  pub lost : Lost r.left r'.left bytes
  pub read : AreRead (first_phase s) bytes messages last rest
  pub ends : FramesEnd end (length bytes) last rest (capped (length bytes - length rest)) (lines 0 messages) r r' w w'

-- no object was faulty, and these bytes of the input and the reads that gave none were fewer than 2^62
pub record WentWell (left : List ℕ) (r r' : SourceState) (w w' : SinkState) : Type 0 where
  pub reading : ¬ Rose r.faults r'.faults
  pub writing : ¬ Rose w.faults w'.faults
  pub in_time : ¬ RoseBy (2 ^ 62 - length left) r.quiets r'.quiets

-- What `frames` does over an input of this side. Unless an object is faulty, time is spent or memory runs out, an input that
-- is messages is printed, each of them, and any other is refused.
pub record Framed (s : Side) (end : Converted) (r r' : SourceState) (w w' : SinkState) : Type 0 where
  pub printed : Printed s end r r' w w'
  pub faults : TellsFaults end r r' w w'
  pub complete : (left : List ℕ) (all : List Message) → r.left ≡ Some left → AreAll s left all → WentWell left r r' w w'
      → ((end ≡ converted.Done) × (printed.messages ≡ all)) ⊎ (end ≡ converted.Memory)
  pub refuses : (left : List ℕ) → r.left ≡ Some left → ¬ ((all : List Message) × AreAll s left all) → WentWell left r r' w w'
      → ((place : ℕ) × IsWrongAt printed.last printed.rest (capped (length printed.bytes - length printed.rest)) place r'
      × (end ≡ converted.Refused place)) ⊎ (end ≡ converted.Memory)
