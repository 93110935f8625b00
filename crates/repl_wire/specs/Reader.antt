-- A reader that is fed a stream in pieces. What it has been fed and has not given yet says all that it answers:
-- how the stream was cut does not matter.
use Rattle.std.specs.Prelude.{◌≡◌, ℕ, ◌+◌, ◌-◌, List, [], ◌∷◌, ◌++◌, length, drop}
use Rattle.repl_message.specs.declared.message.Phase.{Phase}
use Rattle.repl_message.specs.declared.message.Message.{Message}
use Rattle.repl_message.specs.declared.message.Side.{Side}
use Rattle.repl_message.specs.declared.message.Side.TheVariants as side
use Rattle.repl_message.specs.declared.message.Phase.TheVariants as phase
use Rattle.repl_message.specs.Message.{Belongs, after, spelling}
use Rattle.repl_message.specs.Encoding.{capped}
use Rattle.repl_wire.specs.declared.fault.WireFault.{WireFault}
use Rattle.repl_wire.specs.declared.fault.WireFault.TheVariants as fault
use Rattle.repl_wire.specs.declared.taking.Taken.TheVariants as taken
use Rattle.repl_wire.specs.declared.reader.Step.{Step}
use Rattle.repl_wire.specs.declared.reader.Step.TheVariants as step
use Rattle.repl_wire.specs.Judging.{judge}

-- What is read next, how many bytes were given, which stops at 2^64 - 1, and the bytes that were fed and are not
-- given yet.
pub record Reading : Type 0 where
  pub phase : Phase
  pub place : ℕ
  pub rest : List ℕ

-- what the first side to speak sends first
abbrev pub first_phase : Side → Phase
first_phase side.Front = phase.Startup
first_phase side.Back = phase.Back

-- nothing is whole, and nothing is refused
abbrev pub Waits : Reading → Type 0
Waits r = judge r.phase r.rest ≡ taken.Short

-- more bytes at the end
abbrev pub fed : Reading → List ℕ → Reading
fed r piece = record { phase = r.phase; place = r.place; rest = r.rest ++ piece }

-- a message that took so many bytes was given
abbrev pub given : Reading → Message → ℕ → Reading
given r m used = record { phase = after r.phase m; place = capped (r.place + used); rest = drop used r.rest }

-- a fault's place, counted from the first byte that was fed
abbrev pub at_place : ℕ → WireFault → WireFault
at_place place (fault.Kind at) = fault.Kind (capped (place + at))
at_place place (fault.Length at said) = fault.Length (capped (place + at)) said
at_place place (fault.Code at said) = fault.Code (capped (place + at)) said
at_place place (fault.Body at) = fault.Body (capped (place + at))

-- What a reader answers, and what it is then. A message takes exactly its frame. A refusal is answered again, and
-- where memory runs out the message is still there.
abbrev pub Answers : Reading → Step → Reading → Type 0
Answers old (step.Message m) new = (used : ℕ) × (judge old.phase old.rest ≡ taken.Whole m used) × (new ≡ given old m used)
Answers old step.NeedMore new = Waits old × (new ≡ old)
Answers old (step.Refused f) new = (found : WireFault) × (judge old.phase old.rest ≡ taken.Wrong found) × (f ≡ at_place old.place found)
    × (new ≡ old)
Answers old step.Memory new = new ≡ old

-- ---- streams

-- the bytes are these messages, one after another, and what is left, which is read in the last phase
abbrev pub AreRead : Phase → List ℕ → List Message → Phase → List ℕ → Type 0
AreRead p bytes [] last rest = (last ≡ p) × (rest ≡ bytes)
AreRead p bytes (m ∷ ms) last rest = Belongs p m
    × ((past : List ℕ) × (bytes ≡ spelling m ++ past) × AreRead (after p m) past ms last rest)

-- the bytes are these messages of the side, one after another, and nothing is after them
abbrev pub AreAll : Side → List ℕ → List Message → Type 0
AreAll side bytes messages = (last : Phase) × AreRead (first_phase side) bytes messages last []

-- A reader that was fed these bytes has given these messages, one after another, and is now so. This is what a loop
-- over a reader keeps.
pub record HasGiven (old : Reading) (bytes : List ℕ) (messages : List Message) (new : Reading) : Type 0 where
  pub read : AreRead old.phase (old.rest ++ bytes) messages new.phase new.rest
  pub place : new.place ≡ capped (old.place + (length old.rest + length bytes - length new.rest))

-- what happens to a reader: it is fed a piece where it waits, and it gives a message
pub data Event : Type 0 where
  Fed : List ℕ → Event
  Given : Message → Event

abbrev pub Runs : Reading → List Event → Reading → Type 0
Runs r [] last = last ≡ r
Runs r (Fed piece ∷ events) last = Waits r × Runs (fed r piece) events last
Runs r (Given m ∷ events) last = (used : ℕ) × (judge r.phase r.rest ≡ taken.Whole m used) × Runs (given r m used) events last

-- all that was fed
abbrev pub bytes_fed : List Event → List ℕ
bytes_fed [] = []
bytes_fed (Fed piece ∷ events) = piece ++ bytes_fed events
bytes_fed (Given m ∷ events) = bytes_fed events

abbrev pub messages_given : List Event → List Message
messages_given [] = []
messages_given (Fed piece ∷ events) = messages_given events
messages_given (Given m ∷ events) = m ∷ messages_given events

-- a reader stops where it refuses, or where it waits and all was fed
abbrev pub Stops : Reading → List ℕ → Step → Type 0
Stops r unfed (step.Message m) = ⊥
Stops r unfed step.NeedMore = Waits r × (unfed ≡ [])
Stops r unfed (step.Refused f) = (found : WireFault) × (judge r.phase r.rest ≡ taken.Wrong found) × (f ≡ at_place r.place found)
Stops r unfed step.Memory = ⊥

-- a reader that is fed this stream in some pieces gives these messages, and then stops with this answer
pub record ReadsStream (r : Reading) (stream : List ℕ) (messages : List Message) (answer : Step) : Type 0 where
  pub events : List Event
  pub last : Reading
  pub unfed : List ℕ
  pub runs : Runs r events last
  pub parts : stream ≡ bytes_fed events ++ unfed
  pub given : messages ≡ messages_given events
  pub stops : Stops last unfed answer
