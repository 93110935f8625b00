-- What a link in memory that never fails tells.
use Rattle.std.specs.Prelude.{◌≡◌, ℕ, ◌<◌, ◌↔◌, min, List, [], Some, length, take, drop}
use Rattle.repl_effects.specs.Told.{Told, IfTold}
use Rattle.repl_io.specs.declared.source.Got.{Got}
use Rattle.repl_io.specs.declared.source.Got.TheVariants as got
use Rattle.repl_io.specs.Source.{SourceState}
use Rattle.repl_io.specs.Sink.{SinkState}
use Rattle.repl_io.specs.declared.steady.SteadyLink.{SteadyLink}

-- its input is given up to what is taken, and it is never faulty or quiet
abbrev pub source_of : SteadyLink → SourceState
source_of link = record {
  given = Some (take link.taken link.input.items);
  left = Some (drop link.taken link.input.items);
  faults = 0;
  quiets = 0;
  ends = link.ends;
}

abbrev pub sink_of : SteadyLink → SinkState
sink_of link = record { written = Some link.written.items; faults = 0; wants = link.wants }

-- a read into a room of this length gives as many of these bytes as fit, and the end exactly where there are none
pub record GivesAllOf (room : ℕ) (left : List ℕ) (answer : Got) : Type 0 where
  pub some : 0 < length left → answer ≡ got.Bytes (min room (length left))
  pub ended : (answer ≡ got.End) ↔ (left ≡ [])

-- the same of the bytes that are left before the read
abbrev pub GivesAll : ℕ → Told → Got → Type 0
GivesAll room left answer = IfTold left (λ bytes. GivesAllOf room bytes answer)

-- a read leaves the writing side as it was
abbrev pub KeepsSink : SteadyLink → SteadyLink → Type 0
KeepsSink old new = sink_of new ≡ sink_of old

-- a write leaves the reading side as it was
abbrev pub KeepsSource : SteadyLink → SteadyLink → Type 0
KeepsSource old new = source_of new ≡ source_of old

-- a link that gives these bytes, none of them given and nothing written so far
pub record IsFresh (input : List ℕ) (link : SteadyLink) : Type 0 where
  pub source : source_of link ≡ record { given = Some []; left = Some input; faults = 0; quiets = 0; ends = 0 }
  pub sink : sink_of link ≡ record { written = Some []; faults = 0; wants = 0 }
