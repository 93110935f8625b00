-- What a scripted link tells, and how it follows its script.
use Rattle.std.specs.Prelude.{◌≡◌, ℕ, ◌+◌, ◌-◌, ◌<◌, ◌≤◌, ◌↔◌, min, List, [], ◌++◌, Some, take, drop, length, Contains}
use Rattle.std.specs.List.{flat_map}
use Rattle.repl_effects.specs.Counts.{RoseOnce}
use Rattle.repl_io.specs.Source.{SourceState}
use Rattle.repl_io.specs.Sink.{SinkState}
use Rattle.repl_io.specs.declared.source.Got.{Got}
use Rattle.repl_io.specs.declared.source.Got.TheVariants as got
use Rattle.repl_io.specs.declared.sink.Put.{Put}
use Rattle.repl_io.specs.declared.sink.Put.TheVariants as put
use Rattle.repl_io.specs.declared.script.LinkStep.{LinkStep}
use Rattle.repl_io.specs.declared.script.LinkStep.TheVariants as step
use Rattle.repl_io.specs.declared.script.ScriptLink.{ScriptLink}
use Rattle.repl_io.specs.Step.{bytes_of, step_at}

-- given are the bytes of the steps that are done, and of the present one what is taken; left are the bytes of the
-- steps from the present one on, but for what is taken
abbrev pub source_of : ScriptLink → SourceState
source_of link = record {
  given = Some (flat_map bytes_of (take link.next link.steps.items) ++ take link.taken (bytes_of (step_at link.steps.items link.next)));
  left = Some (drop link.taken (flat_map bytes_of (drop link.next link.steps.items)));
  faults = link.read_faults;
  quiets = link.quiets;
  ends = link.ends;
}

abbrev pub sink_of : ScriptLink → SinkState
sink_of link = record { written = Some link.written.items; faults = link.write_faults; wants = link.wants }

-- a read leaves the writing side as it was
abbrev pub KeepsSink : ScriptLink → ScriptLink → Type 0
KeepsSink old new = sink_of new ≡ sink_of old

-- a write leaves the reading side as it was
abbrev pub KeepsSource : ScriptLink → ScriptLink → Type 0
KeepsSource old new = source_of new ≡ source_of old

-- a link at its first step, to which nothing is written yet
pub record IsFresh (steps : List LinkStep) (failing : List ℕ) (link : ScriptLink) : Type 0 where
  pub steps_are : link.steps.items ≡ steps
  pub failing_are : link.failing.items ≡ failing
  pub source : source_of link ≡ record { given = Some []; left = Some (flat_map bytes_of steps); faults = 0; quiets = 0; ends = 0 }
  pub sink : sink_of link ≡ record { written = Some []; faults = 0; wants = 0 }
  pub no_read : (link.next ≡ 0) × (link.taken ≡ 0)
  pub no_write : link.writes ≡ 0

-- a read into a room of this length at a step that gives these bytes: as many of those that are left as
-- fit, or a quiet where the step has none; and the next step exactly where none is left then
pub record GivesStep (room : ℕ) (bytes : List ℕ) (old : ScriptLink) (answer : Got) (new : ScriptLink) : Type 0 where
  pub none : length bytes ≡ 0 → answer ≡ got.Quiet
  pub some : 0 < length bytes → answer ≡ got.Bytes (min room (length bytes - old.taken))
  pub stays : room < length bytes - old.taken → (new.next ≡ old.next) × (new.taken ≡ old.taken + room)
  pub moves_on : length bytes - old.taken ≤ room → (new.next ≡ old.next + 1) × (new.taken ≡ 0)

-- what a read into a room of this length answers at a step, and the step after it
abbrev pub AnswersStep : ℕ → LinkStep → ScriptLink → Got → ScriptLink → Type 0
AnswersStep room step.Fail old answer new = (answer ≡ got.Failed) × (new.next ≡ old.next + 1) × (new.taken ≡ 0)
AnswersStep room step.Quiet old answer new = (answer ≡ got.Quiet) × (new.next ≡ old.next + 1) × (new.taken ≡ 0)
AnswersStep room (step.Give bytes) old answer new = GivesStep room bytes.items old answer new

-- past the last step a read answers the end and stays there, and before it the read answers what the step says
pub record FollowsStep (room : ℕ) (old : ScriptLink) (answer : Got) (new : ScriptLink) : Type 0 where
  pub steps_stay : new.steps.items ≡ old.steps.items
  pub at_end : (answer ≡ got.End) ↔ (length old.steps.items ≤ old.next)
  pub end_stays : length old.steps.items ≤ old.next → (new.next ≡ old.next) × (new.taken ≡ old.taken)
  pub at_step : old.next < length old.steps.items → AnswersStep room (step_at old.steps.items old.next) old answer new

-- a write fails exactly where its number is on the list
pub record FollowsList (old : ScriptLink) (answer : Put) (new : ScriptLink) : Type 0 where
  pub list_stays : new.failing.items ≡ old.failing.items
  pub counted : RoseOnce old.writes new.writes
  pub fails : (answer ≡ put.Failed) ↔ Contains old.failing.items new.writes
