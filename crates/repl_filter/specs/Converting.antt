-- The conversion of an input, for which one text is written: `Says` is what it says, `text` is what is written for that,
-- and `IsWrong` is where it is refused.
use Rattle.std.specs.Prelude.{◌≡◌, ℕ, ◌^◌, ◌⊎◌, List, take, Bool, true, false, Some}
use Rattle.repl_effects.specs.Counts.{Rose, RoseBy, RoseExactly}
use Rattle.repl_effects.specs.Told.{IfTold}
use Rattle.repl_io.specs.Source.{SourceState}
use Rattle.repl_io.specs.Sink.{SinkState}
use Rattle.repl_io.specs.declared.sink.Sent.{Sent}
use Rattle.repl_io.specs.declared.sink.Sent.TheVariants as sent
use Rattle.repl_filter.specs.declared.conversion.Converted.{Converted}
use Rattle.repl_filter.specs.declared.conversion.Converted.TheVariants as converted
use Rattle.repl_filter.specs.Outcome.{ReadUpTo, Wrote, WroteFront, WroteNothing}

-- the input, up to this limit, says something, and this is how its text was written
abbrev pub Answered : {X : Type 0} → ℕ → (List ℕ → X → Type 0) → (X → List ℕ) → SourceState → (List ℕ → Type 0) → Type 0
Answered {X} limit Says text r How = (x : X) × IfTold r.left (λ left. Says (take limit left) x) × How (text x)

-- How it ends. Where the input is refused or memory runs out before the writing, nothing is written.
abbrev pub Ends : {X : Type 0} → ℕ → (List ℕ → X → Type 0) → (X → List ℕ) → (List ℕ → ℕ → Type 0)
    → Converted → SourceState → SourceState → SinkState → SinkState → Type 0
Ends limit Says text IsWrong converted.Done r r' w w' = Answered limit Says text r (λ bytes. Wrote bytes w w')
Ends limit Says text IsWrong (converted.Refused place) r r' w w' =
    IfTold r.left (λ left. IsWrong (take limit left) place) × WroteNothing w w'
Ends limit Says text IsWrong converted.ReadFault r r' w w' = Rose r.faults r'.faults × WroteNothing w w'
Ends limit Says text IsWrong converted.WriteFault r r' w w' =
    Rose w.faults w'.faults × Answered limit Says text r (λ bytes. WroteFront bytes w w')
Ends limit Says text IsWrong converted.TurnsSpent r r' w w' = RoseBy (2 ^ 62) r.quiets r'.quiets × WroteNothing w w'
Ends limit Says text IsWrong converted.Memory r r' w w' =
    WroteNothing w w' ⊎ (Rose w.wants w'.wants × Answered limit Says text r (λ bytes. WroteFront bytes w w'))

-- what was read
abbrev pub HasRead : ℕ → Converted → SourceState → SourceState → Type 0
HasRead limit converted.Done r r' = ReadUpTo limit r r'
HasRead limit (converted.Refused place) r r' = ReadUpTo limit r r'
HasRead limit converted.WriteFault r r' = ReadUpTo limit r r'
HasRead limit converted.ReadFault r r' = Unit {0}
HasRead limit converted.TurnsSpent r r' = Unit {0}
HasRead limit converted.Memory r r' = Unit {0}

abbrev pub is_read_fault : Converted → Bool
is_read_fault converted.ReadFault = true
is_read_fault converted.Done = false
is_read_fault (converted.Refused place) = false
is_read_fault converted.WriteFault = false
is_read_fault converted.TurnsSpent = false
is_read_fault converted.Memory = false

abbrev pub is_write_fault : Converted → Bool
is_write_fault converted.WriteFault = true
is_write_fault converted.Done = false
is_write_fault (converted.Refused place) = false
is_write_fault converted.ReadFault = false
is_write_fault converted.TurnsSpent = false
is_write_fault converted.Memory = false

-- how it ends where the writing of the text ended so
abbrev pub ended : Sent → Converted
ended sent.All = converted.Done
ended sent.Failed = converted.WriteFault
ended sent.Memory = converted.Memory

-- a fault is told exactly where an object counted one
pub record TellsFaults (end : Converted) (r r' : SourceState) (w w' : SinkState) : Type 0 where
  pub reading : RoseExactly (is_read_fault end) r.faults r'.faults
  pub writing : RoseExactly (is_write_fault end) w.faults w'.faults

-- What a conversion did, and how it ended. Unless an object is faulty or memory runs out, an input that says something is
-- answered, and any other is refused.
pub record Conversion {X : Type 0} (limit : ℕ) (Says : List ℕ → X → Type 0) (text : X → List ℕ) (IsWrong : List ℕ → ℕ → Type 0)
    (end : Converted) (r r' : SourceState) (w w' : SinkState) : Type 0 where
  pub ends : Ends limit Says text IsWrong end r r' w w'
  pub has_read : HasRead limit end r r'
  pub faults : TellsFaults end r r' w w'
  pub complete : (bytes : List ℕ) (x : X) → r.left ≡ Some bytes → Says (take limit bytes) x → ¬ Rose r.faults r'.faults
      → ¬ Rose w.faults w'.faults → ¬ RoseBy (2 ^ 62) r.quiets r'.quiets → (end ≡ converted.Done) ⊎ (end ≡ converted.Memory)
  pub refuses : (bytes : List ℕ) → r.left ≡ Some bytes → ¬ ((x : X) × Says (take limit bytes) x) → ¬ Rose r.faults r'.faults
      → ¬ RoseBy (2 ^ 62) r.quiets r'.quiets
      → ((place : ℕ) × IsWrong (take limit bytes) place × (end ≡ converted.Refused place)) ⊎ (end ≡ converted.Memory)
