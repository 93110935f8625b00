-- From what was gathered and judged, and from how the writing ended, to how a conversion ends; and which ends are left, once
-- nothing is faulty.
use Rattle.std.proofs.Common.{◌≡◌, ◌⊎◌, ◌^◌, ℕ, List, Some, None, take, subst, refl, inl, inr}
use Rattle.repl_effects.specs.Counts.{Rose, RoseBy, RoseExactly, Stood}
use Rattle.repl_effects.specs.Told.{Told, IfTold}
use Rattle.repl_io.specs.Source.{SourceState}
use Rattle.repl_io.specs.Sink.{SinkState, Sends}
use Rattle.repl_io.specs.declared.sink.Sent.{Sent}
use Rattle.repl_io.specs.declared.sink.Sent.TheVariants as sent
use Rattle.repl_filter.specs.declared.conversion.Converted.{Converted}
use Rattle.repl_filter.specs.declared.conversion.Converted.TheVariants as converted
use Rattle.repl_filter.specs.Converting.{Answered, Conversion, Ends, HasRead, TellsFaults, ended, is_read_fault}
use Rattle.repl_filter.specs.Outcome.{ReadUpTo, Wrote, WroteFront}

-- what holds of the bytes that were gathered holds of those that are told
pub of_gathered : (limit : ℕ) (P : List ℕ → Type 0) (left : Told) (input : List ℕ) → IfTold left (λ l. input ≡ take limit l) → P input
    → IfTold left (λ l. P (take limit l))
of_gathered limit P None input told holds = tt
of_gathered limit P (Some l) input told holds = subst P told holds

-- what is said of the bytes that are told holds of these
told : (P : List ℕ → Type 0) (before : Told) (bytes : List ℕ) → before ≡ Some bytes → IfTold before P → P bytes
told P before bytes e h = subst (λ (t : Told). IfTold t P) e h

module _ {X : Type 0} (limit : ℕ) (Says : List ℕ → X → Type 0) (text : X → List ℕ) (IsWrong : List ℕ → ℕ → Type 0)
    (r r' : SourceState) (w w' : SinkState) where
  -- ---- from what was written

  -- the input says this, and its text was written
  pub written_ends : (x : X) (s : Sent) → IfTold r.left (λ left. Says (take limit left) x) → Sends s (text x) w w'
      → Ends limit Says text IsWrong (ended s) r r' w w'
  written_ends x sent.All says sends = (x, says, sends.moved)
  written_ends x sent.Failed says sends = (sends.faults, (x, says, sends.moved))
  written_ends x sent.Memory says sends = inr (sends.wants, (x, says, sends.moved))

  -- what was read is what was gathered
  pub written_read : (s : Sent) → ReadUpTo limit r r' → HasRead limit (ended s) r r'
  written_read sent.All lost = lost
  written_read sent.Failed lost = lost
  written_read sent.Memory lost = tt

  pub written_faults : (bytes : List ℕ) (s : Sent) → Stood r.faults r'.faults → Sends s bytes w w' → TellsFaults (ended s) r r' w w'
  written_faults bytes sent.All stood sends = record { reading = stood; writing = sends.faults }
  written_faults bytes sent.Failed stood sends = record { reading = stood; writing = sends.faults }
  written_faults bytes sent.Memory stood sends = record { reading = stood; writing = sends.faults }

  -- ---- which ends are left

  -- an input that is refused nowhere is answered
  complete_of : (bytes : List ℕ) (end : Converted) → Ends limit Says text IsWrong end r r' w w' → r.left ≡ Some bytes
      → ((place : ℕ) → IsWrong (take limit bytes) place → ⊥) → ¬ Rose r.faults r'.faults → ¬ Rose w.faults w'.faults
      → ¬ RoseBy (2 ^ 62) r.quiets r'.quiets → (end ≡ converted.Done) ⊎ (end ≡ converted.Memory)
  complete_of bytes converted.Done ends left fine no_read no_write no_quiet = inl refl
  complete_of bytes converted.Memory ends left fine no_read no_write no_quiet = inr refl
  complete_of bytes converted.WriteFault ends left fine no_read no_write no_quiet = absurd (no_write ends.0)
  complete_of bytes (converted.Refused place) ends left fine no_read no_write no_quiet =
      absurd (fine place (told (λ b. IsWrong (take limit b) place) r.left bytes left ends.0))
  complete_of bytes converted.ReadFault ends left fine no_read no_write no_quiet = absurd (no_read ends.0)
  complete_of bytes converted.TurnsSpent ends left fine no_read no_write no_quiet = absurd (no_quiet ends.0)

  -- an input that is answered says something
  says : (How : List ℕ → Type 0) (bytes : List ℕ) → r.left ≡ Some bytes → Answered limit Says text r How
      → (x : X) × Says (take limit bytes) x
  says How bytes left a = (a.0, told (λ b. Says (take limit b) a.0) r.left bytes left a.1)

  -- and one that says nothing is refused
  refuses_of : (bytes : List ℕ) (end : Converted) → Ends limit Says text IsWrong end r r' w w' → r.left ≡ Some bytes
      → ¬ ((x : X) × Says (take limit bytes) x) → ¬ Rose r.faults r'.faults → ¬ RoseBy (2 ^ 62) r.quiets r'.quiets
      → ((place : ℕ) × IsWrong (take limit bytes) place × (end ≡ converted.Refused place)) ⊎ (end ≡ converted.Memory)
  refuses_of bytes converted.Done ends left none no_read no_quiet = absurd (none (says (λ b. Wrote b w w') bytes left ends))
  refuses_of bytes converted.Memory ends left none no_read no_quiet = inr refl
  refuses_of bytes converted.WriteFault ends left none no_read no_quiet = absurd (none (says (λ b. WroteFront b w w') bytes left ends.1))
  refuses_of bytes (converted.Refused place) ends left none no_read no_quiet =
      inl (place, told (λ b. IsWrong (take limit b) place) r.left bytes left ends.0, refl)
  refuses_of bytes converted.ReadFault ends left none no_read no_quiet = absurd (no_read ends.0)
  refuses_of bytes converted.TurnsSpent ends left none no_read no_quiet = absurd (no_quiet ends.0)

  -- so a conversion is how it ended, what was read and which faults were told
  pub conversion : (end : Converted) → ((bytes : List ℕ) (x : X) (place : ℕ) → Says bytes x → IsWrong bytes place → ⊥)
      → Ends limit Says text IsWrong end r r' w w' → HasRead limit end r r' → TellsFaults end r r' w w'
      → Conversion limit Says text IsWrong end r r' w w'
  conversion end apart ends has_read faults = record {
    ends = ends;
    has_read = has_read;
    faults = faults;
    complete = λ bytes x left is. complete_of bytes end ends left (λ place wrong. apart (take limit bytes) x place is wrong);
    refuses = λ bytes left none. refuses_of bytes end ends left none;
  }
