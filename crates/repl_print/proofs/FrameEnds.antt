-- Which ends `frames` has, once nothing is faulty: an input that is messages is printed, and any other is refused.
use Rattle.std.proofs.Common.{◌≡◌, ◌≢◌, ◌⊎◌, ℕ, ◌+◌, ◌-◌, ◌^◌, ◌≤◌, List, [], ◌∷◌, ◌++◌, length, Some, None, refl, sym, ap, subst, ◌∙◌, inl, inr, length-append, arith}
use Rattle.std.proofs.lemmas.List.{append-nil}
use Rattle.repl_effects.specs.Counts.{RoseBy, RoseExactly}
use Rattle.repl_effects.specs.Told.{Told, IfTold, Lost}
use Rattle.repl_io.specs.Source.{SourceState}
use Rattle.repl_io.specs.Sink.{SinkState}
use Rattle.repl_message.specs.declared.message.Message.{Message}
use Rattle.repl_message.specs.declared.message.Phase.{Phase}
use Rattle.repl_message.specs.declared.message.Side.{Side}
use Rattle.repl_message.specs.Encoding.{capped}
use Rattle.repl_wire.specs.declared.fault.WireFault.{WireFault}
use Rattle.repl_wire.specs.declared.taking.Taken.TheVariants as taken
use Rattle.repl_wire.specs.Judging.{judge}
use Rattle.repl_wire.specs.Reader.{AreRead, AreAll, first_phase}
use Rattle.repl_wire.proofs.Streams.{read_more, stuck_short, stuck_wrong, refused_some, readings, none_further, all_one}
use Rattle.repl_filter.specs.declared.conversion.Converted.{Converted}
use Rattle.repl_filter.specs.declared.conversion.Converted.TheVariants as converted
use Rattle.repl_filter.specs.Converting.{is_read_fault, is_write_fault}
use Rattle.repl_filter.specs.Outcome.{IsReadOut}
use Rattle.repl_print.specs.Frames.{IsWrongAt, Framed, Printed, WentWell}

-- ---- what was read, and what is left

-- what was read is the front of what was told
told_parts : (before now : Told) (left bytes : List ℕ) → before ≡ Some left → Lost before now bytes
    → (more : List ℕ) × (now ≡ Some more) × (left ≡ bytes ++ more)
told_parts before None left bytes is lost = let none : Some left ≡ None = sym is ∙ lost in absurd cc
told_parts before (Some more) left bytes is lost =
    let one : Some left ≡ Some (bytes ++ more) = sym is ∙ lost in
    let same : left ≡ bytes ++ more = cc in
    (more, refl, same)

-- what is said of the bytes that are told holds of these
told : (P : List ℕ → Type 0) (before : Told) (bytes : List ℕ) → before ≡ Some bytes → IfTold before P → P bytes
told P before bytes e h = subst (λ (t : Told). IfTold t P) e h

-- where nothing is left, all was read
all_read : (r r' : SourceState) (left bytes : List ℕ) → r.left ≡ Some left → Lost r.left r'.left bytes → IsReadOut r' → left ≡ bytes
all_read r r' left bytes is lost out =
    let parts = told_parts r.left r'.left left bytes is lost in
    let none = told (λ b. b ≡ []) r'.left parts.0 parts.1 out in
    parts.2 ∙ ap (λ (m : List ℕ). bytes ++ m) none ∙ append-nil bytes

-- no more was read than there was
read_few : (r r' : SourceState) (left bytes : List ℕ) → r.left ≡ Some left → Lost r.left r'.left bytes → length bytes ≤ length left
read_few r r' left bytes is lost =
    let parts = told_parts r.left r'.left left bytes is lost in
    omega (arith, ap length parts.2, length-append bytes parts.0)

-- time is not spent where the bytes and the quiet reads are few
in_time : (count size quiet before now : ℕ) → count ≤ size → 2 ^ 62 ≤ count + quiet → RoseBy quiet before now
    → RoseBy (2 ^ 62 - size) before now
in_time count size quiet before now few many rose = omega (arith, few, many, rose)

-- ---- messages that are all the bytes

none_in_front : (rest more : List ℕ) → rest ++ more ≡ [] → rest ≡ []
none_in_front [] more e = refl
none_in_front (b ∷ rest) more e = absurd cc

-- all of the bytes are these messages
are_all : (s : Side) (left bytes rest : List ℕ) (messages : List Message) (last : Phase) → left ≡ bytes → rest ≡ []
    → AreRead (first_phase s) bytes messages last rest → AreAll s left messages
are_all s left bytes rest messages last same none read = (
  last,
  subst (λ (b : List ℕ). AreRead (first_phase s) b messages last []) (sym same)
      (subst (λ (b : List ℕ). AreRead (first_phase s) bytes messages last b) none read),
)

-- what is refused is no part of messages
none_refused : (s : Side) (left bytes more rest : List ℕ) (messages all : List Message) (last : Phase) (f : WireFault)
    → left ≡ bytes ++ more → AreRead (first_phase s) bytes messages last rest → judge last rest ≡ taken.Wrong f → AreAll s left all → ⊥
none_refused s left bytes more rest messages all last f parts read wrong are =
    let here = subst (λ (b : List ℕ). AreRead (first_phase s) b messages last (rest ++ more)) (sym parts)
    (read_more (first_phase s) last bytes rest more messages read) in
    elim (readings (first_phase s) last are.0 left (rest ++ more) [] messages all here are.1) [
      | inl a ↦ refused_some last rest f wrong (none_in_front rest more a.left_over)
      | inr e ↦ elim e [
        | inl g ↦ stuck_wrong last rest more f wrong g.message g.past g.belongs g.parts
        | inr g ↦ none_further are.0 all messages g
      ]
    ]

-- and messages do not end in a part of one
none_begun : (s : Side) (left bytes rest : List ℕ) (messages all : List Message) (last : Phase) → left ≡ bytes
    → AreRead (first_phase s) bytes messages last rest → judge last rest ≡ taken.Short → rest ≢ [] → AreAll s left all → ⊥
none_begun s left bytes rest messages all last same read short some are =
    let here = subst (λ (b : List ℕ). AreRead (first_phase s) b messages last rest) (sym same) read in
    elim (readings (first_phase s) last are.0 left rest [] messages all here are.1) [
      | inl a ↦ some a.left_over
      | inr e ↦ elim e [
        | inl g ↦ stuck_short last rest short g.message g.past g.belongs g.parts
        | inr g ↦ none_further are.0 all messages g
      ]
    ]

-- ---- which ends are left

-- time was not spent
not_spent : (s : Side) (r r' : SourceState) (w w' : SinkState) (left : List ℕ) → r.left ≡ Some left → WentWell left r r' w w'
    → Printed s converted.TurnsSpent r r' w w' → ⊥
not_spent s r r' w w' left is well p =
    let spent = p.ends.0 in
    well.in_time (in_time (length p.bytes) (length left) spent.0 r.quiets r'.quiets (read_few r r' left p.bytes is p.lost) spent.2 spent.1)

complete_of : (s : Side) (end : Converted) (r r' : SourceState) (w w' : SinkState) (p : Printed s end r r' w w') (left : List ℕ)
    (all : List Message) → r.left ≡ Some left → AreAll s left all → WentWell left r r' w w'
    → ((end ≡ converted.Done) × (p.messages ≡ all)) ⊎ (end ≡ converted.Memory)
complete_of s converted.Done r r' w w' p left all is are well =
    let here = are_all s left p.bytes p.rest p.messages p.last (all_read r r' left p.bytes is p.lost p.ends.0) p.ends.1 p.read in
    inl (refl, all_one (first_phase s) here.0 are.0 left p.messages all here.1 are.1)
complete_of s converted.Memory r r' w w' p left all is are well = inr refl
complete_of s (converted.Refused place) r r' w w' p left all is are well =
    elim p.ends.0 [
      | inl x ↦
          let parts = told_parts r.left r'.left left p.bytes is p.lost in
          absurd (none_refused s left p.bytes parts.0 p.rest p.messages all p.last x.0 parts.2 p.read x.1 are)
      | inr x ↦ absurd (none_begun s left p.bytes p.rest p.messages all p.last (all_read r r' left p.bytes is p.lost x.0) p.read x.1 x.2 are)
    ]
complete_of s converted.ReadFault r r' w w' p left all is are well = absurd (well.reading p.ends.0)
complete_of s converted.WriteFault r r' w w' p left all is are well = absurd (well.writing p.ends.0)
complete_of s converted.TurnsSpent r r' w w' p left all is are well = absurd (not_spent s r r' w w' left is well p)

refuses_of : (s : Side) (end : Converted) (r r' : SourceState) (w w' : SinkState) (p : Printed s end r r' w w') (left : List ℕ)
    → r.left ≡ Some left → ¬ ((all : List Message) × AreAll s left all) → WentWell left r r' w w'
    → ((place : ℕ) × IsWrongAt p.last p.rest (capped (length p.bytes - length p.rest)) place r' × (end ≡ converted.Refused place))
    ⊎ (end ≡ converted.Memory)
refuses_of s converted.Done r r' w w' p left is none well =
    absurd (none (
      p.messages,
      are_all s left p.bytes p.rest p.messages p.last (all_read r r' left p.bytes is p.lost p.ends.0) p.ends.1 p.read,
    ))
refuses_of s converted.Memory r r' w w' p left is none well = inr refl
refuses_of s (converted.Refused place) r r' w w' p left is none well = inl (place, p.ends.0, refl)
refuses_of s converted.ReadFault r r' w w' p left is none well = absurd (well.reading p.ends.0)
refuses_of s converted.WriteFault r r' w w' p left is none well = absurd (well.writing p.ends.0)
refuses_of s converted.TurnsSpent r r' w w' p left is none well = absurd (not_spent s r r' w w' left is well p)

pub framed : (s : Side) (end : Converted) (r r' : SourceState) (w w' : SinkState) → Printed s end r r' w w'
    → RoseExactly (is_read_fault end) r.faults r'.faults → RoseExactly (is_write_fault end) w.faults w'.faults → Framed s end r r' w w'
framed s end r r' w w' printed reading writing = record {
  printed = printed;
  faults = record { reading = reading; writing = writing };
  complete = complete_of s end r r' w w' printed;
  refuses = refuses_of s end r r' w w' printed;
}
