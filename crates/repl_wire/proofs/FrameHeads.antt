-- The head of a frame that is not refused is one that a message may have, and a length field that is refused is none.
use Rattle.std.proofs.Common.{◌≡◌, ℕ, ◌<◌, List, [], ◌∷◌, ◌++◌, length, take, drop, refl, sym, ap, subst, ◌⊎◌, inl, inr}
use Rattle.repl_message.specs.declared.message.Phase.{Phase}
use Rattle.repl_message.specs.declared.message.Phase.TheVariants as phase
use Rattle.repl_message.specs.declared.message.Side.TheVariants as side
use Rattle.repl_message.specs.declared.message.TheConstants.{STARTUP_LEAST, STARTUP_LIMIT}
use Rattle.repl_message.specs.Decoding.{number}
use Rattle.repl_message.proofs.FieldLaws.{IsBytes, IsBytes-rest, int32_takes}
use Rattle.repl_wire.specs.declared.fault.WireFault.TheVariants as fault
use Rattle.repl_wire.specs.declared.head.Head.TheVariants as says
use Rattle.repl_wire.specs.Judging.{lengths_of}
use Rattle.repl_wire.specs.Places.{head}
use Rattle.repl_wire.specs.Head.{length_at, sent_head, head_of, IsInRange, IsFrameHead}
use Rattle.repl_wire.proofs.FramePlaces.{length_wrong}
use Rattle.repl_wire.proofs.Heads.{IsLong, length_long, frame_refused, by_cases}
use Rattle.repl_wire.proofs.Ranges.{startup_range, startup_outside, front_range, front_outside, back_range, back_outside}

-- the bytes after the type byte
past_kind : (p : Phase) (kind rest : List ℕ) (least limit size : ℕ) → length kind ≡ head p → IsBytes rest
    → IsLong (head p) least limit rest size → IsInRange p kind (number rest) → IsFrameHead p (kind ++ rest) size
past_kind p kind rest least limit size kinds fits long range = record {
  kind = kind;
  said = number rest;
  past = drop 4 rest;
  kinds = kinds;
  parts = ap (λ (t : List ℕ). kind ++ t) (int32_takes rest fits long.field).0.parts;
  range = range;
  size_is = long.size_is;
}

front_head : (bytes : List ℕ) (size : ℕ) → IsBytes bytes → sent_head side.Front bytes ≡ says.Frame size
    → IsFrameHead phase.Front bytes size
front_head [] size fits e = absurd cc
front_head (kind ∷ rest) size fits e =
    elim (by_cases (lengths_of side.Front kind) rest (says.Frame size) e) [
      | inl none ↦ absurd (let bad = none.1 in cc)
      | inr k ↦
          let long = length_long 1 k.0.0 k.0.1 rest size k.2 in
          past_kind phase.Front (kind ∷ []) rest k.0.0 k.0.1 size refl (IsBytes-rest kind rest fits) long
          (front_range kind (number rest) k.0 k.1 long.low long.high)
    ]

back_head : (bytes : List ℕ) (size : ℕ) → IsBytes bytes → sent_head side.Back bytes ≡ says.Frame size
    → IsFrameHead phase.Back bytes size
back_head [] size fits e = absurd cc
back_head (kind ∷ rest) size fits e =
    elim (by_cases (lengths_of side.Back kind) rest (says.Frame size) e) [
      | inl none ↦ absurd (let bad = none.1 in cc)
      | inr k ↦
          let long = length_long 1 k.0.0 k.0.1 rest size k.2 in
          past_kind phase.Back (kind ∷ []) rest k.0.0 k.0.1 size refl (IsBytes-rest kind rest fits) long
          (back_range kind (number rest) k.0 k.1 long.low long.high)
    ]

pub frame_head : (p : Phase) (bytes : List ℕ) (size : ℕ) → IsBytes bytes → head_of p bytes ≡ says.Frame size → IsFrameHead p bytes size
frame_head phase.Startup bytes size fits e =
    let long = length_long 0 STARTUP_LEAST STARTUP_LIMIT bytes size e in
    past_kind phase.Startup [] bytes STARTUP_LEAST STARTUP_LIMIT size refl fits long
    (startup_range (number bytes) long.low long.high)
frame_head phase.Front bytes size fits e = front_head bytes size fits e
frame_head phase.Back bytes size fits e = back_head bytes size fits e
frame_head phase.Ended [] size fits e = absurd cc
frame_head phase.Ended (kind ∷ bytes) size fits e = absurd cc

-- ---- lengths that are refused

-- what is refused is this length
record IsOut (place least limit : ℕ) (bytes : List ℕ) (at said : ℕ) : Type 0 where
  said_is : said ≡ number bytes
  outside : (said < least) ⊎ (limit < said)

length_out : (place least limit : ℕ) (bytes : List ℕ) (at said : ℕ) → length_at place least limit bytes
    ≡ says.Wrong (fault.Length at said) → IsOut place least limit bytes at said
length_out place least limit bytes at said e =
    let o = length_wrong place least limit bytes (fault.Length at said) (frame_refused place least limit bytes (fault.Length at said) e) in
    let same : said ≡ number bytes = (let f = o.fault_is in cc) in
    record {
      said_is = same;
      outside = subst (λ (n : ℕ). (n < least) ⊎ (limit < n)) (sym same) o.outside;
    }

front_out : (bytes : List ℕ) (at said : ℕ) → sent_head side.Front bytes ≡ says.Wrong (fault.Length at said)
    → ¬ IsInRange phase.Front (take 1 bytes) said
front_out [] at said e = absurd cc
front_out (kind ∷ rest) at said e =
    elim (by_cases (lengths_of side.Front kind) rest (says.Wrong (fault.Length at said)) e) [
      | inl none ↦ absurd (let bad = none.1 in cc)
      | inr k ↦ front_outside kind said k.0 k.1 (length_out 1 k.0.0 k.0.1 rest at said k.2).outside
    ]

back_out : (bytes : List ℕ) (at said : ℕ) → sent_head side.Back bytes ≡ says.Wrong (fault.Length at said)
    → ¬ IsInRange phase.Back (take 1 bytes) said
back_out [] at said e = absurd cc
back_out (kind ∷ rest) at said e =
    elim (by_cases (lengths_of side.Back kind) rest (says.Wrong (fault.Length at said)) e) [
      | inl none ↦ absurd (let bad = none.1 in cc)
      | inr k ↦ back_outside kind said k.0 k.1 (length_out 1 k.0.0 k.0.1 rest at said k.2).outside
    ]

pub head_out : (p : Phase) (bytes : List ℕ) (at said : ℕ) → head_of p bytes ≡ says.Wrong (fault.Length at said)
    → ¬ IsInRange p (take (head p) bytes) said
head_out phase.Startup bytes at said e =
    startup_outside [] said (length_out 0 STARTUP_LEAST STARTUP_LIMIT bytes at said e).outside
head_out phase.Front bytes at said e = front_out bytes at said e
head_out phase.Back bytes at said e = back_out bytes at said e
head_out phase.Ended [] at said e = absurd cc
head_out phase.Ended (kind ∷ bytes) at said e = absurd cc
