-- Where a frame is refused: what judging it says of the length field and of the body.
use Rattle.std.proofs.Common.{◌≡◌, ℕ, ◌+◌, ◌-◌, ◌^◌, ◌<◌, ◌≤◌, Bool, true, false, cond, ltb, ◌||◌, List, [], ◌++◌, length, take, drop, Option, Some, None, Result, Ok, Err, refl, sym, ap, ◌∙◌, arith, ◌⊎◌, inl, inr}
use Rattle.std.specs.Int.{w32, from_be_bytes}
use Rattle.std.proofs.lemmas.Bool.{ltb-true, ltb-false, or_cases}
use Rattle.std.proofs.lemmas.List.{length-take, take-append-drop, append-nil}
use Rattle.repl_message.specs.declared.message.Message.{Message}
use Rattle.repl_wire.specs.declared.fault.WireFault.{WireFault}
use Rattle.repl_wire.specs.declared.fault.WireFault.TheVariants as fault
use Rattle.repl_wire.specs.declared.taking.Taken.{Taken}
use Rattle.repl_wire.specs.declared.taking.Taken.TheVariants as taken
use Rattle.repl_message.specs.Message.{int32, framed}
use Rattle.repl_message.specs.Decoding.{number}
use Rattle.repl_wire.specs.Judging.{frame_of, on_frame, read_as}
use Rattle.repl_message.proofs.FieldLaws.{int32_again}
use Rattle.repl_message.proofs.Spellings.{framed_one, bytes_one}
use Rattle.repl_wire.proofs.Frames.{IsFrame}
use Rattle.repl_wire.proofs.Leaving.{IsBody}

-- a frame is refused at its length, or its body is
pub frame_wrong : (r : Result (Option (List ℕ)) WireFault) (read : List ℕ → Taken) (f : WireFault) → on_frame r read ≡ taken.Wrong f
    → (r ≡ Err f) ⊎ ((body : List ℕ) × (r ≡ Ok (Some body)) × (read body ≡ taken.Wrong f))
frame_wrong (Ok None) read f e = absurd cc
frame_wrong (Ok (Some body)) read f e = inr (body, refl, e)
frame_wrong (Err g) read f e = inl (cc)

-- a body that is not read is left somewhere
pub read_wrong : {A : Type 0} (make : A → Message) (end : ℕ) (r : Result A ℕ) (f : WireFault) → read_as make end r ≡ taken.Wrong f
    → (left : ℕ) × (r ≡ Err left) × (f ≡ fault.Body (end - left))
read_wrong make end (Ok x) f e = absurd cc
read_wrong make end (Err left) f e = (left, refl, cc)

-- ---- lengths

-- a length field that is out of range
pub record IsOutside (least limit place : ℕ) (bytes : List ℕ) (f : WireFault) : Type 0 where
  pub field : 4 ≤ length bytes
  pub outside : (number bytes < least) ⊎ (limit < number bytes)
  pub fault_is : f ≡ fault.Length place (number bytes)

tests_failed : (short out part : Bool) (g : WireFault) (body : List ℕ) (f : WireFault)
    → cond short (Ok None) (cond out (Err g) (cond part (Ok None) (Ok (Some body)))) ≡ Err f → (short ≡ false) × (out ≡ true) × (f ≡ g)
tests_failed true out part g body f e = absurd cc
tests_failed false true part g body f e = (refl, refl, cc)
tests_failed false false true g body f e = absurd cc
tests_failed false false false g body f e = absurd cc

pub length_wrong : (place least limit : ℕ) (bytes : List ℕ) (f : WireFault) → frame_of place least limit bytes ≡ Err f
    → IsOutside least limit place bytes f
unfolding frame_of
length_wrong place least limit bytes f e =
    let t = tests_failed (ltb (length bytes) 4) (ltb (number bytes) least || ltb limit (number bytes)) (ltb (length bytes) (number bytes))
    (fault.Length place (number bytes)) (drop 4 (take (number bytes) bytes)) f e in
    let outside : (number bytes < least) ⊎ (limit < number bytes) =
    elim (or_cases (ltb (number bytes) least) (ltb limit (number bytes)) t.1) [
      | inl low ↦ inl (ltb-true _ _ low)
      | inr high ↦ inr (ltb-true _ _ high)
    ] in
    record { field = ltb-false _ _ t.0; outside = outside; fault_is = t.2 }

-- the first four bytes of a frame are its length
pub length_begins : (bytes body more : List ℕ) → 4 ≤ length bytes → length body + 4 < 2 ^ 32 → take 4 bytes ++ more ≡ framed body
    → number bytes ≡ length body + 4
length_begins bytes body more field below e =
    let len : length (take 4 bytes) ≡ length (int32 (length body + 4)) = omega (arith, field, length-take 4 bytes) in
    let t = bytes_one (take 4 bytes) (int32 (length body + 4)) more body len e in
    ap (from_be_bytes w32) t.0 ∙ (int32_again (length body + 4) [] below).0

-- ---- bodies

-- bytes that begin with a frame
pub frame_parts : (least limit : ℕ) (bytes body : List ℕ) → IsFrame least limit bytes body → bytes ≡ framed body
    ++ drop (length body + 4) bytes
frame_parts least limit bytes body f = sym (take-append-drop (length body + 4) bytes)
    ∙ ap (λ (t : List ℕ). t ++ drop (length body + 4) bytes) f.spelled

pub frame_body : (least limit : ℕ) (bytes body : List ℕ) → limit < 0xffff_ffff → IsFrame least limit bytes body → IsBody body
frame_body least limit bytes body below f = record { fits = f.fits; short = omega (arith, f.high) }

-- a frame that begins with a whole frame is that frame
pub same_frame : (body other more : List ℕ) → length body + 4 < 2 ^ 32 → length other + 4 < 2 ^ 32 → framed body ++ more ≡ framed other
    → (body ≡ other) × (more ≡ [])
same_frame body other more below other_below e = framed_one.one body other more [] below other_below (e ∙ sym (append-nil (framed other)))
