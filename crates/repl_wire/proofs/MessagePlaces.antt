-- Faults of messages after a type byte, of either side.
use Rattle.std.proofs.Common.{◌≡◌, ◌≢◌, ℕ, suc, ◌+◌, ◌-◌, ◌<◌, ◌≤◌, List, [], ◌∷◌, ◌++◌, length, take, drop, Result, Err, refl, sym, ap, subst, ◌∙◌, arith, inl, inr}
use Rattle.std.specs.List.{concat}
use Rattle.std.proofs.lemmas.List.{length-append, append-nil}
use Rattle.repl_text.specs.Language.{Begins}
use Rattle.repl_message.specs.declared.message.Phase.{Phase}
use Rattle.repl_message.specs.declared.message.Message.{Message}
use Rattle.repl_message.specs.Message.{framed, Spells}
use Rattle.repl_wire.specs.declared.fault.WireFault.{WireFault}
use Rattle.repl_wire.specs.declared.fault.WireFault.TheVariants as fault
use Rattle.repl_wire.specs.declared.taking.Taken.TheVariants as taken
use Rattle.repl_wire.specs.Judging.{frame_of, on_frame, read_as}
use Rattle.repl_wire.specs.Places.{LeavesAt, LeavesBody, IsSpelled, head, IsFault}
use Rattle.repl_message.proofs.FieldLaws.{IsBytes}
use Rattle.repl_wire.proofs.Frames.{IsFrame, frame_takes}
use Rattle.repl_wire.proofs.Leaving.{IsBody}
use Rattle.repl_wire.proofs.FramePlaces.{frame_wrong, read_wrong, IsOutside, length_wrong, length_begins, frame_parts, frame_body, same_frame}

-- these bytes begin with no message of the phase
abbrev pub AreNone : Phase → List ℕ → Type 0
AreNone p bytes = (m : Message) (text rest : List ℕ) → Spells p m text → bytes ≢ text ++ rest

-- what is left of a body is no longer than it
pub left_short : {M : Type 0} {Fits : M → Type 0} {fields : M → List (List ℕ)} {body : List ℕ} {left : ℕ} → LeavesAt Fits fields body left
    → left ≤ length body
left_short l = omega (arith, l.size, ap length l.parts, length-append (concat l.before) l.rest)

-- the messages of a phase with this type byte
pub record IsTyped (p : Phase) (kind least limit : ℕ) : Type 0 where
  pub one_byte : head p ≡ 1
  pub below : limit < 0xffff_ffff
  pub some : Begins (IsSpelled p) (kind ∷ [])
  pub spells : (more : List ℕ) → IsSpelled p (kind ∷ more) → (body : List ℕ) × (more ≡ framed body) × (least ≤ length body)
      × (length body + 4 ≤ limit)

length_fault : {p : Phase} {kind least limit : ℕ} (typed : IsTyped p kind least limit) (bytes : List ℕ) (f : WireFault)
    → IsOutside (least + 4) limit 1 bytes f → IsFault p (kind ∷ bytes) f
length_fault {p} {kind} {least} {limit} typed bytes f out =
    let stops : ¬ Begins (IsSpelled p) (kind ∷ take 4 bytes) = λ b.
    let s = typed.spells (take 4 bytes ++ b.0) b.1 in
    let n = length_begins bytes s.0 b.0 out.field (omega (arith, typed.below, s.3)) s.1 in
    let outside = out.outside in
    omega (arith, n, s.2, s.3, outside)
    in
    subst (IsFault p (kind ∷ bytes)) (sym out.fault_is) (sym typed.one_byte, omega (arith, out.field), refl, typed.some, stops)

-- how a body that is left there is told
abbrev pub LeavesWithin : Phase → ℕ → List ℕ → ℕ → Type 0
LeavesWithin p kind body left = LeavesBody p kind body left × (left ≤ length body)

body_fault : {p : Phase} {kind least limit : ℕ} (typed : IsTyped p kind least limit) (bytes body : List ℕ) (left : ℕ)
    → IsFrame (least + 4) limit bytes body → AreNone p (kind ∷ bytes) → LeavesWithin p kind body left
    → IsFault p (kind ∷ bytes) (fault.Body (length body + 5 - left))
body_fault {p} {kind} {least} {limit} typed bytes body left frame none leaves =
    let past = drop (length body + 4) bytes in
    let parts : bytes ≡ framed body ++ past = frame_parts (least + 4) limit bytes body frame in
    let cut : take (1 + (length body + 4)) (kind ∷ bytes) ≡ kind ∷ framed body =
    let n : 1 + (length body + 4) ≡ suc (length body + 4) = omega arith in
    ap (λ (k : ℕ). take k (kind ∷ bytes)) n ∙ ap (λ (t : List ℕ). kind ∷ t) frame.spelled
    in
    let stops : ¬ Begins (IsSpelled p) (take (1 + (length body + 4)) (kind ∷ bytes)) = λ b.
    let spelled : IsSpelled p (kind ∷ (framed body ++ b.0)) = subst (λ (t : List ℕ). IsSpelled p (t ++ b.0)) cut b.1 in
    let s = typed.spells (framed body ++ b.0) spelled in
    let same = same_frame body s.0 b.0 (omega (arith, typed.below, frame.high)) (omega (arith, typed.below, s.3)) s.1 in
    let alone : IsSpelled p (kind ∷ framed body) = subst (λ (t : List ℕ). IsSpelled p (kind ∷ t))
    (ap (λ (t : List ℕ). framed body ++ t) same.1 ∙ append-nil (framed body)) spelled in
    none alone.0 (kind ∷ framed body) past alone.1 (ap (λ (t : List ℕ). kind ∷ t) parts)
    in
    record {
      kind = kind ∷ [];
      said = length body + 4;
      body = body;
      past = past;
      left = left;
      kinds = sym typed.one_byte;
      parts = ap (λ (t : List ℕ). kind ∷ t) parts;
      counts = refl;
      at = omega (arith, leaves.1);
      leaves = leaves.0;
      stops = stops;
    }

-- a message after its type byte, of which reading says where its body is left
pub message_fault : {A : Type 0} {p : Phase} {kind least limit : ℕ} (typed : IsTyped p kind least limit) (make : A → Message)
    (read : List ℕ → Result A ℕ) → ((body : List ℕ) (left : ℕ) → IsBody body → read body ≡ Err left → LeavesWithin p kind body left)
    → (bytes : List ℕ) (f : WireFault) → IsBytes bytes → AreNone p (kind ∷ bytes)
    → on_frame (frame_of 1 (least + 4) limit bytes) (λ body. read_as make (length body + 5) (read body)) ≡ taken.Wrong f
    → IsFault p (kind ∷ bytes) f
message_fault {A} {p} {kind} {least} {limit} typed make read leaves bytes f fits none e =
    elim (frame_wrong (frame_of 1 (least + 4) limit bytes) (λ body. read_as make (length body + 5) (read body)) f e) [
      | inl wrong ↦ length_fault typed bytes f (length_wrong 1 (least + 4) limit bytes f wrong)
      | inr whole ↦
          let frame = frame_takes 1 (least + 4) limit bytes whole.0 (omega arith) fits whole.1 in
          let r = read_wrong make (length whole.0 + 5) (read whole.0) f whole.2 in
          subst (IsFault p (kind ∷ bytes)) (sym r.2) (body_fault typed bytes whole.0 r.0 frame none
          (leaves whole.0 r.0 (frame_body (least + 4) limit bytes whole.0 typed.below frame) r.1))
    ]
