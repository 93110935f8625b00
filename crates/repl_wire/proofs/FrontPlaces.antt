-- Where the client's messages are refused.
use Rattle.std.proofs.Common.{◌≡◌, ◌≢◌, ℕ, ◌<◌, ◌≤◌, eqb, List, [], ◌∷◌, length, Err, refl, sym, ap, subst, arith, inl, inr}
use Rattle.std.proofs.lemmas.Bool.{eqb-true, eqb-false}
use Rattle.std.proofs.lemmas.List.{length-append}
use Rattle.std.proofs.lemmas.List.Elements.{All-nil}
use Rattle.repl_message.specs.declared.front.Front.{Front}
use Rattle.repl_message.specs.declared.front.Front.TheVariants as front
use Rattle.repl_message.specs.declared.message.Phase.TheVariants as phase
use Rattle.repl_message.specs.declared.message.Message.{Message}
use Rattle.repl_message.specs.declared.message.Message.TheVariants as message
use Rattle.repl_message.specs.declared.message.TheConstants.{MESSAGE_LIMIT, COPY_DATA_LIMIT}
use Rattle.repl_message.specs.Message.{framed, front_kind, front_body, front_limit, front_spelling, IsFront, Spells}
use Rattle.repl_message.proofs.FieldLaws.{IsBytes, IsBytes-rest}
use Rattle.repl_wire.specs.declared.fault.WireFault.{WireFault}
use Rattle.repl_wire.specs.declared.fault.WireFault.TheVariants as fault
use Rattle.repl_wire.specs.declared.taking.Taken.TheVariants as taken
use Rattle.repl_wire.specs.Judging.{judge_front, judge_message, text_of, nothing_of, bytes_of}
use Rattle.repl_wire.specs.Places.{front_fields, LeavesAt, IsOfFrontKind, IsFault}
use Rattle.repl_wire.proofs.Leaving.{Nothing, leaves_at}
use Rattle.repl_wire.proofs.PlainBodies.{choice, OneText, text_leaves, text_is, nothing_leaves}
use Rattle.repl_wire.proofs.MessagePlaces.{AreNone, left_short, IsTyped, LeavesWithin, message_fault}

-- what is spelled in this phase is a message of the client
front_spelled : (m : Message) (bytes : List ℕ) → Spells phase.Front m bytes → (n : Front) × IsFront n × (bytes ≡ front_spelling n)
front_spelled (message.Startup m) bytes s = absurd s.belongs
front_spelled (message.Front m) bytes s = (m, s.belongs, s.spelled)
front_spelled (message.Back m) bytes s = absurd s.belongs

-- every message of this type byte has so many bytes at least, and this limit
abbrev AreLong : ℕ → ℕ → ℕ → Type 0
AreLong kind least limit = (m : Front) → front_kind m ≡ kind → (least ≤ length (front_body m)) × (front_limit m ≡ limit)

typed : (kind least limit : ℕ) → limit < 0xffff_ffff → AreLong kind least limit → (m : Front) → IsFront m → front_kind m ≡ kind
    → IsTyped phase.Front kind least limit
typed kind least limit below long m is kind_is = record {
  one_byte = refl;
  below = below;
  some = (
    framed (front_body m),
    (
      message.Front m,
      record {
        belongs = is;
        spelled = ap (λ (k : ℕ). k ∷ framed (front_body m)) (sym kind_is);
      },
    ),
  );
  spells = λ more s.
      let t = front_spelled s.0 (kind ∷ more) s.1 in
      let spelled = t.2 in
      let same : front_kind t.0 ≡ kind = cc in
      let framed_is : more ≡ framed (front_body t.0) = cc in
      let l = long t.0 same in
      (front_body t.0, framed_is, l.0, omega (arith, t.1.within, l.1));
}

queries_long : AreLong 81 1 MESSAGE_LIMIT
queries_long (front.Query text) e = (omega (arith, length-append text (0 ∷ [])), refl)
queries_long _ e = absurd (omega (arith, e))

data_long : AreLong 100 0 COPY_DATA_LIMIT
data_long (front.CopyData bytes) e = (omega arith, refl)
data_long _ e = absurd (omega (arith, e))

done_long : AreLong 99 0 MESSAGE_LIMIT
done_long front.CopyDone e = (omega arith, refl)
done_long _ e = absurd (omega (arith, e))

fails_long : AreLong 102 1 MESSAGE_LIMIT
fails_long (front.CopyFail text) e = (omega (arith, length-append text (0 ∷ [])), refl)
fails_long _ e = absurd (omega (arith, e))

ends_long : AreLong 88 0 MESSAGE_LIMIT
ends_long front.Terminate e = (omega arith, refl)
ends_long _ e = absurd (omega (arith, e))

-- ---- bodies

bytes_leave : (body : List ℕ) (left : ℕ) → bytes_of body ≡ Err left → ⊥
unfolding bytes_of
bytes_leave body left e = absurd cc

query_from : (m : Front) → IsOfFrontKind 81 m → OneText (front_fields m)
query_from (front.Query text) is = record { value = text; fits = is.fits; more = []; parts = refl; past = refl }
query_from _ is = absurd (omega (arith, is.kind_is))

fail_from : (m : Front) → IsOfFrontKind 102 m → OneText (front_fields m)
fail_from (front.CopyFail text) is = record { value = text; fits = is.fits; more = []; parts = refl; past = refl }
fail_from _ is = absurd (omega (arith, is.kind_is))

done_from : (m : Front) → IsOfFrontKind 99 m → Nothing (front_fields m)
done_from front.CopyDone is = refl
done_from _ is = absurd (omega (arith, is.kind_is))

end_from : (m : Front) → IsOfFrontKind 88 m → Nothing (front_fields m)
end_from front.Terminate is = refl
end_from _ is = absurd (omega (arith, is.kind_is))

within : (kind : ℕ) (body : List ℕ) (left : ℕ) → LeavesAt (IsOfFrontKind kind) front_fields body left
    → LeavesWithin phase.Front kind body left
within kind body left l = (l, left_short l)

-- ---- messages

query_fault : (bytes : List ℕ) (f : WireFault) → IsBytes bytes → AreNone phase.Front (81 ∷ bytes)
    → judge_message (λ text. front.Query text) 1 MESSAGE_LIMIT text_of bytes ≡ taken.Wrong f → IsFault phase.Front (81 ∷ bytes) f
query_fault bytes f fits none e =
    message_fault (typed 81 1 MESSAGE_LIMIT (omega arith) queries_long (front.Query [])
    (record { fits = All-nil (λ (b : ℕ). (0 < b) × (b < 256)); within = omega arith }) refl) (λ text. message.Front (front.Query text))
    text_of
    (λ body left is failed. within 81 body left
    (leaves_at (IsOfFrontKind 81) front_fields OneText body left
    (λ fs p. (front.Query p.value, record { fits = p.fits; kind_is = refl }, text_is fs p.more p.value p.parts p.past)) query_from
    (text_leaves body left is failed)))
    bytes f fits none e

fail_fault : (bytes : List ℕ) (f : WireFault) → IsBytes bytes → AreNone phase.Front (102 ∷ bytes)
    → judge_message (λ text. front.CopyFail text) 1 MESSAGE_LIMIT text_of bytes ≡ taken.Wrong f → IsFault phase.Front (102 ∷ bytes) f
fail_fault bytes f fits none e =
    message_fault (typed 102 1 MESSAGE_LIMIT (omega arith) fails_long (front.CopyFail [])
    (record { fits = All-nil (λ (b : ℕ). (0 < b) × (b < 256)); within = omega arith }) refl)
    (λ text. message.Front (front.CopyFail text)) text_of
    (λ body left is failed. within 102 body left
    (leaves_at (IsOfFrontKind 102) front_fields OneText body left
    (λ fs p. (front.CopyFail p.value, record { fits = p.fits; kind_is = refl }, text_is fs p.more p.value p.parts p.past)) fail_from
    (text_leaves body left is failed)))
    bytes f fits none e

data_fault : (bytes : List ℕ) (f : WireFault) → IsBytes bytes → AreNone phase.Front (100 ∷ bytes)
    → judge_message (λ piece. front.CopyData piece) 0 COPY_DATA_LIMIT bytes_of bytes ≡ taken.Wrong f → IsFault phase.Front (100 ∷ bytes) f
data_fault bytes f fits none e =
    message_fault (typed 100 0 COPY_DATA_LIMIT (omega arith) data_long (front.CopyData []) (record { fits = tt; within = omega arith })
    refl) (λ piece. message.Front (front.CopyData piece)) bytes_of
    (λ body left is failed. absurd (bytes_leave body left failed)) bytes f fits none e

done_fault : (bytes : List ℕ) (f : WireFault) → IsBytes bytes → AreNone phase.Front (99 ∷ bytes)
    → judge_message (λ (u : Unit {0}). front.CopyDone) 0 MESSAGE_LIMIT nothing_of bytes ≡ taken.Wrong f → IsFault phase.Front (99 ∷ bytes) f
done_fault bytes f fits none e =
    message_fault (typed 99 0 MESSAGE_LIMIT (omega arith) done_long front.CopyDone (record { fits = tt; within = omega arith }) refl)
    (λ (u : Unit {0}). message.Front front.CopyDone) nothing_of
    (λ body left is failed. within 99 body left (leaves_at (IsOfFrontKind 99) front_fields Nothing body left
    (λ fs n. (front.CopyDone, record { fits = tt; kind_is = refl }, sym n)) done_from (nothing_leaves body left failed)))
    bytes f fits none e

end_fault : (bytes : List ℕ) (f : WireFault) → IsBytes bytes → AreNone phase.Front (88 ∷ bytes)
    → judge_message (λ (u : Unit {0}). front.Terminate) 0 MESSAGE_LIMIT nothing_of bytes ≡ taken.Wrong f
    → IsFault phase.Front (88 ∷ bytes) f
end_fault bytes f fits none e =
    message_fault (typed 88 0 MESSAGE_LIMIT (omega arith) ends_long front.Terminate (record { fits = tt; within = omega arith }) refl)
    (λ (u : Unit {0}). message.Front front.Terminate) nothing_of
    (λ body left is failed. within 88 body left (leaves_at (IsOfFrontKind 88) front_fields Nothing body left
    (λ fs n. (front.Terminate, record { fits = tt; kind_is = refl }, sym n)) end_from (nothing_leaves body left failed)))
    bytes f fits none e

-- ---- type bytes

-- no message has another type byte
no_kind : (kind : ℕ) → kind ≢ 81 → kind ≢ 100 → kind ≢ 99 → kind ≢ 102 → kind ≢ 88 → (m : Front) → front_kind m ≢ kind
no_kind kind a b c d e (front.Query text) same = a (sym same)
no_kind kind a b c d e (front.CopyData bytes) same = b (sym same)
no_kind kind a b c d e front.CopyDone same = c (sym same)
no_kind kind a b c d e (front.CopyFail text) same = d (sym same)
no_kind kind a b c d e front.Terminate same = e (sym same)

kind_fault : (kind : ℕ) (bytes : List ℕ) (f : WireFault) → taken.Wrong (fault.Kind 0) ≡ taken.Wrong f → ((m : Front) → front_kind m ≢ kind)
    → IsFault phase.Front (kind ∷ bytes) f
kind_fault kind bytes f e none =
    let same : fault.Kind 0 ≡ f = cc in
    subst (IsFault phase.Front (kind ∷ bytes)) same (
      refl,
      omega arith,
      λ b.
          let t = front_spelled b.1.0 (kind ∷ b.0) b.1.1 in
          let spelled = t.2 in
          none t.0 (cc),
    )

-- what is proved of a type byte holds of a byte that equals it
at_kind : (kind known : ℕ) (bytes : List ℕ) (f : WireFault) → kind ≡ known → AreNone phase.Front (kind ∷ bytes)
    → (AreNone phase.Front (known ∷ bytes) → IsFault phase.Front (known ∷ bytes) f) → IsFault phase.Front (kind ∷ bytes) f
at_kind kind known bytes f e none found = subst (λ (k : ℕ). IsFault phase.Front (k ∷ bytes) f) (sym e)
    (found (subst (λ (k : ℕ). AreNone phase.Front (k ∷ bytes)) e none))

pub front_fault : (bytes : List ℕ) (f : WireFault) → IsBytes bytes → AreNone phase.Front bytes → judge_front bytes ≡ taken.Wrong f
    → IsFault phase.Front bytes f
unfolding judge_front
front_fault [] f fits none e = absurd cc
front_fault (kind ∷ bytes) f fits none e =
    let past = IsBytes-rest kind bytes fits in
    elim (choice (eqb kind 81) _ _ (taken.Wrong f) e) [
      | inl q ↦ at_kind kind 81 bytes f (eqb-true _ _ q.0) none (λ n. query_fault bytes f past n q.1)
      | inr e1 ↦ elim (choice (eqb kind 100) _ _ (taken.Wrong f) e1.1) [
        | inl d ↦ at_kind kind 100 bytes f (eqb-true _ _ d.0) none (λ n. data_fault bytes f past n d.1)
        | inr e2 ↦ elim (choice (eqb kind 99) _ _ (taken.Wrong f) e2.1) [
          | inl c ↦ at_kind kind 99 bytes f (eqb-true _ _ c.0) none (λ n. done_fault bytes f past n c.1)
          | inr e3 ↦ elim (choice (eqb kind 102) _ _ (taken.Wrong f) e3.1) [
            | inl g ↦ at_kind kind 102 bytes f (eqb-true _ _ g.0) none (λ n. fail_fault bytes f past n g.1)
            | inr e4 ↦ elim (choice (eqb kind 88) _ _ (taken.Wrong f) e4.1) [
              | inl t ↦ at_kind kind 88 bytes f (eqb-true _ _ t.0) none (λ n. end_fault bytes f past n t.1)
              | inr e5 ↦ kind_fault kind bytes f e5.1 (no_kind kind (eqb-false _ _ e1.0) (eqb-false _ _ e2.0) (eqb-false _ _ e3.0)
                  (eqb-false _ _ e4.0) (eqb-false _ _ e5.0))
            ]
          ]
        ]
      ]
    ]
