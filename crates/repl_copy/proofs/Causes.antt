-- Each fault has one cause: a payload at fault spells nothing, and has one fault.
use Rattle.std.proofs.Common.{◌≡◌, ◌≢◌, ℕ, ◌+◌, ◌<◌, Bool, true, false, cond, eqb, List, [], ◌∷◌, ◌++◌, length, get_or, drop, Result, Ok, Err, IfOk, IfErr, refl, sym, ap, subst, ◌∙◌, arith, inl, inr}
use Rattle.std.proofs.lemmas.Bool.Decides.{nat_tests}
use Rattle.std.proofs.lemmas.List.{length-append, get_or-drop, drop_at}
use Rattle.repl_copy.specs.declared.payload.Stream.{Stream}
use Rattle.repl_copy.specs.declared.payload.Stream.TheVariants as stream
use Rattle.repl_copy.specs.declared.payload.Reply.{Reply}
use Rattle.repl_copy.specs.declared.payload.Reply.TheVariants as reply
use Rattle.repl_copy.specs.declared.fault.CopyFault.{CopyFault}
use Rattle.repl_copy.specs.declared.fault.CopyFault.TheVariants as fault
use Rattle.repl_copy.specs.Payload.{int64, flag, stream_spelling, reply_spelling, IsStream, IsReply, IsOfKind, IsFlagged, IsStreamFault, IsReplyFault}
use Rattle.repl_copy.proofs.OneValue.{stream_one, reply_one}

-- ---- kinds and flags

first : List ℕ → ℕ
first payload = get_or payload 0 0

first_is : (kind : ℕ) (payload : List ℕ) → IsOfKind kind payload → (first payload ≡ kind) × (0 < length payload)
unfolding first
first_is kind payload is = rw is.1 (refl, omega arith)

one_kind : (a b : ℕ) (payload : List ℕ) → IsOfKind a payload → IsOfKind b payload → a ≡ b
one_kind a b payload a_is b_is = sym (first_is a payload a_is).0 ∙ (first_is b payload b_is).0

none_is : (payload : List ℕ) → payload ≡ [] → length payload ≡ 0
none_is payload is = rw is refl

-- a payload has one last byte
last_is : (said n : ℕ) (payload : List ℕ) → length payload ≡ n + 1 → IsFlagged said payload → drop n payload ≡ said ∷ []
last_is said n payload len flagged =
    let front = flagged.0.0 in
    let whole = flagged.0.1 in
    ap (drop n) whole ∙ drop_at front (said ∷ []) n (omega (arith, ap length whole, length-append front (said ∷ [])))

last_told : (said n : ℕ) (payload : List ℕ) → length payload ≡ n + 1 → IsFlagged said payload → get_or payload n 0 ≡ said
last_told said n payload len flagged =
    let e : get_or (drop n payload) 0 0 ≡ said = rw (last_is said n payload len flagged) refl in
    let place : n ≡ n + 0 = omega arith in
    ap (λ (k : ℕ). get_or payload k 0) place ∙ sym (get_or-drop n payload 0 0) ∙ e

-- a flag is no other byte
flag_is : (asks : Bool) (said : ℕ) → flag asks ≡ said ∷ [] → said ≢ 0 → said ≢ 1 → ⊥
flag_is true said e zero one = one (sym (ap (λ (t : List ℕ). get_or t 0 0) e))
flag_is false said e zero one = zero (sym (ap (λ (t : List ℕ). get_or t 0 0) e))

-- ---- a server's payload

keepalive_length : (end clock : ℕ) (asks : Bool) → length (stream_spelling (stream.Keepalive end clock asks)) ≡ 18
keepalive_length end clock true = refl
keepalive_length end clock false = refl

wal_right : (start end clock : ℕ) (bytes : List ℕ) (f : CopyFault) → IsStreamFault (stream_spelling (stream.Wal start end clock bytes)) f
    → ⊥
wal_right s e c x fault.Empty h = omega (arith, none_is _ h)
wal_right s e c x (fault.Kind kind) h = h.1 (one_kind kind 119 _ h.0 (_, refl))
wal_right s e c x (fault.Length have) h =
    elim h.1 [
      | inl short ↦ omega (arith, h.0, short.1, length-append (int64 s ++ int64 e ++ int64 c) x)
      | inr other ↦ absurd (omega (arith, one_kind 107 119 _ other.0 (_, refl)))
    ]
wal_right s e c x (fault.Flag said) h = absurd (omega (arith, one_kind 107 119 _ h.0 (_, refl)))

keepalive_right : (end clock : ℕ) (asks : Bool) (f : CopyFault) → IsStreamFault (stream_spelling (stream.Keepalive end clock asks)) f → ⊥
keepalive_right e c x fault.Empty h = omega (arith, none_is _ h)
keepalive_right e c x (fault.Kind kind) h = h.2 (one_kind kind 107 _ h.0 (_, refl))
keepalive_right e c x (fault.Length have) h =
    elim h.1 [
      | inl other ↦ absurd (omega (arith, one_kind 119 107 _ other.0 (_, refl)))
      | inr wrong ↦ wrong.1 (h.0 ∙ keepalive_length e c x)
    ]
keepalive_right e c x (fault.Flag said) h = flag_is x said (last_is said 17 _ h.1 h.2) h.2.1 h.2.2

stream_right : (v : Stream) (payload : List ℕ) (f : CopyFault) → payload ≡ stream_spelling v → IsStreamFault payload f → ⊥
stream_right (stream.Wal start end clock bytes) payload f e h =
    wal_right start end clock bytes f (subst (λ (t : List ℕ). IsStreamFault t f) e h)
stream_right (stream.Keepalive end clock asks) payload f e h =
    keepalive_right end clock asks f (subst (λ (t : List ℕ). IsStreamFault t f) e h)

-- the fault of a payload at fault, by its first byte, its length and the byte of its flag
stream_told : ℕ → ℕ → ℕ → CopyFault
stream_told kind len last = cond (eqb len 0) fault.Empty (cond (eqb kind 119) (fault.Length len)
    (cond (eqb kind 107) (cond (eqb len 18) (fault.Flag last) (fault.Length len)) (fault.Kind kind)))

stream_cause : (payload : List ℕ) (f : CopyFault) → IsStreamFault payload f → f
    ≡ stream_told (first payload) (length payload) (get_or payload 17 0)
unfolding stream_told
stream_cause payload fault.Empty h = let e = none_is payload h in grind (arith, nat_tests)
stream_cause payload (fault.Kind kind) h = let e = first_is kind payload h.0 in grind (arith, nat_tests)
stream_cause payload (fault.Length have) h =
    elim h.1 [
      | inl wal ↦ let e = first_is 119 payload wal.0 in grind (arith, nat_tests, h.0)
      | inr keepalive ↦ let e = first_is 107 payload keepalive.0 in grind (arith, nat_tests, h.0, keepalive.1)
    ]
stream_cause payload (fault.Flag said) h =
    let e = first_is 107 payload h.0 in
    let l = last_told said 17 payload h.1 h.2 in
    grind (arith, nat_tests, h.1)

one_stream_fault : (payload : List ℕ) (f g : CopyFault) → IsStreamFault payload f → IsStreamFault payload g → f ≡ g
one_stream_fault payload f g f_is g_is = stream_cause payload f f_is ∙ sym (stream_cause payload g g_is)

-- what is spelled so is read, where what is read is spelled so and a fault has its cause
pub only_stream : (payload : List ℕ) (result : Result Stream CopyFault) → IfOk result (λ v. IsStream v × (payload ≡ stream_spelling v))
    → IfErr result (λ f. IsStreamFault payload f)
    → (v : Stream) → IsStream v → payload ≡ stream_spelling v → result ≡ Ok v
only_stream payload (Ok w) read refused v fits spelled = ap Ok (stream_one w v read.0 fits (sym read.1 ∙ spelled))
only_stream payload (Err f) read refused v fits spelled = absurd (stream_right v payload f spelled refused)

-- and each fault is told where it has its cause
pub exact_stream : (payload : List ℕ) (result : Result Stream CopyFault) → IfOk result (λ v. IsStream v × (payload ≡ stream_spelling v))
    → IfErr result (λ f. IsStreamFault payload f)
    → (f : CopyFault) → IsStreamFault payload f → result ≡ Err f
exact_stream payload (Ok w) read refused f h = absurd (stream_right w payload f read.1 h)
exact_stream payload (Err g) read refused f h = ap Err (one_stream_fault payload g f refused h)

-- ---- a standby's payload

status_length : (written flushed applied clock : ℕ) (asks : Bool)
    → length (reply_spelling (reply.Status written flushed applied clock asks)) ≡ 34
status_length written flushed applied clock true = refl
status_length written flushed applied clock false = refl

status_right : (written flushed applied clock : ℕ) (asks : Bool) (f : CopyFault)
    → IsReplyFault (reply_spelling (reply.Status written flushed applied clock asks)) f → ⊥
status_right w f a c x fault.Empty h = omega (arith, none_is _ h)
status_right w f a c x (fault.Kind kind) h = h.1 (one_kind kind 114 _ h.0 (_, refl))
status_right w f a c x (fault.Length have) h =
    elim h.1 [
      | inl wrong ↦ wrong.1 (h.0 ∙ status_length w f a c x)
      | inr other ↦ absurd (omega (arith, one_kind 104 114 _ other.0 (_, refl)))
    ]
status_right w f a c x (fault.Flag said) h = flag_is x said (last_is said 33 _ h.1 h.2) h.2.1 h.2.2

feedback_right : (clock xmin epoch catalog_xmin catalog_epoch : ℕ) (f : CopyFault)
    → IsReplyFault (reply_spelling (reply.Feedback clock xmin epoch catalog_xmin catalog_epoch)) f → ⊥
feedback_right c x e y d fault.Empty h = omega (arith, none_is _ h)
feedback_right c x e y d (fault.Kind kind) h = h.2 (one_kind kind 104 _ h.0 (_, refl))
feedback_right c x e y d (fault.Length have) h =
    elim h.1 [
      | inl other ↦ absurd (omega (arith, one_kind 114 104 _ other.0 (_, refl)))
      | inr wrong ↦ wrong.1 h.0
    ]
feedback_right c x e y d (fault.Flag said) h = absurd (omega (arith, one_kind 114 104 _ h.0 (_, refl)))

reply_right : (v : Reply) (payload : List ℕ) (f : CopyFault) → payload ≡ reply_spelling v → IsReplyFault payload f → ⊥
reply_right (reply.Status written flushed applied clock asks) payload f e h =
    status_right written flushed applied clock asks f (subst (λ (t : List ℕ). IsReplyFault t f) e h)
reply_right (reply.Feedback clock xmin epoch catalog_xmin catalog_epoch) payload f e h =
    feedback_right clock xmin epoch catalog_xmin catalog_epoch f (subst (λ (t : List ℕ). IsReplyFault t f) e h)

-- the fault of a payload at fault, by its first byte, its length and the byte of its flag
reply_told : ℕ → ℕ → ℕ → CopyFault
reply_told kind len last = cond (eqb len 0) fault.Empty (cond (eqb kind 104) (fault.Length len)
    (cond (eqb kind 114) (cond (eqb len 34) (fault.Flag last) (fault.Length len)) (fault.Kind kind)))

reply_cause : (payload : List ℕ) (f : CopyFault) → IsReplyFault payload f → f
    ≡ reply_told (first payload) (length payload) (get_or payload 33 0)
unfolding reply_told
reply_cause payload fault.Empty h = let e = none_is payload h in grind (arith, nat_tests)
reply_cause payload (fault.Kind kind) h = let e = first_is kind payload h.0 in grind (arith, nat_tests)
reply_cause payload (fault.Length have) h =
    elim h.1 [
      | inl status ↦ let e = first_is 114 payload status.0 in grind (arith, nat_tests, h.0, status.1)
      | inr feedback ↦ let e = first_is 104 payload feedback.0 in grind (arith, nat_tests, h.0)
    ]
reply_cause payload (fault.Flag said) h =
    let e = first_is 114 payload h.0 in
    let l = last_told said 33 payload h.1 h.2 in
    grind (arith, nat_tests, h.1)

one_reply_fault : (payload : List ℕ) (f g : CopyFault) → IsReplyFault payload f → IsReplyFault payload g → f ≡ g
one_reply_fault payload f g f_is g_is = reply_cause payload f f_is ∙ sym (reply_cause payload g g_is)

-- what is spelled so is read, where what is read is spelled so and a fault has its cause
pub only_reply : (payload : List ℕ) (result : Result Reply CopyFault) → IfOk result (λ v. IsReply v × (payload ≡ reply_spelling v))
    → IfErr result (λ f. IsReplyFault payload f)
    → (v : Reply) → IsReply v → payload ≡ reply_spelling v → result ≡ Ok v
only_reply payload (Ok w) read refused v fits spelled = ap Ok (reply_one w v read.0 fits (sym read.1 ∙ spelled))
only_reply payload (Err f) read refused v fits spelled = absurd (reply_right v payload f spelled refused)

-- and each fault is told where it has its cause
pub exact_reply : (payload : List ℕ) (result : Result Reply CopyFault) → IfOk result (λ v. IsReply v × (payload ≡ reply_spelling v))
    → IfErr result (λ f. IsReplyFault payload f)
    → (f : CopyFault) → IsReplyFault payload f → result ≡ Err f
exact_reply payload (Ok w) read refused f h = absurd (reply_right w payload f read.1 h)
exact_reply payload (Err g) read refused f h = ap Err (one_reply_fault payload g f refused h)
