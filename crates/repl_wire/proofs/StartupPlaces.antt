-- Where startup packets are refused.
use Rattle.std.proofs.Common.{◌≡◌, ◌≢◌, ℕ, ◌+◌, ◌-◌, ◌^◌, ◌<◌, ◌≤◌, eqb, List, [], ◌++◌, length, take, drop, Result, Err, refl, sym, ap, subst, ◌∙◌, arith, inl, inr}
use Rattle.std.specs.Int.{w32, from_be_bytes}
use Rattle.std.specs.List.{AllByRecursion, concat}
use Rattle.std.proofs.lemmas.Bool.{eqb-true, eqb-false}
use Rattle.std.proofs.lemmas.List.{append-nil, length-append, length-take, length-drop, take-append-le}
use Rattle.repl_text.specs.Language.{Begins}
use Rattle.repl_message.specs.declared.startup.Pair.{Pair}
use Rattle.repl_message.specs.declared.startup.Startup.{Startup}
use Rattle.repl_message.specs.declared.startup.Startup.TheVariants as startup
use Rattle.repl_message.specs.declared.startup.TheConstants.{CANCEL_REQUEST}
use Rattle.repl_message.specs.declared.message.Phase.TheVariants as phase
use Rattle.repl_message.specs.declared.message.Message.{Message}
use Rattle.repl_message.specs.declared.message.Message.TheVariants as message
use Rattle.repl_message.specs.declared.message.TheConstants.{STARTUP_LEAST, STARTUP_LIMIT}
use Rattle.repl_message.specs.Message.{int32, framed, startup_code, startup_body, startup_spelling, FitsPair, IsStartup, Spells}
use Rattle.repl_message.specs.Decoding.{whole, number}
use Rattle.repl_message.proofs.FieldLaws.{IsBytes, IsBytes-drop, int32_again}
use Rattle.repl_message.proofs.Spellings.{bytes_one}
use Rattle.repl_wire.specs.declared.fault.WireFault.{WireFault}
use Rattle.repl_wire.specs.declared.fault.WireFault.TheVariants as fault
use Rattle.repl_wire.specs.declared.taking.Taken.TheVariants as taken
use Rattle.repl_wire.specs.Judging.{judge_startup, judge_packet, read_packet, parameters_of, two_numbers_of, nothing_of, frame_of}
use Rattle.repl_wire.specs.Places.{pair_fields, startup_fields, LeavesAt, LeavesPacket, IsOfCode, IsSpelled, IsFault}
use Rattle.repl_wire.proofs.FieldSpellings.{startup_spell}
use Rattle.repl_wire.proofs.Frames.{IsFrame, frame_takes}
use Rattle.repl_wire.proofs.Leaving.{Language, IsBody, Leaves, Nothing, leaves_at, leaves_last, guard_failed, IsParted}
use Rattle.repl_wire.proofs.EndedParts.{ended_fields, pairs_part}
use Rattle.repl_wire.proofs.FramePlaces.{frame_wrong, read_wrong, IsOutside, length_wrong, length_begins, frame_parts, same_frame}
use Rattle.repl_wire.proofs.PlainBodies.{choice, nothing_leaves}
use Rattle.repl_wire.proofs.MessagePlaces.{AreNone, left_short}

-- what is spelled in this phase is a startup packet
startup_spelled : (m : Message) (bytes : List ℕ) → Spells phase.Startup m bytes → (n : Startup) × IsStartup n × (bytes ≡ startup_spelling n)
startup_spelled (message.Startup m) bytes s = (m, s.belongs, s.spelled)
startup_spelled (message.Front m) bytes s = absurd s.belongs
startup_spelled (message.Back m) bytes s = absurd s.belongs

-- a code is there
packet_long : (m : Startup) → 4 ≤ length (startup_body m)
packet_long m = omega (arith, ap length (startup_spell m), length-append (int32 (startup_code m)) (concat (startup_fields m)))

-- ---- lengths

length_fault : (bytes : List ℕ) (f : WireFault) → IsOutside STARTUP_LEAST STARTUP_LIMIT 0 bytes f → IsFault phase.Startup bytes f
length_fault bytes f out =
    let stops : ¬ Begins (IsSpelled phase.Startup) (take 4 bytes) = λ b.
    let s = startup_spelled b.1.0 (take 4 bytes ++ b.0) b.1.1 in
    let n = length_begins bytes (startup_body s.0) b.0 out.field (omega (arith, s.1.within)) s.2 in
    let outside = out.outside in
    omega (arith, n, s.1.within, packet_long s.0, outside)
    in
    let some : Begins (IsSpelled phase.Startup) [] = (
      startup_spelling startup.Ssl,
      (message.Startup startup.Ssl, record { belongs = record { fits = tt; within = omega arith }; spelled = refl }),
    ) in
    subst (IsFault phase.Startup bytes) (sym out.fault_is) (refl, omega (arith, out.field), refl, some, stops)

-- ---- codes

code_fault : (bytes body : List ℕ) → IsFrame STARTUP_LEAST STARTUP_LIMIT bytes body → ((m : Startup) → startup_code m ≢ number body)
    → IsFault phase.Startup bytes (fault.Code 4 (number body))
code_fault bytes body frame none =
    let n = length body + 4 in
    let past = drop n bytes in
    let parts : bytes ≡ int32 n ++ (body ++ past) = frame_parts STARTUP_LEAST STARTUP_LIMIT bytes body frame in
    let front : take 4 (body ++ past) ≡ take 4 body = take-append-le 4 body past (omega (arith, frame.low)) in
    let said : number bytes ≡ n = ap number parts ∙ (int32_again n (body ++ past) (omega (arith, frame.high))).0 in
    let code : number body ≡ number (drop 4 bytes) = sym (ap (from_be_bytes w32) front)
    ∙ ap (λ (t : List ℕ). number (drop 4 t)) (sym parts) in
    let begins : take 8 bytes ≡ int32 n ++ take 4 body = ap (take 8) parts ∙ ap (λ (t : List ℕ). int32 n ++ t) front in
    let stops : ¬ Begins (IsSpelled phase.Startup) (take 8 bytes) = λ b.
    let s = startup_spelled b.1.0 (take 8 bytes ++ b.0) b.1.1 in
    let m = s.0 in
    let whole_is : int32 n ++ (take 4 body ++ b.0) ≡ int32 (length (startup_body m) + 4)
    ++ startup_body m = ap (λ (t : List ℕ). t ++ b.0) (sym begins) ∙ s.2 in
    let past_length : take 4 body ++ b.0 ≡ startup_body m =
    (bytes_one (int32 n) (int32 (length (startup_body m) + 4)) (take 4 body ++ b.0) (startup_body m) refl whole_is).1 in
    let code_is = bytes_one (take 4 body) (int32 (startup_code m)) b.0 (concat (startup_fields m))
    (omega (arith, frame.low, length-take 4 body)) (past_length ∙ startup_spell m) in
    none m (sym (int32_again (startup_code m) [] (codes m)).0 ∙ ap (from_be_bytes w32) (sym code_is.0))
    in
    (refl, omega (arith, frame.low, frame.there), code, omega (arith, said, frame.low), omega (arith, said, frame.high), stops)
  where
    codes : (m : Startup) → startup_code m < 2 ^ 32
    codes (startup.Params pairs) = omega arith
    codes startup.Ssl = omega arith
    codes startup.Gss = omega arith
    codes (startup.Cancel pid key) = omega arith

-- ---- bodies

body_fault : (bytes body : List ℕ) (left : ℕ) → IsFrame STARTUP_LEAST STARTUP_LIMIT bytes body → AreNone phase.Startup bytes
    → LeavesPacket (number body) (drop 4 body) left → left ≤ length body → IsFault phase.Startup bytes (fault.Body (length body + 4 - left))
body_fault bytes body left frame none leaves short =
    let past = drop (length body + 4) bytes in
    let parts : bytes ≡ framed body ++ past = frame_parts STARTUP_LEAST STARTUP_LIMIT bytes body frame in
    let cut : take (0 + (length body + 4)) bytes ≡ framed body =
    let n : 0 + (length body + 4) ≡ length body + 4 = omega arith in
    ap (λ (k : ℕ). take k bytes) n ∙ frame.spelled
    in
    let stops : ¬ Begins (IsSpelled phase.Startup) (take (0 + (length body + 4)) bytes) = λ b.
    let s = startup_spelled b.1.0 (take (0 + (length body + 4)) bytes ++ b.0) b.1.1 in
    let spelled : framed body ++ b.0 ≡ framed (startup_body s.0) = ap (λ (t : List ℕ). t ++ b.0) (sym cut) ∙ s.2 in
    let same = same_frame body (startup_body s.0) b.0 (omega (arith, frame.high)) (omega (arith, s.1.within)) spelled in
    none (message.Startup s.0) (framed body) past (record { belongs = s.1; spelled = ap framed same.0 }) parts
    in
    record {
      kind = [];
      said = length body + 4;
      body = body;
      past = past;
      left = left;
      kinds = refl;
      parts = parts;
      counts = refl;
      at = omega (arith, short);
      leaves = leaves;
      stops = stops;
    }

-- a packet of this code, of which reading says where its fields are left
packet_fault : {A : Type 0} (code : ℕ) (make : A → Startup) (read : List ℕ → Result A ℕ)
    → ((fields : List ℕ) (left : ℕ) → IsBody fields → read fields ≡ Err left → LeavesPacket code fields left × (left ≤ length fields))
    → (bytes body : List ℕ) (f : WireFault) → IsFrame STARTUP_LEAST STARTUP_LIMIT bytes body → AreNone phase.Startup bytes → number body
    ≡ code → read_packet make read body ≡ taken.Wrong f → IsFault phase.Startup bytes f
packet_fault {A} code make read leaves bytes body f frame none code_is e =
    let r = read_wrong (λ (x : A). message.Startup (make x)) (length body + 4) (read (drop 4 body)) f e in
    let fields : IsBody (drop 4 body) = record {
      fits = IsBytes-drop 4 body frame.fits;
      short = omega (arith, frame.high, length-drop 4 body);
    } in
    let l = leaves (drop 4 body) r.0 fields r.1 in
    subst (IsFault phase.Startup bytes) (sym r.2)
    (body_fault bytes body r.0 frame none (subst (λ (c : ℕ). LeavesPacket c (drop 4 body) r.0) (sym code_is) l.0)
    (omega (arith, l.1, length-drop 4 body)))

-- ---- the fields after each code

past : (code : ℕ) (fields : List ℕ) (left : ℕ) → code ≢ CANCEL_REQUEST → LeavesAt (IsOfCode code) startup_fields fields left
    → LeavesPacket code fields left × (left ≤ length fields)
past code fields left other l = (inr (other, l), left_short l)

abbrev Parameters : Language
Parameters = IsParted (AllByRecursion FitsPair) (ended_fields pair_fields) (λ ps. Nothing)

parameters_leave : (fields : List ℕ) (left : ℕ) → IsBody fields → parameters_of fields ≡ Err left → Leaves Parameters fields left
unfolding parameters_of
parameters_leave fields left is e = leaves_last pairs_part (λ (ps : List Pair). ps) fields left is e

parameters_to : (fs : List (List ℕ)) → Parameters fs → (m : Startup) × IsOfCode 196_608 m × (startup_fields m ≡ fs)
parameters_to fs p = (
  startup.Params p.value,
  record { fits = p.fits; code_is = refl },
  sym (p.parts ∙ ap (λ (t : List (List ℕ)). ended_fields pair_fields p.value ++ t) p.past
      ∙ append-nil (ended_fields pair_fields p.value)),
)

parameters_from : (m : Startup) → IsOfCode 196_608 m → Parameters (startup_fields m)
parameters_from (startup.Params ps) is = record {
  value = ps;
  fits = is.fits;
  more = [];
  parts = sym (append-nil (ended_fields pair_fields ps));
  past = refl;
}
parameters_from startup.Ssl is = absurd (omega (arith, is.code_is))
parameters_from startup.Gss is = absurd (omega (arith, is.code_is))
parameters_from (startup.Cancel pid key) is = absurd (omega (arith, is.code_is))

ssl_from : (m : Startup) → IsOfCode 80_877_103 m → Nothing (startup_fields m)
ssl_from (startup.Params ps) is = absurd (omega (arith, is.code_is))
ssl_from startup.Ssl is = refl
ssl_from startup.Gss is = refl
ssl_from (startup.Cancel pid key) is = absurd (omega (arith, is.code_is))

gss_from : (m : Startup) → IsOfCode 80_877_104 m → Nothing (startup_fields m)
gss_from (startup.Params ps) is = absurd (omega (arith, is.code_is))
gss_from startup.Ssl is = refl
gss_from startup.Gss is = refl
gss_from (startup.Cancel pid key) is = absurd (omega (arith, is.code_is))

cancel_leaves : (fields : List ℕ) (left : ℕ) → two_numbers_of fields ≡ Err left → LeavesPacket 80_877_102 fields left
    × (left ≤ length fields)
unfolding two_numbers_of
cancel_leaves fields left e =
    let g = guard_failed (eqb (length fields) 8) (number fields, number (drop 4 fields)) (length fields) left e in
    (inl (refl, eqb-false _ _ g.0, sym g.1), omega (arith, g.1))

-- ---- packets

-- no packet has another code
no_code : (code : ℕ) → code ≢ 196_608 → code ≢ 80_877_102 → code ≢ 80_877_103 → code ≢ 80_877_104 → (m : Startup) → startup_code m ≢ code
no_code code a b c d (startup.Params pairs) same = a (sym same)
no_code code a b c d startup.Ssl same = c (sym same)
no_code code a b c d startup.Gss same = d (sym same)
no_code code a b c d (startup.Cancel pid key) same = b (sym same)

wrong_is : (f g : WireFault) → taken.Wrong f ≡ taken.Wrong g → f ≡ g
wrong_is f g e = cc

packets_fault : (bytes body : List ℕ) (f : WireFault) → IsFrame STARTUP_LEAST STARTUP_LIMIT bytes body → AreNone phase.Startup bytes
    → judge_packet body ≡ taken.Wrong f → IsFault phase.Startup bytes f
unfolding judge_packet
packets_fault bytes body f frame none e =
    elim (choice (eqb (number body) 196_608) _ _ (taken.Wrong f) e) [
      | inl p ↦
          packet_fault 196_608 (λ ps. startup.Params ps) parameters_of
          (λ fields left is failed. past 196_608 fields left (λ same. omega (arith, same))
          (leaves_at (IsOfCode 196_608) startup_fields Parameters fields left parameters_to parameters_from
          (parameters_leave fields left is failed)))
          bytes body f frame none (eqb-true _ _ p.0) p.1
      | inr e1 ↦ elim (choice (eqb (number body) 80_877_102) _ _ (taken.Wrong f) e1.1) [
        | inl c ↦ packet_fault 80_877_102 (λ (ids : ℕ × ℕ). startup.Cancel ids.0 ids.1) two_numbers_of
            (λ fields left is failed. cancel_leaves fields left failed) bytes body f frame none (eqb-true _ _ c.0) c.1
        | inr e2 ↦ elim (choice (eqb (number body) 80_877_103) _ _ (taken.Wrong f) e2.1) [
          | inl s ↦
              packet_fault 80_877_103 (λ (u : Unit {0}). startup.Ssl) nothing_of
              (λ fields left is failed. past 80_877_103 fields left (λ same. omega (arith, same))
              (leaves_at (IsOfCode 80_877_103) startup_fields Nothing fields left
              (λ fs n. (startup.Ssl, record { fits = tt; code_is = refl }, sym n)) ssl_from (nothing_leaves fields left failed)))
              bytes body f frame none (eqb-true _ _ s.0) s.1
          | inr e3 ↦ elim (choice (eqb (number body) 80_877_104) _ _ (taken.Wrong f) e3.1) [
            | inl g ↦
                packet_fault 80_877_104 (λ (u : Unit {0}). startup.Gss) nothing_of
                (λ fields left is failed. past 80_877_104 fields left (λ same. omega (arith, same))
                (leaves_at (IsOfCode 80_877_104) startup_fields Nothing fields left
                (λ fs n. (startup.Gss, record { fits = tt; code_is = refl }, sym n)) gss_from (nothing_leaves fields left failed)))
                bytes body f frame none (eqb-true _ _ g.0) g.1
            | inr e4 ↦
                subst (IsFault phase.Startup bytes) (wrong_is (fault.Code 4 (number body)) f e4.1)
                (code_fault bytes body frame (no_code (number body) (eqb-false _ _ e1.0) (eqb-false _ _ e2.0) (eqb-false _ _ e3.0)
                (eqb-false _ _ e4.0)))
          ]
        ]
      ]
    ]

pub startup_fault : (bytes : List ℕ) (f : WireFault) → IsBytes bytes → AreNone phase.Startup bytes → judge_startup bytes ≡ taken.Wrong f
    → IsFault phase.Startup bytes f
unfolding judge_startup
startup_fault bytes f fits none e =
    elim (frame_wrong (frame_of 0 STARTUP_LEAST STARTUP_LIMIT bytes) judge_packet f e) [
      | inl wrong ↦ length_fault bytes f (length_wrong 0 STARTUP_LEAST STARTUP_LIMIT bytes f wrong)
      | inr whole ↦ packets_fault bytes whole.0 f (frame_takes 0 STARTUP_LEAST STARTUP_LIMIT bytes whole.0 (omega arith) fits whole.1) none
          whole.2
    ]
