-- Messages: what is taken is spelled so, and what is spelled so is taken, whatever follows it.
use Rattle.std.proofs.Common.{◌≡◌, ℕ, suc, ◌+◌, ◌^◌, ◌<◌, ◌≤◌, Bool, true, false, cond, eqb, List, [], ◌∷◌, ◌++◌, length, take, drop, Option, Some, None, Result, Ok, Err, refl, sym, ap, subst, ◌∙◌, arith, ◌⊎◌, inl, inr}
use Rattle.std.proofs.lemmas.Bool.{eqb-true}
use Rattle.std.proofs.lemmas.List.{length-append}
use Rattle.repl_message.specs.declared.startup.Startup.{Startup}
use Rattle.repl_message.specs.declared.startup.Startup.TheVariants as startup
use Rattle.repl_message.specs.declared.startup.Pair.{Pair}
use Rattle.repl_message.specs.declared.back.Back.{Back}
use Rattle.repl_message.specs.declared.front.Front.{Front}
use Rattle.repl_message.specs.declared.front.Front.TheVariants as front
use Rattle.repl_wire.specs.declared.fault.WireFault.{WireFault}
use Rattle.repl_message.specs.declared.message.Phase.{Phase}
use Rattle.repl_message.specs.declared.message.Phase.TheVariants as phase
use Rattle.repl_message.specs.declared.message.Message.{Message}
use Rattle.repl_message.specs.declared.message.Message.TheVariants as message
use Rattle.repl_message.specs.declared.message.TheConstants.{STARTUP_LEAST, STARTUP_LIMIT, MESSAGE_LIMIT, COPY_DATA_LIMIT}
use Rattle.repl_wire.specs.declared.taking.Taken.{Taken}
use Rattle.repl_wire.specs.declared.taking.Taken.TheVariants as taken
use Rattle.repl_message.specs.Message.{int32, pair, ended, framed, startup_body, front_kind, front_body, front_limit, front_spelling, back_body, back_spelling, spelling, FitsStartup, FitsFront, IsFront, IsBack, IsStartup, Belongs, Spells}
use Rattle.repl_message.specs.Decoding.{number}
use Rattle.repl_wire.specs.Judging.{IsJudged, judge, judge_startup, judge_front, judge_back, judge_ended, judge_row, Row, back_row, judge_packet, judge_message, on_frame, read_as, read_packet, text_of, nothing_of, bytes_of, two_numbers_of, parameters_of, frame_of}
use Rattle.repl_message.proofs.FieldLaws.{IsBytes, IsBytes-drop, IsBytes-rest, int32_takes, int32_again}
use Rattle.repl_wire.proofs.Frames.{IsFrame, frame_takes, frame_again, length-framed}
use Rattle.repl_wire.proofs.BodyLaws.{parameters_take, parameters_again, text_takes, text_again, nothing_takes, nothing_again, bytes_take, bytes_again, two_numbers_take, two_numbers_again}
use Rattle.repl_wire.proofs.ServerBodies.{IsBody, rows_take, has_row}

-- ---- steps

framed_whole : (r : Result (Option (List ℕ)) WireFault) (read : List ℕ → Taken) (m : Message) (used : ℕ) → on_frame r read
    ≡ taken.Whole m used → (body : List ℕ) × (r ≡ Ok (Some body)) × (read body ≡ taken.Whole m used)
framed_whole (Ok None) read m used e = absurd cc
framed_whole (Ok (Some body)) read m used e = (body, refl, e)
framed_whole (Err f) read m used e = absurd cc

read_whole : {A : Type 0} (make : A → Message) (end : ℕ) (r : Result A ℕ) (m : Message) (used : ℕ) → read_as make end r ≡ taken.Whole m used
    → (x : A) × (r ≡ Ok x) × (make x ≡ m) × (end ≡ used)
read_whole make end (Ok x) m used e = (x, refl, cc, cc)
read_whole make end (Err left) m used e = absurd cc

-- the same said of the message and the length that are answered
found_as : (p : Phase) (bytes : List ℕ) (m n : Message) (used end : ℕ) → n ≡ m → end ≡ used → (end ≤ length bytes)
    × Spells p n (take end bytes) → (used ≤ length bytes) × Spells p m (take used bytes)
found_as p bytes m n used end m_is used_is found = rw (← m_is, ← used_is) found

-- a choice of answers that gives a message
choice : (b : Bool) (a other : Taken) (m : Message) (used : ℕ) → cond b a other ≡ taken.Whole m used
    → ((b ≡ true) × (a ≡ taken.Whole m used)) ⊎ (other ≡ taken.Whole m used)
choice true a other m used e = inl (refl, e)
choice false a other m used e = inr e

-- ---- messages after a type byte

-- the bodies of these messages are read so: what is read was written, and what was written is read
record IsReader {A : Type 0} (kind : ℕ) (make : A → Front) (least limit : ℕ) (read : List ℕ → Result A ℕ) : Type 0 where
  kind_is : (x : A) → kind ≡ front_kind (make x)
  limit_is : (x : A) → limit ≡ front_limit (make x)
  below : limit < 2 ^ 32
  takes : (body : List ℕ) (x : A) → IsBytes body → read body ≡ Ok x → (body ≡ front_body (make x)) × FitsFront (make x)
  long : (x : A) → least ≤ length (front_body (make x))
  again : (x : A) → FitsFront (make x) → read (front_body (make x)) ≡ Ok x

query_reader : IsReader 81 (λ (text : List ℕ). front.Query text) 1 MESSAGE_LIMIT text_of
query_reader = record {
  kind_is = λ text. refl;
  limit_is = λ text. refl;
  below = omega arith;
  takes = text_takes;
  long = λ text. omega (arith, length-append text (0 ∷ []));
  again = text_again;
}

copy_fail_reader : IsReader 102 (λ (text : List ℕ). front.CopyFail text) 1 MESSAGE_LIMIT text_of
copy_fail_reader = record {
  kind_is = λ text. refl;
  limit_is = λ text. refl;
  below = omega arith;
  takes = text_takes;
  long = λ text. omega (arith, length-append text (0 ∷ []));
  again = text_again;
}

copy_data_reader : IsReader 100 (λ (piece : List ℕ). front.CopyData piece) 0 COPY_DATA_LIMIT bytes_of
copy_data_reader = record {
  kind_is = λ piece. refl;
  limit_is = λ piece. refl;
  below = omega arith;
  takes = bytes_take;
  long = λ piece. omega arith;
  again = λ piece fits. bytes_again piece;
}

copy_done_reader : IsReader 99 (λ (u : Unit {0}). front.CopyDone) 0 MESSAGE_LIMIT nothing_of
copy_done_reader = record {
  kind_is = λ u. refl;
  limit_is = λ u. refl;
  below = omega arith;
  takes = λ body u fits e. (nothing_takes body u e, tt);
  long = λ u. omega arith;
  again = λ u fits. nothing_again;
}

terminate_reader : IsReader 88 (λ (u : Unit {0}). front.Terminate) 0 MESSAGE_LIMIT nothing_of
terminate_reader = record {
  kind_is = λ u. refl;
  limit_is = λ u. refl;
  below = omega arith;
  takes = λ body u fits e. (nothing_takes body u e, tt);
  long = λ u. omega arith;
  again = λ u fits. nothing_again;
}

-- a frame after a type byte spells the message whose kind and body they are
front_spells : (m : Front) (kind least limit : ℕ) (bytes body : List ℕ) → IsFrame least limit bytes body → limit ≡ front_limit m → kind
    ≡ front_kind m → body ≡ front_body m → FitsFront m
    → (length body + 5 ≤ length (kind ∷ bytes)) × Spells phase.Front (message.Front m) (take (length body + 5) (kind ∷ bytes))
front_spells m kind least limit bytes body f limit_is kind_is body_is fits =
    let one_more : length body + 5 ≡ suc (length body + 4) = omega arith in
    let spelled : take (length body + 5) (kind ∷ bytes) ≡ front_spelling m = rw (one_more, f.spelled, kind_is, body_is) refl in
    (omega (arith, f.there), record { belongs = record { fits = fits; within = rw (← body_is, ← limit_is) f.high }; spelled = spelled })

message_found : {A : Type 0} {kind : ℕ} {make : A → Front} {least limit : ℕ} {read : List ℕ → Result A ℕ}
    (reader : IsReader kind make least limit read) (first : ℕ) (bytes : List ℕ) (m : Message) (used : ℕ) → IsBytes bytes → first ≡ kind
    → judge_message make least limit read bytes ≡ taken.Whole m used → (used ≤ length (first ∷ bytes))
    × Spells phase.Front m (take used (first ∷ bytes))
message_found {A} {kind} {make} {least} {limit} {read} reader first bytes m used fits first_is e =
    let f = framed_whole (frame_of 1 (least + 4) limit bytes)
    (λ body. read_as (λ (x : A). message.Front (make x)) (length body + 5) (read body)) m used e in
    let r = read_whole (λ (x : A). message.Front (make x)) (length f.0 + 5) (read f.0) m used f.2 in
    let frame = frame_takes 1 (least + 4) limit bytes f.0 (omega arith) fits f.1 in
    let t = reader.takes f.0 r.0 frame.fits r.1 in
    found_as phase.Front (first ∷ bytes) m (message.Front (make r.0)) used (length f.0 + 5) r.2 r.3
    (front_spells (make r.0) first (least + 4) limit bytes f.0 frame (reader.limit_is r.0) (first_is ∙ reader.kind_is r.0) t.0 t.1)

front_found : (bytes : List ℕ) (m : Message) (used : ℕ) → IsBytes bytes → judge_front bytes ≡ taken.Whole m used → (used ≤ length bytes)
    × Spells phase.Front m (take used bytes)
unfolding judge_front
front_found [] m used fits e = absurd cc
front_found (kind ∷ bytes) m used fits e =
    let past = IsBytes-rest kind bytes fits in
    elim (choice (eqb kind 81) _ _ m used e) [
      | inl q ↦ message_found query_reader kind bytes m used past (eqb-true _ _ q.0) q.1
      | inr e1 ↦ elim (choice (eqb kind 100) _ _ m used e1) [
        | inl d ↦ message_found copy_data_reader kind bytes m used past (eqb-true _ _ d.0) d.1
        | inr e2 ↦ elim (choice (eqb kind 99) _ _ m used e2) [
          | inl c ↦ message_found copy_done_reader kind bytes m used past (eqb-true _ _ c.0) c.1
          | inr e3 ↦ elim (choice (eqb kind 102) _ _ m used e3) [
            | inl f ↦ message_found copy_fail_reader kind bytes m used past (eqb-true _ _ f.0) f.1
            | inr e4 ↦ elim (choice (eqb kind 88) _ _ m used e4) [
              | inl t ↦ message_found terminate_reader kind bytes m used past (eqb-true _ _ t.0) t.1
              | inr e5 ↦ absurd cc
            ]
          ]
        ]
      ]
    ]

-- ---- messages of the server

-- a frame after a type byte spells the message whose kind and body they are
back_spells : (m : Back) (kind least limit : ℕ) (bytes body : List ℕ) → IsFrame least limit bytes body → IsBody kind limit body m
    → (length body + 5 ≤ length (kind ∷ bytes)) × Spells phase.Back (message.Back m) (take (length body + 5) (kind ∷ bytes))
back_spells m kind least limit bytes body f is =
    let one_more : length body + 5 ≡ suc (length body + 4) = omega arith in
    let parts = is.parts in
    let limit_is = is.limit_is in
    let spelled : take (length body + 5) (kind ∷ bytes) ≡ back_spelling m = rw (one_more, f.spelled, ← is.kind_is, parts) refl in
    (omega (arith, f.there), record { belongs = record { fits = is.fits; within = rw (← parts, ← limit_is) f.high }; spelled = spelled })

-- the row by which a message was read
row_whole : (o : Option Row) (bytes : List ℕ) (m : Message) (used : ℕ) → judge_row o bytes ≡ taken.Whole m used → (r : Row) × (o ≡ Some r)
    × (judge_row (Some r) bytes ≡ taken.Whole m used)
row_whole None bytes m used e = absurd cc
row_whole (Some r) bytes m used e = (r, refl, e)

back_found : (bytes : List ℕ) (m : Message) (used : ℕ) → IsBytes bytes → judge_back bytes ≡ taken.Whole m used → (used ≤ length bytes)
    × Spells phase.Back m (take used bytes)
unfolding judge_back
back_found [] m used fits e = absurd cc
back_found (kind ∷ bytes) m used fits e =
    let w = row_whole (back_row kind) bytes m used e in
    let r : Row = w.0 in
    let is = rows_take kind r w.1 in
    let f = framed_whole (frame_of 1 (r.least + 4) r.limit bytes)
    (λ body. read_as (λ (n : Back). message.Back n) (length body + 5) (r.read body)) m used w.2 in
    let n = read_whole (λ (n : Back). message.Back n) (length f.0 + 5) (r.read f.0) m used f.2 in
    let frame = frame_takes 1 (r.least + 4) r.limit bytes f.0 (omega arith) (IsBytes-rest kind bytes fits) f.1 in
    found_as phase.Back (kind ∷ bytes) m (message.Back n.0) used (length f.0 + 5) n.2 n.3
    (back_spells n.0 kind (r.least + 4) r.limit bytes f.0 frame (is.takes f.0 n.0 frame.fits n.1))

ended_found : (bytes : List ℕ) (m : Message) (used : ℕ) → judge_ended bytes ≡ taken.Whole m used → ⊥
ended_found [] m used e = cc
ended_found (kind ∷ bytes) m used e = cc

-- ---- startup packets

-- the fields after this code are read so
record IsPacketReader {A : Type 0} (code : ℕ) (make : A → Startup) (read : List ℕ → Result A ℕ) : Type 0 where
  below : code < 2 ^ 32
  takes : (fields : List ℕ) (x : A) → IsBytes fields → read fields ≡ Ok x → (int32 code ++ fields ≡ startup_body (make x))
      × FitsStartup (make x)
  again : (x : A) → FitsStartup (make x) → (fields : List ℕ) × (startup_body (make x) ≡ int32 code ++ fields) × (read fields ≡ Ok x)

params_reader : IsPacketReader 196_608 (λ (ps : List Pair). startup.Params ps) parameters_of
params_reader = record {
  below = omega arith;
  takes = λ fields ps fit e. let t = parameters_take fields ps fit e in (ap (λ (x : List ℕ). int32 196_608 ++ x) t.0, t.1);
  again = λ ps fits. (ended pair ps, refl, parameters_again ps fits);
}

cancel_reader : IsPacketReader 80_877_102 (λ (ids : ℕ × ℕ). startup.Cancel ids.0 ids.1) two_numbers_of
cancel_reader = record {
  below = omega arith;
  takes = λ fields ids fit e. let t = two_numbers_take fields ids fit e in (ap (λ (x : List ℕ). int32 80_877_102 ++ x) t.0, (t.1, t.2));
  again = λ ids fits. (int32 ids.0 ++ int32 ids.1, refl, two_numbers_again ids.0 ids.1 fits.0 fits.1);
}

ssl_reader : IsPacketReader 80_877_103 (λ (u : Unit {0}). startup.Ssl) nothing_of
ssl_reader = record {
  below = omega arith;
  takes = λ fields u fit e. (ap (λ (x : List ℕ). int32 80_877_103 ++ x) (nothing_takes fields u e), tt);
  again = λ u fits. ([], refl, nothing_again);
}

gss_reader : IsPacketReader 80_877_104 (λ (u : Unit {0}). startup.Gss) nothing_of
gss_reader = record {
  below = omega arith;
  takes = λ fields u fit e. (ap (λ (x : List ℕ). int32 80_877_104 ++ x) (nothing_takes fields u e), tt);
  again = λ u fits. ([], refl, nothing_again);
}

startup_spells : (m : Startup) (least : ℕ) (bytes body : List ℕ) → IsFrame least STARTUP_LIMIT bytes body → body ≡ startup_body m
    → FitsStartup m
    → (length body + 4 ≤ length bytes) × Spells phase.Startup (message.Startup m) (take (length body + 4) bytes)
startup_spells m least bytes body f body_is fits =
    (f.there, record { belongs = record { fits = fits; within = rw (← body_is) f.high }; spelled = f.spelled ∙ ap framed body_is })

packet_found : {A : Type 0} {code : ℕ} {make : A → Startup} {read : List ℕ → Result A ℕ} (reader : IsPacketReader code make read)
    (bytes body : List ℕ) (m : Message) (used : ℕ) → IsFrame STARTUP_LEAST STARTUP_LIMIT bytes body → number body ≡ code
    → read_packet make read body ≡ taken.Whole m used → (used ≤ length bytes) × Spells phase.Startup m (take used bytes)
packet_found {A} {code} {make} {read} reader bytes body m used frame code_is e =
    let r = read_whole (λ (x : A). message.Startup (make x)) (length body + 4) (read (drop 4 body)) m used e in
    let t = reader.takes (drop 4 body) r.0 (IsBytes-drop 4 body frame.fits) r.1 in
    let parts : body ≡ int32 (number body) ++ drop 4 body = (int32_takes body frame.fits (omega (arith, frame.low))).0.parts in
    let spelled : body ≡ startup_body (make r.0) = parts ∙ ap (λ (n : ℕ). int32 n ++ drop 4 body) code_is ∙ t.0 in
    found_as phase.Startup bytes m (message.Startup (make r.0)) used (length body + 4) r.2 r.3
    (startup_spells (make r.0) STARTUP_LEAST bytes body frame spelled t.1)

packets_found : (bytes body : List ℕ) (m : Message) (used : ℕ) → IsFrame STARTUP_LEAST STARTUP_LIMIT bytes body → judge_packet body
    ≡ taken.Whole m used → (used ≤ length bytes) × Spells phase.Startup m (take used bytes)
unfolding judge_packet
packets_found bytes body m used frame e =
    elim (choice (eqb (number body) 196_608) _ _ m used e) [
      | inl p ↦ packet_found params_reader bytes body m used frame (eqb-true _ _ p.0) p.1
      | inr e1 ↦ elim (choice (eqb (number body) 80_877_102) _ _ m used e1) [
        | inl c ↦ packet_found cancel_reader bytes body m used frame (eqb-true _ _ c.0) c.1
        | inr e2 ↦ elim (choice (eqb (number body) 80_877_103) _ _ m used e2) [
          | inl s ↦ packet_found ssl_reader bytes body m used frame (eqb-true _ _ s.0) s.1
          | inr e3 ↦ elim (choice (eqb (number body) 80_877_104) _ _ m used e3) [
            | inl g ↦ packet_found gss_reader bytes body m used frame (eqb-true _ _ g.0) g.1
            | inr e4 ↦ absurd cc
          ]
        ]
      ]
    ]

startup_found : (bytes : List ℕ) (m : Message) (used : ℕ) → IsBytes bytes → judge_startup bytes ≡ taken.Whole m used → (used ≤ length bytes)
    × Spells phase.Startup m (take used bytes)
unfolding judge_startup
startup_found bytes m used fits e =
    let f = framed_whole (frame_of 0 STARTUP_LEAST STARTUP_LIMIT bytes) judge_packet m used e in
    packets_found bytes f.0 m used (frame_takes 0 STARTUP_LEAST STARTUP_LIMIT bytes f.0 (omega arith) fits f.1) f.2

pub is_found : (p : Phase) (bytes : List ℕ) (t : Taken) → IsBytes bytes → IsJudged t (judge p bytes) → (m : Message) (used : ℕ) → t
    ≡ taken.Whole m used → (used ≤ length bytes) × Spells p m (take used bytes)
is_found phase.Startup bytes t fits judged m used e = startup_found bytes m used fits
    (subst (λ (x : Taken). IsJudged x (judge_startup bytes)) e judged)
is_found phase.Front bytes t fits judged m used e = front_found bytes m used fits
    (subst (λ (x : Taken). IsJudged x (judge_front bytes)) e judged)
is_found phase.Back bytes t fits judged m used e = back_found bytes m used fits
    (subst (λ (x : Taken). IsJudged x (judge_back bytes)) e judged)
is_found phase.Ended bytes t fits judged m used e = absurd (ended_found bytes m used
    (subst (λ (x : Taken). IsJudged x (judge_ended bytes)) e judged))

-- ---- what is spelled is taken

-- the code, and what is read after it
packet_again : {A : Type 0} {code : ℕ} {make : A → Startup} {read : List ℕ → Result A ℕ} (reader : IsPacketReader code make read) (x : A)
    → FitsStartup (make x)
    → (number (startup_body (make x)) ≡ code) × (read_packet make read (startup_body (make x))
    ≡ taken.Whole (message.Startup (make x)) (length (startup_body (make x)) + 4))
packet_again {A} {code} {make} {read} reader x fits =
    let a = reader.again x fits in
    let c = int32_again code a.0 reader.below in
    let past : read (drop 4 (startup_body (make x))) ≡ Ok x = ap (λ (body : List ℕ). read (drop 4 body)) a.1 ∙ ap read c.1 ∙ a.2 in
    (ap number a.1 ∙ c.0, rw past refl)

-- a body of this code is judged by its reader
judged_params : (body : List ℕ) → number body ≡ 196_608 → judge_packet body
    ≡ read_packet (λ (ps : List Pair). startup.Params ps) parameters_of body
unfolding judge_packet
judged_params body code = rw code refl

judged_cancel : (body : List ℕ) → number body ≡ 80_877_102 → judge_packet body
    ≡ read_packet (λ (ids : ℕ × ℕ). startup.Cancel ids.0 ids.1) two_numbers_of body
unfolding judge_packet
judged_cancel body code = rw code refl

judged_ssl : (body : List ℕ) → number body ≡ 80_877_103 → judge_packet body ≡ read_packet (λ (u : Unit {0}). startup.Ssl) nothing_of body
unfolding judge_packet
judged_ssl body code = rw code refl

judged_gss : (body : List ℕ) → number body ≡ 80_877_104 → judge_packet body ≡ read_packet (λ (u : Unit {0}). startup.Gss) nothing_of body
unfolding judge_packet
judged_gss body code = rw code refl

packets_again : (m : Startup) → FitsStartup m → judge_packet (startup_body m)
    ≡ taken.Whole (message.Startup m) (length (startup_body m) + 4)
packets_again (startup.Params ps) fits = let t = packet_again params_reader ps fits in judged_params _ t.0 ∙ t.1
packets_again startup.Ssl fits = let t = packet_again ssl_reader tt fits in judged_ssl _ t.0 ∙ t.1
packets_again startup.Gss fits = let t = packet_again gss_reader tt fits in judged_gss _ t.0 ∙ t.1
packets_again (startup.Cancel pid key) fits = let t = packet_again cancel_reader (pid, key) fits in judged_cancel _ t.0 ∙ t.1

-- a code is there
long_packet : (m : Startup) → 4 ≤ length (startup_body m)
long_packet (startup.Params ps) = omega (arith, length-append (int32 196_608) (ended pair ps))
long_packet startup.Ssl = omega arith
long_packet startup.Gss = omega arith
long_packet (startup.Cancel pid key) = omega arith

startup_again : (m : Startup) (rest : List ℕ) → IsStartup m → judge_startup (spelling (message.Startup m) ++ rest)
    ≡ taken.Whole (message.Startup m) (length (spelling (message.Startup m)))
unfolding judge_startup
startup_again m rest is =
    let body = startup_body m in
    let frame = frame_again 0 STARTUP_LEAST STARTUP_LIMIT body rest (omega (arith, long_packet m)) is.within (omega arith) in
    rw frame (packets_again m is.fits ∙ ap (taken.Whole (message.Startup m)) (sym (length-framed body)))

message_again : {A : Type 0} {kind : ℕ} {make : A → Front} {least limit : ℕ} {read : List ℕ → Result A ℕ}
    (reader : IsReader kind make least limit read) (x : A) (rest : List ℕ) → IsFront (make x)
    → judge_message make least limit read (framed (front_body (make x)) ++ rest)
    ≡ taken.Whole (message.Front (make x)) (suc (length (framed (front_body (make x)))))
message_again {A} {kind} {make} {least} {limit} {read} reader x rest is =
    let body = front_body (make x) in
    let low = reader.long x in
    let high : length body + 4 ≤ limit = rw (reader.limit_is x) is.within in
    let len : length body + 5 ≡ suc (length (framed body)) = omega (arith, length-framed body) in
    let read_is = reader.again x is.fits in
    rw (frame_again 1 (least + 4) limit body rest (omega arith) high reader.below, read_is) (ap (taken.Whole (message.Front (make x))) len)

front_again : (m : Front) (rest : List ℕ) → IsFront m → judge_front (front_spelling m ++ rest)
    ≡ taken.Whole (message.Front m) (length (front_spelling m))
unfolding judge_front
front_again (front.Query text) rest is = message_again query_reader text rest is
front_again (front.CopyData piece) rest is = message_again copy_data_reader piece rest is
front_again front.CopyDone rest is = message_again copy_done_reader tt rest is
front_again (front.CopyFail text) rest is = message_again copy_fail_reader text rest is
front_again front.Terminate rest is = message_again terminate_reader tt rest is

back_again : (m : Back) (rest : List ℕ) → IsBack m → judge_back (back_spelling m ++ rest)
    ≡ taken.Whole (message.Back m) (length (back_spelling m))
unfolding judge_back
back_again m rest is =
    let body = back_body m in
    let row = has_row m is in
    let r : Row = row.its in
    let row_is = row.row_is in
    let low = row.low in
    let high : length body + 4 ≤ r.limit = rw row.limit_is is.within in
    let len : length body + 5 ≡ suc (length (framed body)) = omega (arith, length-framed body) in
    let read_is = row.again in
    rw (row_is, frame_again 1 (r.least + 4) r.limit body rest (omega arith) high row.below, read_is) (ap (taken.Whole (message.Back m)) len)

again : (p : Phase) (m : Message) (rest : List ℕ) → Belongs p m → judge p (spelling m ++ rest) ≡ taken.Whole m (length (spelling m))
again phase.Startup (message.Startup m) rest is = startup_again m rest is
again phase.Startup (message.Front m) rest is = absurd is
again phase.Startup (message.Back m) rest is = absurd is
again phase.Front (message.Startup m) rest is = absurd is
again phase.Front (message.Front m) rest is = front_again m rest is
again phase.Front (message.Back m) rest is = absurd is
again phase.Back (message.Startup m) rest is = absurd is
again phase.Back (message.Front m) rest is = absurd is
again phase.Back (message.Back m) rest is = back_again m rest is
again phase.Ended m rest is = absurd is

whole_or_memory : (t judged : Taken) (m : Message) (used : ℕ) → IsJudged t judged → judged ≡ taken.Whole m used → (t ≡ taken.Whole m used)
    ⊎ (t ≡ taken.Memory)
whole_or_memory taken.Memory judged m used j e = inr refl
whole_or_memory (taken.Whole n other) judged m used j e = inl (sym j ∙ e)
whole_or_memory taken.Short judged m used j e = absurd (let bad = sym j ∙ e in cc)
whole_or_memory (taken.Wrong f) judged m used j e = absurd (let bad = sym j ∙ e in cc)

pub is_only : (p : Phase) (bytes : List ℕ) (t : Taken) → IsJudged t (judge p bytes) → (m : Message) (text rest : List ℕ) → Spells p m text
    → bytes ≡ text ++ rest
    → (t ≡ taken.Whole m (length text)) ⊎ (t ≡ taken.Memory)
is_only p bytes t judged m text rest s e =
    let all : bytes ≡ spelling m ++ rest = e ∙ ap (λ (x : List ℕ). x ++ rest) s.spelled in
    whole_or_memory t (judge p bytes) m (length text) judged
    (ap (judge p) all ∙ again p m rest s.belongs ∙ ap (λ (x : List ℕ). taken.Whole m (length x)) (sym s.spelled))
