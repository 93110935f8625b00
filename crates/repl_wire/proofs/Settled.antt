-- What bytes decide stays decided, whatever follows them, and bytes that decide nothing are less than a message.
use Rattle.std.proofs.Common.{◌≡◌, ℕ, ◌+◌, ◌<◌, ◌≤◌, Bool, true, false, cond, ltb, eqb, ◌||◌, List, [], ◌∷◌, ◌++◌, length, take, drop, Option, Some, None, Result, Ok, Err, refl, ap, arith, ◌⊎◌, inl, inr}
use Rattle.std.proofs.lemmas.Bool.{ltb-false, ltb-true, le-ltb, or_parts}
use Rattle.std.proofs.lemmas.List.{length-append, take-append-le}
use Rattle.repl_message.specs.declared.back.Back.{Back}
use Rattle.repl_message.specs.declared.front.Front.{Front}
use Rattle.repl_message.specs.declared.front.Front.TheVariants as front
use Rattle.repl_message.specs.declared.message.Message.{Message}
use Rattle.repl_message.specs.declared.message.Message.TheVariants as message
use Rattle.repl_message.specs.declared.message.Phase.{Phase}
use Rattle.repl_message.specs.declared.message.Phase.TheVariants as phase
use Rattle.repl_message.specs.declared.message.TheConstants.{STARTUP_LEAST, STARTUP_LIMIT, MESSAGE_LIMIT, COPY_DATA_LIMIT}
use Rattle.repl_message.specs.Decoding.{number}
use Rattle.repl_wire.specs.declared.fault.WireFault.{WireFault}
use Rattle.repl_wire.specs.declared.fault.WireFault.TheVariants as fault
use Rattle.repl_wire.specs.declared.taking.Taken.{Taken}
use Rattle.repl_wire.specs.declared.taking.Taken.TheVariants as taken
use Rattle.repl_wire.specs.Judging.{Row, usual, back_row, judge_row, judge, judge_startup, judge_front, judge_back, judge_ended, judge_packet, judge_message, read_as, on_frame, frame_of, parameters_of, two_numbers_of, nothing_of, text_of, bytes_of, authentication_of, setting_of, key_of, status_of, description_of, data_row_of, tag_of, error_of, notice_of, copy_done_of, copy_both_of}

-- it is not that more bytes are needed
abbrev pub Settled : Taken → Type 0
Settled taken.Short = ⊥
Settled (taken.Whole m used) = Unit {0}
Settled (taken.Wrong f) = Unit {0}
Settled taken.Memory = Unit {0}

abbrev Frame : Type 0
Frame = Result (Option (List ℕ)) WireFault

abbrev IsThere : Frame → Type 0
IsThere (Ok None) = ⊥
IsThere (Ok (Some body)) = Unit {0}
IsThere (Err f) = Unit {0}

-- ---- frames

-- how a length is judged that is there
abbrev judged_length : Bool → Bool → WireFault → List ℕ → Frame
judged_length out part f body = cond out (Err f) (cond part (Ok None) (Ok (Some body)))

number_more : (bytes more : List ℕ) → 4 ≤ length bytes → number (bytes ++ more) ≡ number bytes
number_more bytes more long = rw (take-append-le 4 bytes more long) refl

frame_tests : (short out part : Bool) (f : WireFault) (body : List ℕ)
    → IsThere (cond short (Ok None) (cond out (Err f) (cond part (Ok None) (Ok (Some body)))))
    → (short ≡ false) × ((out ≡ true) ⊎ ((out ≡ false) × (part ≡ false)))
frame_tests true out part f body there = absurd there
frame_tests false true part f body there = (refl, inl refl)
frame_tests false false true f body there = absurd there
frame_tests false false false f body there = (refl, inr (refl, refl))

length_more : (least limit place : ℕ) (bytes more : List ℕ) → ((ltb (number bytes) least || ltb limit (number bytes)) ≡ true)
    ⊎ (((ltb (number bytes) least || ltb limit (number bytes)) ≡ false) × (ltb (length bytes) (number bytes) ≡ false))
    → judged_length (ltb (number bytes) least || ltb limit (number bytes)) (ltb (length (bytes ++ more)) (number bytes))
    (fault.Length place (number bytes)) (drop 4 (take (number bytes) (bytes ++ more)))
    ≡ judged_length (ltb (number bytes) least || ltb limit (number bytes)) (ltb (length bytes) (number bytes))
    (fault.Length place (number bytes)) (drop 4 (take (number bytes) bytes))
length_more least limit place bytes more (inl out) = rw out refl
length_more least limit place bytes more (inr t) =
    let whole : number bytes ≤ length bytes = ltb-false (length bytes) (number bytes) t.1 in
    let still : number bytes ≤ length (bytes ++ more) = omega (arith, length-append bytes more) in
    rw (t.0, le-ltb _ _ whole, le-ltb _ _ still, take-append-le (number bytes) bytes more whole) refl

frame_more : (place least limit : ℕ) (bytes more : List ℕ) → IsThere (frame_of place least limit bytes)
    → frame_of place least limit (bytes ++ more) ≡ frame_of place least limit bytes
unfolding frame_of
frame_more place least limit bytes more there =
    let t = frame_tests (ltb (length bytes) 4) (ltb (number bytes) least || ltb limit (number bytes)) (ltb (length bytes) (number bytes)) _
    _ there in
    let long : 4 ≤ length bytes = ltb-false _ _ t.0 in
    let n = number_more bytes more long in
    let longer : 4 ≤ length (bytes ++ more) = omega (arith, length-append bytes more) in
    rw (n, le-ltb _ _ longer, le-ltb _ _ long) (length_more least limit place bytes more t.1)

on_frame_there : (r : Frame) (read : List ℕ → Taken) → Settled (on_frame r read) → IsThere r
on_frame_there (Ok None) read settled = settled
on_frame_there (Ok (Some body)) read settled = tt
on_frame_there (Err f) read settled = tt

on_frame_more : (place least limit : ℕ) (bytes more : List ℕ) (read : List ℕ → Taken)
    → Settled (on_frame (frame_of place least limit bytes) read)
    → on_frame (frame_of place least limit (bytes ++ more)) read ≡ on_frame (frame_of place least limit bytes) read
on_frame_more place least limit bytes more read settled = ap (λ (r : Frame). on_frame r read)
    (frame_more place least limit bytes more (on_frame_there (frame_of place least limit bytes) read settled))

-- a choice of answers
choice_more : (b : Bool) (x x' other other' : Taken) → (Settled x → x' ≡ x) → (Settled other → other' ≡ other) → Settled (cond b x other)
    → cond b x' other' ≡ cond b x other
choice_more true x x' other other' f g settled = f settled
choice_more false x x' other other' f g settled = g settled

-- ---- phases

message_more : {A : Type 0} (make : A → Front) (least limit : ℕ) (read : List ℕ → Result A ℕ) (bytes more : List ℕ)
    → Settled (judge_message make least limit read bytes)
    → judge_message make least limit read (bytes ++ more) ≡ judge_message make least limit read bytes
message_more make least limit read bytes more settled = on_frame_more 1 (least + 4) limit bytes more
    (λ body. read_as (λ x. message.Front (make x)) (length body + 5) (read body)) settled

row_more : (r : Option Row) (bytes more : List ℕ) → Settled (judge_row r bytes) → judge_row r (bytes ++ more) ≡ judge_row r bytes
row_more None bytes more settled = refl
row_more (Some r) bytes more settled = on_frame_more 1 (r.least + 4) r.limit bytes more
    (λ body. read_as (λ m. message.Back m) (length body + 5) (r.read body)) settled

front_more : (bytes more : List ℕ) → Settled (judge_front bytes) → judge_front (bytes ++ more) ≡ judge_front bytes
unfolding judge_front
front_more [] more settled = absurd settled
front_more (kind ∷ bytes) more settled =
    choice_more (eqb kind 81) _ _ _ _ (message_more (λ text. front.Query text) 1 MESSAGE_LIMIT text_of bytes more)
    (choice_more (eqb kind 100) _ _ _ _ (message_more (λ piece. front.CopyData piece) 0 COPY_DATA_LIMIT bytes_of bytes more)
    (choice_more (eqb kind 99) _ _ _ _ (message_more (λ _. front.CopyDone) 0 MESSAGE_LIMIT nothing_of bytes more)
    (choice_more (eqb kind 102) _ _ _ _ (message_more (λ text. front.CopyFail text) 1 MESSAGE_LIMIT text_of bytes more)
    (choice_more (eqb kind 88) _ _ _ _ (message_more (λ _. front.Terminate) 0 MESSAGE_LIMIT nothing_of bytes more)
    (λ _. refl))))) settled

startup_more : (bytes more : List ℕ) → Settled (judge_startup bytes) → judge_startup (bytes ++ more) ≡ judge_startup bytes
unfolding judge_startup
startup_more bytes more settled = on_frame_more 0 STARTUP_LEAST STARTUP_LIMIT bytes more judge_packet settled

back_more : (bytes more : List ℕ) → Settled (judge_back bytes) → judge_back (bytes ++ more) ≡ judge_back bytes
unfolding judge_back
back_more [] more settled = absurd settled
back_more (kind ∷ bytes) more settled = row_more (back_row kind) bytes more settled

ended_more : (bytes more : List ℕ) → Settled (judge_ended bytes) → judge_ended (bytes ++ more) ≡ judge_ended bytes
ended_more [] more settled = absurd settled
ended_more (kind ∷ bytes) more settled = refl

pub judge_more : (p : Phase) (bytes more : List ℕ) → Settled (judge p bytes) → judge p (bytes ++ more) ≡ judge p bytes
judge_more phase.Startup bytes more settled = startup_more bytes more settled
judge_more phase.Front bytes more settled = front_more bytes more settled
judge_more phase.Back bytes more settled = back_more bytes more settled
judge_more phase.Ended bytes more settled = ended_more bytes more settled

-- ---- what waits is short

short_tests : (short out part : Bool) (f : WireFault) (body : List ℕ)
    → cond short (Ok None) (cond out (Err f) (cond part (Ok None) (Ok (Some body)))) ≡ Ok None
    → (short ≡ true) ⊎ ((out ≡ false) × (part ≡ true))
short_tests true out part f body e = inl refl
short_tests false true part f body e = absurd cc
short_tests false false true f body e = inr (refl, refl)
short_tests false false false f body e = absurd cc

short_length : (least limit : ℕ) (bytes : List ℕ) → 4 ≤ limit → (ltb (length bytes) 4 ≡ true)
    ⊎ (((ltb (number bytes) least || ltb limit (number bytes)) ≡ false) × (ltb (length bytes) (number bytes) ≡ true)) → length bytes < limit
short_length least limit bytes wide (inl few) = omega (arith, ltb-true (length bytes) 4 few)
short_length least limit bytes wide (inr t) =
    let low : number bytes ≤ limit = ltb-false limit (number bytes) (or_parts (ltb (number bytes) least) (ltb limit (number bytes)) t.0).1
    in
    let part : length bytes < number bytes = ltb-true (length bytes) (number bytes) t.1 in
    omega arith

frame_short : (place least limit : ℕ) (bytes : List ℕ) → 4 ≤ limit → frame_of place least limit bytes ≡ Ok None → length bytes < limit
unfolding frame_of
frame_short place least limit bytes wide e =
    short_length least limit bytes wide (short_tests (ltb (length bytes) 4) (ltb (number bytes) least || ltb limit (number bytes))
    (ltb (length bytes) (number bytes)) _ _ e)

read_settled : {A : Type 0} (make : A → Message) (end : ℕ) (r : Result A ℕ) → read_as make end r ≡ taken.Short → ⊥
read_settled make end (Ok x) e = absurd cc
read_settled make end (Err left) e = absurd cc

on_frame_short : (r : Frame) (read : List ℕ → Taken) → ((body : List ℕ) → read body ≡ taken.Short → ⊥) → on_frame r read ≡ taken.Short → r
    ≡ Ok None
on_frame_short (Ok None) read settled e = refl
on_frame_short (Ok (Some body)) read settled e = absurd (settled body e)
on_frame_short (Err f) read settled e = absurd cc

choice_short : (P : Type 0) (b : Bool) (x other : Taken) → (x ≡ taken.Short → P) → (other ≡ taken.Short → P) → cond b x other ≡ taken.Short
    → P
choice_short P true x other f g e = f e
choice_short P false x other f g e = g e

packet_settled : (body : List ℕ) → judge_packet body ≡ taken.Short → ⊥
unfolding judge_packet
packet_settled body e =
    choice_short ⊥ (eqb (number body) 196_608) _ _ (read_settled _ _ (parameters_of (drop 4 body)))
    (choice_short ⊥ (eqb (number body) 80_877_102) _ _ (read_settled _ _ (two_numbers_of (drop 4 body)))
    (choice_short ⊥ (eqb (number body) 80_877_103) _ _ (read_settled _ _ (nothing_of (drop 4 body)))
    (choice_short ⊥ (eqb (number body) 80_877_104) _ _ (read_settled _ _ (nothing_of (drop 4 body)))
    (λ e. absurd cc)))) e

message_short : {A : Type 0} (make : A → Front) (least limit : ℕ) (read : List ℕ → Result A ℕ) (bytes : List ℕ) → 4 ≤ limit
    → judge_message make least limit read bytes ≡ taken.Short → length bytes < limit
message_short make least limit read bytes wide e =
    frame_short 1 (least + 4) limit bytes wide (on_frame_short (frame_of 1 (least + 4) limit bytes) _ (λ body. read_settled _ _ (read body))
    e)

front_short : (bytes : List ℕ) → judge_front bytes ≡ taken.Short → length bytes ≤ MESSAGE_LIMIT
unfolding judge_front
front_short [] e = omega arith
front_short (kind ∷ bytes) e =
    choice_short _ (eqb kind 81) _ _ (λ q. omega (
      arith,
      message_short (λ (text : List ℕ). front.Query text) 1 MESSAGE_LIMIT text_of bytes
          (omega arith) q,
    ))
    (choice_short _ (eqb kind 100) _ _ (λ q. omega (
      arith,
      message_short (λ (piece : List ℕ). front.CopyData piece) 0 COPY_DATA_LIMIT
          bytes_of bytes (omega arith) q,
    ))
    (choice_short _ (eqb kind 99) _ _ (λ q. omega (
      arith,
      message_short (λ (_ : Unit {0}). front.CopyDone) 0 MESSAGE_LIMIT nothing_of bytes
          (omega arith) q,
    ))
    (choice_short _ (eqb kind 102) _ _ (λ q. omega (
      arith,
      message_short (λ (text : List ℕ). front.CopyFail text) 1 MESSAGE_LIMIT text_of
          bytes (omega arith) q,
    ))
    (choice_short _ (eqb kind 88) _ _ (λ q. omega (
      arith,
      message_short (λ (_ : Unit {0}). front.Terminate) 0 MESSAGE_LIMIT nothing_of bytes
          (omega arith) q,
    ))
    (λ q. absurd cc))))) e

-- the limit of a row
abbrev IsLimited : Option Row → Type 0
IsLimited None = Unit {0}
IsLimited (Some r) = (4 ≤ r.limit) × (r.limit ≤ MESSAGE_LIMIT)

row_limited : (least : ℕ) (read : List ℕ → Result Back ℕ) → IsLimited (usual least read)
row_limited least read = (omega arith, omega arith)

choice_limited : (b : Bool) (r other : Option Row) → IsLimited r → IsLimited other → IsLimited (cond b r other)
choice_limited true r other f g = f
choice_limited false r other f g = g

rows_limited : (kind : ℕ) → IsLimited (back_row kind)
rows_limited kind =
    choice_limited (eqb kind 82) _ _ (row_limited 4 authentication_of)
    (choice_limited (eqb kind 83) _ _ (row_limited 2 setting_of)
    (choice_limited (eqb kind 75) _ _ (row_limited 8 key_of)
    (choice_limited (eqb kind 90) _ _ (row_limited 1 status_of)
    (choice_limited (eqb kind 84) _ _ (row_limited 2 description_of)
    (choice_limited (eqb kind 68) _ _ (row_limited 2 data_row_of)
    (choice_limited (eqb kind 67) _ _ (row_limited 1 tag_of)
    (choice_limited (eqb kind 69) _ _ (row_limited 1 error_of)
    (choice_limited (eqb kind 78) _ _ (row_limited 1 notice_of)
    (choice_limited (eqb kind 100) _ _ (omega arith, omega arith)
    (choice_limited (eqb kind 99) _ _ (row_limited 0 copy_done_of)
    (choice_limited (eqb kind 87) _ _ (row_limited 3 copy_both_of) tt)))))))))))

row_short : (r : Option Row) (bytes : List ℕ) → IsLimited r → judge_row r bytes ≡ taken.Short → length bytes < MESSAGE_LIMIT
row_short None bytes limited e = absurd cc
row_short (Some r) bytes limited e =
    let part = frame_short 1 (r.least + 4) r.limit bytes limited.0
    (on_frame_short (frame_of 1 (r.least + 4) r.limit bytes) _ (λ body. read_settled _ _ (r.read body)) e) in
    omega (arith, limited.1)

back_short : (bytes : List ℕ) → judge_back bytes ≡ taken.Short → length bytes ≤ MESSAGE_LIMIT
unfolding judge_back
back_short [] e = omega arith
back_short (kind ∷ bytes) e = omega (arith, row_short (back_row kind) bytes (rows_limited kind) e)

startup_short : (bytes : List ℕ) → judge_startup bytes ≡ taken.Short → length bytes ≤ MESSAGE_LIMIT
unfolding judge_startup
startup_short bytes e = omega (
  arith,
  frame_short 0 STARTUP_LEAST STARTUP_LIMIT bytes (omega arith)
      (on_frame_short (frame_of 0 STARTUP_LEAST STARTUP_LIMIT bytes) judge_packet packet_settled e),
)

ended_short : (bytes : List ℕ) → judge_ended bytes ≡ taken.Short → length bytes ≤ MESSAGE_LIMIT
ended_short [] e = omega arith
ended_short (kind ∷ bytes) e = absurd cc

-- bytes that are waited with leave one byte of the longest message open at least
pub judge_short : (p : Phase) (bytes : List ℕ) → judge p bytes ≡ taken.Short → length bytes ≤ MESSAGE_LIMIT
judge_short phase.Startup bytes e = startup_short bytes e
judge_short phase.Front bytes e = front_short bytes e
judge_short phase.Back bytes e = back_short bytes e
judge_short phase.Ended bytes e = ended_short bytes e
