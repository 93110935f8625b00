-- What the head of a frame says of the judgment of the whole: where it is short or wrong, that is the answer, and where
-- all of the frame is there, its body is read.
use Rattle.std.proofs.Common.{◌≡◌, ◌≢◌, ℕ, ◌+◌, ◌-◌, ◌<◌, ◌≤◌, Bool, true, false, cond, ltb, eqb, ◌||◌, List, [], ◌∷◌, length, take, drop, Option, Some, None, Result, Ok, Err, IsSome, refl, sym, ap, subst, ◌∙◌, arith, ◌⊎◌, inl, inr}
use Rattle.std.specs.Option.{option_map}
use Rattle.std.proofs.lemmas.Bool.{ltb-false, ltb-true, le-ltb, lt-ltb, or_parts}
use Rattle.std.proofs.lemmas.List.{length-take, length-drop, take-take}
use Rattle.repl_message.specs.declared.message.Phase.{Phase}
use Rattle.repl_message.specs.declared.message.Phase.TheVariants as phase
use Rattle.repl_message.specs.declared.message.Side.{Side}
use Rattle.repl_message.specs.declared.message.Side.TheVariants as side
use Rattle.repl_message.specs.declared.message.Message.{Message}
use Rattle.repl_message.specs.declared.message.TheConstants.{STARTUP_LEAST, STARTUP_LIMIT, MESSAGE_LIMIT, COPY_DATA_LIMIT}
use Rattle.repl_message.specs.Decoding.{number}
use Rattle.repl_message.proofs.FieldLaws.{IsBytes}
use Rattle.repl_wire.specs.declared.fault.WireFault.{WireFault}
use Rattle.repl_wire.specs.declared.fault.WireFault.TheVariants as fault
use Rattle.repl_wire.specs.declared.head.Head.{Head}
use Rattle.repl_wire.specs.declared.head.Head.TheVariants as head
use Rattle.repl_wire.specs.declared.taking.Taken.{Taken}
use Rattle.repl_wire.specs.declared.taking.Taken.TheVariants as taken
use Rattle.repl_wire.specs.Judging.{Row, back_row, lengths_of, message_of, ended_at, on_frame, frame_of, judge, judge_startup, judge_sent, judge_packet}
use Rattle.repl_wire.specs.Head.{length_at, by_lengths, sent_head, head_of, EndsAt}
use Rattle.repl_wire.specs.Places.{IsFault}
use Rattle.repl_wire.proofs.Frames.{frame_whole}
use Rattle.repl_wire.proofs.Sent.{sent_some, sent_none, sent_empty}
use Rattle.repl_wire.proofs.PlaceLaws.{fault_is}

-- ---- length fields

-- what a length field says of its frame
pub record IsLong (place least limit : ℕ) (bytes : List ℕ) (size : ℕ) : Type 0 where
  pub field : 4 ≤ length bytes
  pub low : least ≤ number bytes
  pub high : number bytes ≤ limit
  pub size_is : size ≡ place + number bytes

framed_tests : (short out : Bool) (g : WireFault) (n size : ℕ) → cond short head.Short (cond out (head.Wrong g) (head.Frame n))
    ≡ head.Frame size → (short ≡ false) × (out ≡ false) × (size ≡ n)
framed_tests true out g n size e = absurd cc
framed_tests false true g n size e = absurd cc
framed_tests false false g n size e = (refl, refl, cc)

wrong_tests : (short out : Bool) (g f : WireFault) (n : ℕ) → cond short head.Short (cond out (head.Wrong g) (head.Frame n))
    ≡ head.Wrong f → (short ≡ false) × (out ≡ true) × (g ≡ f)
wrong_tests true out g f n e = absurd cc
wrong_tests false true g f n e = (refl, refl, cc)
wrong_tests false false g f n e = absurd cc

short_tests : (short out : Bool) (g : WireFault) (n : ℕ) → cond short head.Short (cond out (head.Wrong g) (head.Frame n)) ≡ head.Short
    → short ≡ true
short_tests true out g n e = refl
short_tests false true g n e = absurd cc
short_tests false false g n e = absurd cc

pub length_long : (place least limit : ℕ) (bytes : List ℕ) (size : ℕ) → length_at place least limit bytes ≡ head.Frame size
    → IsLong place least limit bytes size
unfolding length_at
length_long place least limit bytes size e =
    let t = framed_tests (ltb (length bytes) 4) (ltb (number bytes) least || ltb limit (number bytes)) (fault.Length place (number bytes))
    (place + number bytes) size e in
    let o = or_parts _ _ t.1 in
    record { field = ltb-false _ _ t.0; low = ltb-false _ _ o.0; high = ltb-false _ _ o.1; size_is = t.2 }

frame_short : (place least limit : ℕ) (bytes : List ℕ) → length_at place least limit bytes ≡ head.Short
    → frame_of place least limit bytes ≡ Ok None
unfolding length_at frame_of
frame_short place least limit bytes e =
    let t = short_tests (ltb (length bytes) 4) (ltb (number bytes) least || ltb limit (number bytes)) (fault.Length place (number bytes))
    (place + number bytes) e in
    rw t refl

pub frame_refused : (place least limit : ℕ) (bytes : List ℕ) (f : WireFault) → length_at place least limit bytes ≡ head.Wrong f
    → frame_of place least limit bytes ≡ Err f
unfolding length_at frame_of
frame_refused place least limit bytes f e =
    let t = wrong_tests (ltb (length bytes) 4) (ltb (number bytes) least || ltb limit (number bytes)) (fault.Length place (number bytes)) f
    (place + number bytes) e in
    rw (t.0, t.1) (ap Err t.2)

frame_part : (place least limit : ℕ) (bytes : List ℕ) (size : ℕ) → IsLong place least limit bytes size → length bytes < number bytes
    → frame_of place least limit bytes ≡ Ok None
unfolding frame_of
frame_part place least limit bytes size l part =
    rw (le-ltb _ _ l.field, le-ltb _ _ l.low, le-ltb _ _ l.high, lt-ltb _ _ part) refl

-- the bytes in the first places decide
tests_same : (m n : ℕ) → ((m < 4) → (n < 4)) → ((n < 4) → (m < 4)) → ltb m 4 ≡ ltb n 4
tests_same m n to from = by_test (ltb m 4) (ltb n 4) (λ e. ltb-true m 4 e) (λ e. ltb-false m 4 e) (λ e. ltb-true n 4 e)
    (λ e. ltb-false n 4 e)
  where
    by_test : (a b : Bool) → (a ≡ true → m < 4) → (a ≡ false → 4 ≤ m) → (b ≡ true → n < 4) → (b ≡ false → 4 ≤ n) → a ≡ b
    by_test true true a_yes a_no b_yes b_no = refl
    by_test true false a_yes a_no b_yes b_no = absurd (omega (arith, to (a_yes refl), b_no refl))
    by_test false true a_yes a_no b_yes b_no = absurd (omega (arith, from (b_yes refl), a_no refl))
    by_test false false a_yes a_no b_yes b_no = refl

length_first : (n place least limit : ℕ) (bytes : List ℕ) → 4 ≤ n → length_at place least limit (take n bytes)
    ≡ length_at place least limit bytes
unfolding length_at
length_first n place least limit bytes enough =
    let same : number (take n bytes) ≡ number bytes = rw (take-take 4 n bytes enough) refl in
    let short : ltb (length (take n bytes)) 4 ≡ ltb (length bytes) 4 = tests_same _ _ (λ l. omega (arith, length-take n bytes))
    (λ l. omega (arith, length-take n bytes)) in
    rw (same, short) refl

-- ---- messages after the startup

pub by_cases : (o : Option (ℕ × ℕ)) (bytes : List ℕ) (h : Head) → by_lengths o bytes ≡ h
    → ((o ≡ None) × (head.Wrong (fault.Kind 0) ≡ h)) ⊎ ((l : ℕ × ℕ) × (o ≡ Some l) × (length_at 1 l.0 l.1 bytes ≡ h))
by_cases None bytes h e = inl (refl, e)
by_cases (Some l) bytes h e = inr (l, refl, e)

front_low : (q d c f x : Bool) (l : ℕ × ℕ) → cond {A = Option (ℕ × ℕ)} q (Some (5, MESSAGE_LIMIT)) (cond d (Some (4, COPY_DATA_LIMIT))
    (cond c (Some (4, MESSAGE_LIMIT)) (cond f (Some (5, MESSAGE_LIMIT)) (cond x (Some (4, MESSAGE_LIMIT)) None)))) ≡ Some l → 4 ≤ l.0
front_low true d c f x l e = let is : 5 ≡ l.0 = cc in omega (arith, is)
front_low false true c f x l e = let is : 4 ≡ l.0 = cc in omega (arith, is)
front_low false false true f x l e = let is : 4 ≡ l.0 = cc in omega (arith, is)
front_low false false false true x l e = let is : 5 ≡ l.0 = cc in omega (arith, is)
front_low false false false false true l e = let is : 4 ≡ l.0 = cc in omega (arith, is)
front_low false false false false false l e = absurd cc

back_low : (r : Option Row) (l : ℕ × ℕ) → option_map {U = ℕ × ℕ} (λ (x : Row). (x.least + 4, x.limit)) r ≡ Some l → 4 ≤ l.0
back_low None l e = absurd cc
back_low (Some r) l e = let is : r.least + 4 ≡ l.0 = cc in omega (arith, is)

-- the shortest message has a length field
lengths_low : (s : Side) (kind : ℕ) (l : ℕ × ℕ) → lengths_of s kind ≡ Some l → 4 ≤ l.0
lengths_low side.Front kind l e = front_low (eqb kind 81) (eqb kind 100) (eqb kind 99) (eqb kind 102) (eqb kind 88) l e
lengths_low side.Back kind l e = back_low (back_row kind) l e

is_known : {A : Type 0} (o : Option A) (x : A) → o ≡ Some x → IsSome o
is_known None x e = absurd cc
is_known (Some y) x e = refl

-- all of a frame is there, and its body is read so
pub record IsSentFrame (s : Side) (bytes : List ℕ) (size : ℕ) : Type 0 where
  pub kind : ℕ
  pub rest : List ℕ
  pub parts : bytes ≡ kind ∷ rest
  pub known : IsSome (lengths_of s kind)
  pub long : 5 ≤ size
  pub judged : judge_sent s bytes ≡ ended_at size (message_of s kind (take (size - 5) (drop 5 bytes)))

sent_by : (s : Side) (kind : ℕ) (rest : List ℕ) (size : ℕ) (l : ℕ × ℕ) → lengths_of s kind ≡ Some l → IsLong 1 l.0 l.1 rest size
    → size ≤ length (kind ∷ rest) → IsSentFrame s (kind ∷ rest) size
sent_by s kind rest size l known long there =
    let low = lengths_low s kind l known in
    let n = number rest in
    let frame = frame_whole 1 l.0 l.1 rest n refl long.field low long.low long.high (omega (arith, long.size_is, there)) in
    let cut : take (n - 4) (drop 4 rest) ≡ take (size - 5) (drop 4 rest) =
    ap (λ (k : ℕ). take k (drop 4 rest)) (omega (arith, long.size_is)) in
    let len : length (take (size - 5) (drop 4 rest)) + 5 ≡ size = omega (
      arith,
      length-take (size - 5) (drop 4 rest),
      length-drop 4 rest,
      long.size_is,
      long.low,
      low,
      there,
    ) in
    record {
      kind = kind;
      rest = rest;
      parts = refl;
      known = is_known (lengths_of s kind) l known;
      long = omega (arith, long.size_is, long.low, low);
      judged = sent_some s kind rest l known
          ∙ ap (λ r. on_frame r (λ body. ended_at (length body + 5) (message_of s kind body))) frame
          ∙ ap (λ (body : List ℕ). ended_at (length body + 5) (message_of s kind body)) cut
          ∙ ap (λ (k : ℕ). ended_at k (message_of s kind (take (size - 5) (drop 4 rest)))) len;
    }

pub sent_frame : (s : Side) (bytes : List ℕ) (size : ℕ) → sent_head s bytes ≡ head.Frame size → size ≤ length bytes
    → IsSentFrame s bytes size
sent_frame s [] size e there = absurd cc
sent_frame s (kind ∷ rest) size e there =
    elim (by_cases (lengths_of s kind) rest (head.Frame size) e) [
      | inl none ↦ absurd (let bad = none.1 in cc)
      | inr k ↦ sent_by s kind rest size k.0 k.1 (length_long 1 k.0.0 k.0.1 rest size k.2) there
    ]

sent_is : (s : Side) (kind : ℕ) (rest : List ℕ) (l : ℕ × ℕ) (r : Result (Option (List ℕ)) WireFault) → lengths_of s kind ≡ Some l
    → frame_of 1 l.0 l.1 rest ≡ r → judge_sent s (kind ∷ rest)
    ≡ on_frame r (λ body. ended_at (length body + 5) (message_of s kind body))
sent_is s kind rest l r known e =
    sent_some s kind rest l known ∙ ap (λ t. on_frame t (λ body. ended_at (length body + 5) (message_of s kind body))) e

sent_short : (s : Side) (bytes : List ℕ) → sent_head s bytes ≡ head.Short → judge_sent s bytes ≡ taken.Short
sent_short s [] e = sent_empty s [] refl
sent_short s (kind ∷ rest) e =
    elim (by_cases (lengths_of s kind) rest head.Short e) [
      | inl none ↦ absurd (let bad = none.1 in cc)
      | inr k ↦ sent_is s kind rest k.0 (Ok None) k.1 (frame_short 1 k.0.0 k.0.1 rest k.2)
    ]

sent_wrong : (s : Side) (bytes : List ℕ) (f : WireFault) → sent_head s bytes ≡ head.Wrong f → judge_sent s bytes ≡ taken.Wrong f
sent_wrong s [] f e = absurd cc
sent_wrong s (kind ∷ rest) f e =
    elim (by_cases (lengths_of s kind) rest (head.Wrong f) e) [
      | inl none ↦ sent_none s kind rest none.0 ∙ ap taken.Wrong (let same = none.1 in cc)
      | inr k ↦ sent_is s kind rest k.0 (Err f) k.1 (frame_refused 1 k.0.0 k.0.1 rest f k.2)
    ]

sent_part : (s : Side) (bytes : List ℕ) (size : ℕ) → sent_head s bytes ≡ head.Frame size → length bytes < size
    → judge_sent s bytes ≡ taken.Short
sent_part s [] size e part = absurd cc
sent_part s (kind ∷ rest) size e part =
    elim (by_cases (lengths_of s kind) rest (head.Frame size) e) [
      | inl none ↦ absurd (let bad = none.1 in cc)
      | inr k ↦
          let long = length_long 1 k.0.0 k.0.1 rest size k.2 in
          sent_is s kind rest k.0 (Ok None) k.1 (frame_part 1 k.0.0 k.0.1 rest size long (omega (arith, long.size_is, part)))
    ]

ends_at : (size : ℕ) (r : Result Message ℕ) → EndsAt size (ended_at size r)
ends_at size (Ok m) = refl
ends_at size (Err left) = omega arith

sent_first : (s : Side) (bytes : List ℕ) → sent_head s (take 5 bytes) ≡ sent_head s bytes
sent_first s [] = refl
sent_first s (kind ∷ rest) = by_first (lengths_of s kind)
  where
    by_first : (o : Option (ℕ × ℕ)) → by_lengths o (take 4 rest) ≡ by_lengths o rest
    by_first None = refl
    by_first (Some l) = length_first 4 1 l.0 l.1 rest (omega arith)

-- ---- startup packets

pub record IsPacketFrame (bytes : List ℕ) (size : ℕ) : Type 0 where
  pub long : 8 ≤ size
  pub judged : judge_startup bytes ≡ judge_packet (take (size - 4) (drop 4 bytes))

pub packet_frame : (bytes : List ℕ) (size : ℕ) → head_of phase.Startup bytes ≡ head.Frame size → size ≤ length bytes
    → IsPacketFrame bytes size
unfolding judge_startup
packet_frame bytes size e there =
    let l = length_long 0 STARTUP_LEAST STARTUP_LIMIT bytes size e in
    let same : number bytes ≡ size = omega (arith, l.size_is) in
    let n = number bytes in
    let frame = frame_whole 0 STARTUP_LEAST STARTUP_LIMIT bytes n refl l.field (omega arith) l.low l.high (omega (arith, l.size_is, there))
    in
    record {
      long = omega (arith, l.size_is, l.low);
      judged = ap (λ r. on_frame r judge_packet) frame
          ∙ ap (λ (k : ℕ). judge_packet (take (k - 4) (drop 4 bytes))) same;
    }

choice_ends : (size : ℕ) (b : Bool) (x other : Taken) → EndsAt size x → EndsAt size other → EndsAt size (cond b x other)
choice_ends size true x other f g = f
choice_ends size false x other f g = g

packet_ends : (body : List ℕ) → 4 ≤ length body → EndsAt (length body + 4) (judge_packet body)
unfolding judge_packet
packet_ends body long =
    choice_ends (length body + 4) (eqb (number body) 196_608) _ _ (ends_at _ _)
    (choice_ends (length body + 4) (eqb (number body) 80_877_102) _ _ (ends_at _ _)
    (choice_ends (length body + 4) (eqb (number body) 80_877_103) _ _ (ends_at _ _)
    (choice_ends (length body + 4) (eqb (number body) 80_877_104) _ _ (ends_at _ _) (omega (arith, long)))))

startup_is : (bytes : List ℕ) (r : Result (Option (List ℕ)) WireFault) → frame_of 0 STARTUP_LEAST STARTUP_LIMIT bytes ≡ r
    → judge_startup bytes ≡ on_frame r judge_packet
unfolding judge_startup
startup_is bytes r e = ap (λ t. on_frame t judge_packet) e

-- ---- any phase

pub head_short : (p : Phase) (bytes : List ℕ) → head_of p bytes ≡ head.Short → judge p bytes ≡ taken.Short
head_short phase.Startup bytes e = startup_is bytes (Ok None) (frame_short 0 STARTUP_LEAST STARTUP_LIMIT bytes e)
head_short phase.Front bytes e = sent_short side.Front bytes e
head_short phase.Back bytes e = sent_short side.Back bytes e
head_short phase.Ended [] e = refl
head_short phase.Ended (kind ∷ bytes) e = absurd cc

pub head_wrong : (p : Phase) (bytes : List ℕ) (f : WireFault) → head_of p bytes ≡ head.Wrong f → judge p bytes ≡ taken.Wrong f
head_wrong phase.Startup bytes f e = startup_is bytes (Err f) (frame_refused 0 STARTUP_LEAST STARTUP_LIMIT bytes f e)
head_wrong phase.Front bytes f e = sent_wrong side.Front bytes f e
head_wrong phase.Back bytes f e = sent_wrong side.Back bytes f e
head_wrong phase.Ended [] f e = absurd cc
head_wrong phase.Ended (kind ∷ bytes) f e = ap taken.Wrong cc

pub head_part : (p : Phase) (bytes : List ℕ) (size : ℕ) → head_of p bytes ≡ head.Frame size → length bytes < size
    → judge p bytes ≡ taken.Short
head_part phase.Startup bytes size e part =
    let l = length_long 0 STARTUP_LEAST STARTUP_LIMIT bytes size e in
    startup_is bytes (Ok None) (frame_part 0 STARTUP_LEAST STARTUP_LIMIT bytes size l (omega (arith, l.size_is, part)))
head_part phase.Front bytes size e part = sent_part side.Front bytes size e part
head_part phase.Back bytes size e part = sent_part side.Back bytes size e part
head_part phase.Ended [] size e part = absurd cc
head_part phase.Ended (kind ∷ bytes) size e part = absurd cc

sent_whole : (s : Side) (bytes : List ℕ) (size : ℕ) → sent_head s bytes ≡ head.Frame size → size ≤ length bytes
    → EndsAt size (judge_sent s bytes)
sent_whole s bytes size e there =
    let f = sent_frame s bytes size e there in
    subst (EndsAt size) (sym f.judged) (ends_at size (message_of s f.kind (take (size - 5) (drop 5 bytes))))

pub head_whole : (p : Phase) (bytes : List ℕ) (size : ℕ) → head_of p bytes ≡ head.Frame size → size ≤ length bytes
    → EndsAt size (judge p bytes)
head_whole phase.Startup bytes size e there =
    let f = packet_frame bytes size e there in
    let body = take (size - 4) (drop 4 bytes) in
    let len : length body + 4 ≡ size = omega (arith, length-take (size - 4) (drop 4 bytes), length-drop 4 bytes, f.long, there) in
    subst (EndsAt size) (sym f.judged)
    (subst (λ (n : ℕ). EndsAt n (judge_packet body)) len (packet_ends body (omega (arith, len, f.long))))
head_whole phase.Front bytes size e there = sent_whole side.Front bytes size e there
head_whole phase.Back bytes size e there = sent_whole side.Back bytes size e there
head_whole phase.Ended [] size e there = absurd cc
head_whole phase.Ended (kind ∷ bytes) size e there = absurd cc

pub head_first : (p : Phase) (bytes : List ℕ) → head_of p (take 5 bytes) ≡ head_of p bytes
head_first phase.Startup bytes = length_first 5 0 STARTUP_LEAST STARTUP_LIMIT bytes (omega arith)
head_first phase.Front bytes = sent_first side.Front bytes
head_first phase.Back bytes = sent_first side.Back bytes
head_first phase.Ended [] = refl
head_first phase.Ended (kind ∷ bytes) = refl

-- a session that is over has no frame
pub ended_none : (bytes : List ℕ) (size : ℕ) → head_of phase.Ended bytes ≢ head.Frame size
ended_none [] size e = absurd cc
ended_none (kind ∷ bytes) size e = absurd cc

-- a head is refused where the whole is
pub head_fault : (p : Phase) (bytes : List ℕ) (h : Head) (f : WireFault) → IsBytes bytes → h ≡ head_of p bytes → h ≡ head.Wrong f
    → IsFault p bytes f
head_fault p bytes h f fits e wrong = fault_is p bytes f fits (head_wrong p bytes f (sym e ∙ wrong))
