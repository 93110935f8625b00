-- However a stream is cut, a reader gives the same messages and stops with the same answer.
use Rattle.std.proofs.Common.{◌≡◌, ℕ, ◌+◌, ◌≤◌, Bool, true, false, cond, eqb, List, [], ◌∷◌, ◌++◌, length, take, drop, Option, Some, None, Result, Ok, Err, refl, sym, ap, ◌∙◌, append_assoc, arith}
use Rattle.std.proofs.lemmas.List.{append-nil, length-take, length-drop, drop-append-le}
use Rattle.repl_message.specs.declared.front.Front.{Front}
use Rattle.repl_message.specs.declared.front.Front.TheVariants as front
use Rattle.repl_message.specs.declared.startup.Startup.TheVariants as startup
use Rattle.repl_message.specs.declared.startup.Pair.{Pair}
use Rattle.repl_message.specs.declared.message.Message.{Message}
use Rattle.repl_message.specs.declared.message.Message.TheVariants as message
use Rattle.repl_message.specs.declared.message.Phase.{Phase}
use Rattle.repl_message.specs.declared.message.Phase.TheVariants as phase
use Rattle.repl_message.specs.declared.message.TheConstants.{STARTUP_LEAST, STARTUP_LIMIT, MESSAGE_LIMIT, COPY_DATA_LIMIT}
use Rattle.repl_message.specs.Message.{after}
use Rattle.repl_message.specs.Decoding.{number}
use Rattle.repl_message.specs.Encoding.{capped}
use Rattle.repl_wire.specs.declared.fault.WireFault.{WireFault}
use Rattle.repl_wire.specs.declared.taking.Taken.{Taken}
use Rattle.repl_wire.specs.declared.taking.Taken.TheVariants as taken
use Rattle.repl_wire.specs.declared.reader.Step.{Step}
use Rattle.repl_wire.specs.declared.reader.Step.TheVariants as step
use Rattle.repl_wire.specs.Judging.{Row, back_row, judge_row, judge, judge_startup, judge_front, judge_back, judge_packet, judge_message, read_as, on_frame, frame_of, parameters_of, two_numbers_of, nothing_of, text_of, bytes_of}
use Rattle.repl_wire.specs.Reader.{Reading, Event, Fed, Given, Waits, Runs, Stops, ReadsStream, fed, given, bytes_fed, messages_given, at_place}
use Rattle.repl_wire.proofs.Frames.{whole_of_body}
use Rattle.repl_wire.proofs.Settled.{judge_more}

-- ---- a message takes no more than there is

used_within : (r : Result (Option (List ℕ)) WireFault) (read : List ℕ → Taken) (m : Message) (used most : ℕ)
    → ((body : List ℕ) → r ≡ Ok (Some body) → read body ≡ taken.Whole m used → used ≤ most) → on_frame r read ≡ taken.Whole m used
    → used ≤ most
used_within (Ok None) read m used most each e = absurd cc
used_within (Ok (Some body)) read m used most each e = each body refl e
used_within (Err f) read m used most each e = absurd cc

read_end : {A : Type 0} (make : A → Message) (end : ℕ) (r : Result A ℕ) (m : Message) (used : ℕ) → read_as make end r ≡ taken.Whole m used
    → end ≡ used
read_end make end (Ok x) m used e = cc
read_end make end (Err left) m used e = absurd cc

body_within : (place least limit : ℕ) (bytes body : List ℕ) → frame_of place least limit bytes ≡ Ok (Some body) → 4 ≤ least
    → length body + 4 ≤ length bytes
body_within place least limit bytes body e low =
    let w = whole_of_body place least limit bytes body e in
    omega (arith, w.0.there, w.0.low, ap length w.1, length-drop 4 (take (number bytes) bytes), length-take (number bytes) bytes)

choice_within : (b : Bool) (x other : Taken) (m : Message) (used most : ℕ) → (x ≡ taken.Whole m used → used ≤ most)
    → (other ≡ taken.Whole m used → used ≤ most) → cond b x other ≡ taken.Whole m used → used ≤ most
choice_within true x other m used most f g e = f e
choice_within false x other m used most f g e = g e

message_within : {A : Type 0} (make : A → Front) (least limit : ℕ) (read : List ℕ → Result A ℕ) (kind : ℕ) (bytes : List ℕ) (m : Message)
    (used : ℕ) → judge_message make least limit read bytes ≡ taken.Whole m used → used ≤ length (kind ∷ bytes)
message_within make least limit read kind bytes m used e =
    used_within (frame_of 1 (least + 4) limit bytes) (λ body. read_as (λ x. message.Front (make x)) (length body + 5) (read body)) m used
    (length (kind ∷ bytes))
    (λ body is q. omega (
      arith,
      body_within 1 (least + 4) limit bytes body is (omega arith),
      read_end _ (length body + 5) (read body) m used q,
    )) e

row_within : (r : Option Row) (kind : ℕ) (bytes : List ℕ) (m : Message) (used : ℕ) → judge_row r bytes ≡ taken.Whole m used
    → used ≤ length (kind ∷ bytes)
row_within None kind bytes m used e = absurd cc
row_within (Some r) kind bytes m used e =
    used_within (frame_of 1 (r.least + 4) r.limit bytes) (λ body. read_as (λ n. message.Back n) (length body + 5) (r.read body)) m used
    (length (kind ∷ bytes))
    (λ body is q. omega (
      arith,
      body_within 1 (r.least + 4) r.limit bytes body is (omega arith),
      read_end _ (length body + 5) (r.read body) m used q,
    )) e

front_within : (bytes : List ℕ) (m : Message) (used : ℕ) → judge_front bytes ≡ taken.Whole m used → used ≤ length bytes
unfolding judge_front
front_within [] m used e = absurd cc
front_within (kind ∷ bytes) m used e =
    choice_within (eqb kind 81) _ _ m used _ (message_within (λ (text : List ℕ). front.Query text) 1 MESSAGE_LIMIT text_of kind bytes m
    used)
    (choice_within (eqb kind 100) _ _ m used _ (message_within (λ (piece : List ℕ). front.CopyData piece) 0 COPY_DATA_LIMIT bytes_of kind
    bytes m used)
    (choice_within (eqb kind 99) _ _ m used _ (message_within (λ (_ : Unit {0}). front.CopyDone) 0 MESSAGE_LIMIT nothing_of kind bytes m
    used)
    (choice_within (eqb kind 102) _ _ m used _ (message_within (λ (text : List ℕ). front.CopyFail text) 1 MESSAGE_LIMIT text_of kind bytes m
    used)
    (choice_within (eqb kind 88) _ _ m used _ (message_within (λ (_ : Unit {0}). front.Terminate) 0 MESSAGE_LIMIT nothing_of kind bytes m
    used)
    (λ q. absurd cc))))) e

packet_within : (body : List ℕ) (m : Message) (used : ℕ) → judge_packet body ≡ taken.Whole m used → used ≤ length body + 4
unfolding judge_packet
packet_within body m used e =
    choice_within (eqb (number body) 196_608) _ _ m used _ (λ q. omega (
      arith,
      read_end (λ (pairs : List Pair). message.Startup (startup.Params pairs)) (length body + 4) (parameters_of (drop 4 body)) m
          used q,
    ))
    (choice_within (eqb (number body) 80_877_102) _ _ m used _
    (λ q. omega (
      arith,
      read_end (λ (ids : ℕ × ℕ). message.Startup (startup.Cancel ids.0 ids.1)) (length body + 4)
          (two_numbers_of (drop 4 body)) m used q,
    ))
    (choice_within (eqb (number body) 80_877_103) _ _ m used _
    (λ q. omega (arith, read_end (λ (_ : Unit {0}). message.Startup startup.Ssl) (length body + 4) (nothing_of (drop 4 body)) m used q))
    (choice_within (eqb (number body) 80_877_104) _ _ m used _
    (λ q. omega (arith, read_end (λ (_ : Unit {0}). message.Startup startup.Gss) (length body + 4) (nothing_of (drop 4 body)) m used q))
    (λ q. absurd cc)))) e

startup_within : (bytes : List ℕ) (m : Message) (used : ℕ) → judge_startup bytes ≡ taken.Whole m used → used ≤ length bytes
unfolding judge_startup
startup_within bytes m used e =
    used_within (frame_of 0 STARTUP_LEAST STARTUP_LIMIT bytes) judge_packet m used (length bytes)
    (λ body is q. omega (arith, body_within 0 STARTUP_LEAST STARTUP_LIMIT bytes body is (omega arith), packet_within body m used q)) e

back_within : (bytes : List ℕ) (m : Message) (used : ℕ) → judge_back bytes ≡ taken.Whole m used → used ≤ length bytes
unfolding judge_back
back_within [] m used e = absurd cc
back_within (kind ∷ bytes) m used e = row_within (back_row kind) kind bytes m used e

pub judge_within : (p : Phase) (bytes : List ℕ) (m : Message) (used : ℕ) → judge p bytes ≡ taken.Whole m used → used ≤ length bytes
judge_within phase.Startup bytes m used e = startup_within bytes m used e
judge_within phase.Front bytes m used e = front_within bytes m used e
judge_within phase.Back bytes m used e = back_within bytes m used e
judge_within phase.Ended [] m used e = absurd cc
judge_within phase.Ended (kind ∷ bytes) m used e = absurd cc

-- ---- what the whole stream decides

abbrev Ends : Reading → Step → Type 0
Ends r (step.Message m) = ⊥
Ends r step.NeedMore = Waits r
Ends r (step.Refused f) = (found : WireFault) × (judge r.phase r.rest ≡ taken.Wrong found) × (f ≡ at_place r.place found)
Ends r step.Memory = ⊥

-- these messages stand in front of what was fed, one after another, and past them it ends so
abbrev pub Decides : Reading → List Message → Step → Type 0
Decides r [] a = Ends r a
Decides r (m ∷ ms) a = (used : ℕ) × (judge r.phase r.rest ≡ taken.Whole m used) × Decides (given r m used) ms a

fed_twice : (r : Reading) (x y : List ℕ) → fed (fed r x) y ≡ fed r (x ++ y)
fed_twice r x y = ap (λ (bytes : List ℕ). record { phase = r.phase; place = r.place; rest = bytes }) (append_assoc r.rest x y)

given_fed : (r : Reading) (m : Message) (used : ℕ) (more : List ℕ) → used ≤ length r.rest → given (fed r more) m used
    ≡ fed (given r m used) more
given_fed r m used more within = ap (λ (bytes : List ℕ). record { phase = after r.phase m; place = capped (r.place + used); rest = bytes })
    (drop-append-le used r.rest more within)

whole_more : (r : Reading) (m : Message) (used : ℕ) (more : List ℕ) → judge r.phase r.rest ≡ taken.Whole m used
    → judge r.phase (r.rest ++ more) ≡ taken.Whole m used
whole_more r m used more e = judge_more r.phase r.rest more (rw e tt) ∙ e

wrong_more : (r : Reading) (f : WireFault) (more : List ℕ) → judge r.phase r.rest ≡ taken.Wrong f → judge r.phase (r.rest ++ more)
    ≡ taken.Wrong f
wrong_more r f more e = judge_more r.phase r.rest more (rw e tt) ∙ e

stops_decides : (r : Reading) (unfed : List ℕ) (a : Step) → Stops r unfed a → Ends (fed r unfed) a
stops_decides r unfed (step.Message m) s = absurd s
stops_decides r unfed step.NeedMore s = rw (s.1, append-nil r.rest) s.0
stops_decides r unfed (step.Refused f) s = (s.0, wrong_more r s.0 unfed s.1, s.2)
stops_decides r unfed step.Memory s = absurd s

run_decides : (r : Reading) (events : List Event) (last : Reading) (unfed : List ℕ) (a : Step) → Runs r events last → Stops last unfed a
    → Decides (fed r (bytes_fed events ++ unfed)) (messages_given events) a
run_decides r [] last unfed a runs stops = stops_decides r unfed a (rw (← runs) stops)
run_decides r (Fed piece ∷ events) last unfed a runs stops =
    let others = run_decides (fed r piece) events last unfed a runs.1 stops in
    rw (append_assoc, ← fed_twice r piece (bytes_fed events ++ unfed)) others
run_decides r (Given m ∷ events) last unfed a runs stops =
    let others = run_decides (given r m runs.0) events last unfed a runs.2 stops in (
      runs.0,
      whole_more r m runs.0 (bytes_fed events ++ unfed) runs.1,
      rw (given_fed r m runs.0 (bytes_fed events ++ unfed) (judge_within r.phase r.rest m runs.0 runs.1)) others,
    )

stream_decides : (r : Reading) (stream : List ℕ) (ms : List Message) (a : Step) → ReadsStream r stream ms a → Decides (fed r stream) ms a
stream_decides r stream ms a s = rw (s.parts, s.given) (run_decides r s.events s.last s.unfed a s.runs s.stops)

-- ---- it decides one thing

ends_not_whole : (r : Reading) (a : Step) (m : Message) (used : ℕ) → Ends r a → judge r.phase r.rest ≡ taken.Whole m used → ⊥
ends_not_whole r (step.Message n) m used ends e = ends
ends_not_whole r step.NeedMore m used ends e = let bad = sym ends ∙ e in absurd cc
ends_not_whole r (step.Refused f) m used ends e = let bad = sym ends.1 ∙ e in absurd cc
ends_not_whole r step.Memory m used ends e = ends

ends_one : (r : Reading) (a b : Step) → Ends r a → Ends r b → a ≡ b
ends_one r (step.Message m) b x y = absurd x
ends_one r step.Memory b x y = absurd x
ends_one r a (step.Message m) x y = absurd y
ends_one r a step.Memory x y = absurd y
ends_one r step.NeedMore step.NeedMore x y = refl
ends_one r step.NeedMore (step.Refused f) x y = let bad = sym x ∙ y.1 in absurd cc
ends_one r (step.Refused f) step.NeedMore x y = let bad = sym y ∙ x.1 in absurd cc
ends_one r (step.Refused f) (step.Refused g) x y =
    let same = sym x.1 ∙ y.1 in
    let found : x.0 ≡ y.0 = cc in
    ap step.Refused (x.2 ∙ ap (at_place r.place) found ∙ sym y.2)

pub decides_one : (r : Reading) (ms ns : List Message) (a b : Step) → Decides r ms a → Decides r ns b → (ms ≡ ns) × (a ≡ b)
decides_one r [] [] a b x y = (refl, ends_one r a b x y)
decides_one r [] (n ∷ ns) a b x y = absurd (ends_not_whole r a n y.0 x y.1)
decides_one r (m ∷ ms) [] a b x y = absurd (ends_not_whole r b m x.0 y x.1)
decides_one r (m ∷ ms) (n ∷ ns) a b x y =
    let same = sym x.1 ∙ y.1 in
    let message_is : m ≡ n = cc in
    let used_is : x.0 ≡ y.0 = cc in
    let others = decides_one (given r m x.0) ms ns a b x.2 (rw (message_is, used_is) y.2) in
    (rw (message_is, others.0) refl, others.1)

pub cuts_one : (r : Reading) (stream : List ℕ) (ms ns : List Message) (a b : Step) → ReadsStream r stream ms a → ReadsStream r stream ns b
    → (ms ≡ ns) × (a ≡ b)
cuts_one r stream ms ns a b x y = decides_one (fed r stream) ms ns a b (stream_decides r stream ms a x) (stream_decides r stream ns b y)
