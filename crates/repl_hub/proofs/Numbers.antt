-- Which numbers sessions have after a step.
use Rattle.std.proofs.Common.{◌≡◌, ℕ, Bool, true, false, if◌then◌else◌, List, [], ◌∷◌, ◌++◌, map, max, Result, Ok, Err, refl, ap, ◌∙◌}
use Rattle.repl_sync.specs.State.{Session, State, changed, connected, is_numbered, reports, starts, stops, tells}
use Rattle.repl_sync.specs.Sync as sync
use Rattle.repl_sync.specs.Sync.{SyncStep, done}
use Rattle.repl_sync.specs.declared.fault.SyncFault.{SyncFault}
use Rattle.repl_sync.specs.declared.session.FeedbackValue.{FeedbackValue}

abbrev pub numbers : List Session → List ℕ
numbers sessions = map (λ session. session.number) sessions

-- a change of a session leaves its number
abbrev pub Leaves : (Session → Session) → Type 0
Leaves change = (s : Session) → (change s).number ≡ s.number

one : (n : ℕ) (change : Session → Session) → Leaves change → (s : Session) (b : Bool)
    → (if b then change s else s).number ≡ s.number
one n change leaves s true = leaves s
one n change leaves s false = refl

pub changed_numbers : (n : ℕ) (change : Session → Session) → Leaves change → (sessions : List Session)
    → numbers (changed n change sessions) ≡ numbers sessions
changed_numbers n change leaves [] = refl
changed_numbers n change leaves (s ∷ ss) =
    ap (λ k. k ∷ numbers (changed n change ss)) (one n change leaves s (is_numbered n s))
    ∙ ap (λ rest. s.number ∷ rest) (changed_numbers n change leaves ss)

pub mapped_numbers : (change : Session → Session) → Leaves change → (sessions : List Session)
    → numbers (map change sessions) ≡ numbers sessions
mapped_numbers change leaves [] = refl
mapped_numbers change leaves (s ∷ ss) =
    ap (λ k. k ∷ numbers (map change ss)) (leaves s) ∙ ap (λ rest. s.number ∷ rest) (mapped_numbers change leaves ss)

-- after a new timeline, and where waits are cancelled
pub of_timeline : (old new : State) → SyncStep old sync.NewTimeline sync.Done new → numbers new.sessions ≡ numbers old.sessions
of_timeline old new step =
    ap numbers (step.2.sessions ∙ ap (λ (s : State). s.sessions) step.1) ∙ mapped_numbers stops (λ s. refl) old.sessions

pub of_cancels : (old new : State) → SyncStep old sync.CancelAll sync.Done new → numbers new.sessions ≡ numbers old.sessions
of_cancels old new step = ap numbers (step.2.sessions ∙ ap (λ (s : State). s.sessions) step.1)

-- after a step that is refused, or changes one session
of_change : (n : ℕ) (change : Session → Session) → Leaves change → (old mid new : State)
    → mid ≡ record old { sessions = changed n change old.sessions } → new.sessions ≡ mid.sessions
    → numbers new.sessions ≡ numbers old.sessions
of_change n change leaves old mid new is same =
    ap numbers (same ∙ ap (λ (s : State). s.sessions) is) ∙ changed_numbers n change leaves old.sessions

of_refused : (old new : State) → new ≡ old → numbers new.sessions ≡ numbers old.sessions
of_refused old new is = ap (λ (s : State). numbers s.sessions) is

pub of_streaming : (old new : State) (n : ℕ) (result : Result (Unit {0}) SyncFault) → SyncStep old (sync.Streaming n) (done result) new
    → numbers new.sessions ≡ numbers old.sessions
of_streaming old new n (Ok x) step = of_change n starts (λ s. refl) old step.0 new step.1.1 step.2.sessions
of_streaming old new n (Err e) step = of_refused old new step.1

pub of_stop : (old new : State) (n : ℕ) (result : Result (Unit {0}) SyncFault) → SyncStep old (sync.StopStreaming n) (done result) new
    → numbers new.sessions ≡ numbers old.sessions
of_stop old new n (Ok x) step = of_change n stops (λ s. refl) old step.0 new step.1.1 step.2.sessions
of_stop old new n (Err e) step = of_refused old new step.1

reports_leaves : (w f a : ℕ) → Leaves (reports w f a)
reports_leaves w f a s = by_case s.streaming
  where
    by_case : (b : Bool) → (if b then record s { written = max s.written w; flushed = max s.flushed f; applied = max s.applied a } else s).number ≡ s.number
    by_case true = refl
    by_case false = refl

pub of_report : (old new : State) (n w f a : ℕ) (result : Result (Unit {0}) SyncFault) → SyncStep old (sync.Report n w f a) (done result) new
    → numbers new.sessions ≡ numbers old.sessions
of_report old new n w f a (Ok x) step = of_change n (reports w f a) (reports_leaves w f a) old step.0 new step.1.1 step.2.sessions
of_report old new n w f a (Err e) step = of_refused old new step.1

pub of_feedback : (old new : State) (n : ℕ) (value : FeedbackValue) (result : Result (Unit {0}) SyncFault)
    → SyncStep old (sync.Feedback n value) (done result) new → numbers new.sessions ≡ numbers old.sessions
of_feedback old new n value (Ok x) step = of_change n (tells value) (λ s. refl) old step.0 new step.1.1 step.2.sessions
of_feedback old new n value (Err e) step = of_refused old new step.1

-- one more
appended : (xs : List Session) (s : Session) → numbers (xs ++ s ∷ []) ≡ numbers xs ++ s.number ∷ []
appended [] s = refl
appended (x ∷ xs) s = ap (λ rest. x.number ∷ rest) (appended xs s)

pub of_connect : (old new : State) (n : ℕ) (name : List ℕ) → SyncStep old (sync.Connect n name) sync.Done new
    → numbers new.sessions ≡ numbers old.sessions ++ n ∷ []
of_connect old new n name step =
    ap numbers (step.2.sessions ∙ ap (λ (s : State). s.sessions) step.1.1) ∙ appended old.sessions (connected n name)
