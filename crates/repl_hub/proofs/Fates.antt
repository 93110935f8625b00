-- What a step of sessions and tickets makes of the tickets' fates.
use Rattle.std.proofs.Common.{◌≡◌, ℕ, Bool, true, false, not, ◌==◌, if◌then◌else◌, List, [], ◌∷◌, map, All, Option, Some, sym, subst}
use Rattle.std.proofs.lemmas.List.Elements.{All-nil, All-cons, All-head, All-tail, All-append, All-filter}
use Rattle.repl_names.specs.StandbyList.{Listing}
use Rattle.repl_sync.specs.declared.certificate.Certificate.{Certificate}
use Rattle.repl_sync.specs.declared.certificate.Look.TheVariants as look
use Rattle.repl_sync.specs.State.{Session, State, Ticket, Fate, Prepared, Waiting, Released, Cancelled, cancels, fate_of, is_ticket, with_fate}
use Rattle.repl_sync.specs.Sync.{Event, Reply, Changes, Becomes, Releases, Settles, SyncStep, Connect, Streaming, StopStreaming, Disconnect, Report, Feedback, SetNames, NewTimeline, Prepare, Wait, WaitCancelled, ToLook, Cancel, CancelAll, Done, Given, Looked, Refused, cancelled_of, cancels_ticket}
use Rattle.repl_sync.proofs.Sessions.{all_zip}

-- ---- what holds of each ticket

-- it holds of each fate that does not wait
pub record HoldsOfOthers (P : Fate → Type 0) : Type 0 where
  pub prepared : P Prepared
  pub released : (proof : Certificate) → P (Released proof)
  pub cancelled : P Cancelled

abbrev pub OfEach : (Fate → Type 0) → List Ticket → Type 0
OfEach P tickets = All (λ t. P t.fate) tickets

-- it holds of the wait that the event begins
abbrev pub OfBegun : (Fate → Type 0) → Event → Type 0
OfBegun P (Wait ticket end mode) = P (Waiting end mode)
OfBegun P event = Unit {0}

-- what holds of each holds of the one that is found
found_one : (P : Fate → Type 0) (b : Bool) (f g : Fate) (r : Option Fate) → P f → (r ≡ Some g → P g) → (if b then Some f else r) ≡ Some g → P g
found_one P true f g r here rest is = let same : f ≡ g = cc in subst P same here
found_one P false f g r here rest is = rest is

pub of_found : (P : Fate → Type 0) (ts : List Ticket) (t : ℕ) (f : Fate) → OfEach P ts → fate_of ts t ≡ Some f → P f
of_found P [] t f all is = absurd (cc is)
of_found P (x ∷ xs) t f all is =
    let Q : Ticket → Type 0 = λ u. P u.fate in
    found_one P (x.number == t) x.fate f (fate_of xs t) (All-head Q x xs all) (of_found P xs t f (All-tail Q x xs all)) is

module _ (P : Fate → Type 0) (others : HoldsOfOthers P) where
  of_cancels : (f : Fate) → P (cancels f)
  of_cancels Prepared = others.prepared
  of_cancels (Waiting end m) = others.cancelled
  of_cancels (Released c) = others.released c
  of_cancels Cancelled = others.cancelled

  of_one : (b : Bool) (f : Fate) (x : Ticket) → P f → P x.fate → P (if b then record x { fate = f } else x).fate
  of_one true f x new old = new
  of_one false f x new old = old

  with_each : (n : ℕ) (f : Fate) (ts : List Ticket) → P f → OfEach P ts → OfEach P (with_fate n f ts)
  with_each n f [] new all = All-nil (λ t. P t.fate)
  with_each n f (x ∷ xs) new all =
      let Q : Ticket → Type 0 = λ t. P t.fate in
      All-cons Q (if is_ticket n x then record x { fate = f } else x) (with_fate n f xs)
      (of_one (is_ticket n x) f x new (All-head Q x xs all)) (with_each n f xs new (All-tail Q x xs all))

  cancels_each : (ts : List Ticket) → OfEach P (map cancels_ticket ts)
  cancels_each [] = All-nil (λ t. P t.fate)
  cancels_each (x ∷ xs) = All-cons (λ t. P t.fate) (cancels_ticket x) (map cancels_ticket xs) (of_cancels x.fate) (cancels_each xs)

  cancelled_each : (n : ℕ) (f : Fate) (ts : List Ticket) → OfEach P ts → OfEach P (cancelled_of n f ts)
  cancelled_each n Prepared ts all = All-filter (λ t. not (is_ticket n t)) (λ t. P t.fate) ts all
  cancelled_each n (Waiting end m) ts all = with_each n Cancelled ts others.cancelled all
  cancelled_each n (Released c) ts all = with_each n (Released c) ts (others.released c) all
  cancelled_each n Cancelled ts all = with_each n Cancelled ts others.cancelled all

  changes_each : (old : State) (event : Event) (reply : Reply) (mid : State) → Changes old event reply mid → OfBegun P event
      → OfEach P old.tickets → OfEach P mid.tickets
  changes_each old (Connect n name) Done mid h new all = subst (λ (s : State). OfEach P s.tickets) (sym h.1) all
  changes_each old (Streaming n) Done mid h new all = subst (λ (s : State). OfEach P s.tickets) (sym h.1) all
  changes_each old (StopStreaming n) Done mid h new all = subst (λ (s : State). OfEach P s.tickets) (sym h.1) all
  changes_each old (Disconnect n) Done mid h new all = subst (λ (s : State). OfEach P s.tickets) (sym h.1) all
  changes_each old (Report n w f a) Done mid h new all = subst (λ (s : State). OfEach P s.tickets) (sym h.1) all
  changes_each old (Feedback n v) Done mid h new all = subst (λ (s : State). OfEach P s.tickets) (sym h.1) all
  changes_each old (SetNames list) Done mid h new all = subst (λ (s : State). OfEach P s.tickets) (sym h) all
  changes_each old NewTimeline Done mid h new all = subst (λ (s : State). OfEach P s.tickets) (sym h) all
  changes_each old Prepare (Given n) mid h new all =
      let Q : Ticket → Type 0 = λ t. P t.fate in
      let given : Ticket = record { number = n; fate = Prepared } in
      subst (λ (s : State). OfEach P s.tickets) (sym h.2)
      (All-append Q old.tickets (given ∷ []) all (All-cons Q given [] others.prepared (All-nil Q)))
  changes_each old (Wait n end m) Done mid h new all = subst (λ (s : State). OfEach P s.tickets) (sym h.1)
      (with_each n (Waiting end m) old.tickets new all)
  changes_each old (WaitCancelled n) Done mid h new all = subst (λ (s : State). OfEach P s.tickets) (sym h.1)
      (with_each n Cancelled old.tickets others.cancelled all)
  changes_each old (ToLook n) (Looked look.NotYet) mid h new all = subst (λ (s : State). OfEach P s.tickets) (sym h.1) all
  changes_each old (ToLook n) (Looked look.Unknown) mid h new all = subst (λ (s : State). OfEach P s.tickets) (sym h.1) all
  changes_each old (ToLook n) (Looked (look.Released d)) mid h new all = subst (λ (s : State). OfEach P s.tickets) (sym h.1)
      (All-filter (λ t. not (is_ticket n t)) (λ t. P t.fate) old.tickets all)
  changes_each old (ToLook n) (Looked look.Cancelled) mid h new all = subst (λ (s : State). OfEach P s.tickets) (sym h.1)
      (All-filter (λ t. not (is_ticket n t)) (λ t. P t.fate) old.tickets all)
  changes_each old (Cancel n) Done mid h new all = subst (λ (s : State). OfEach P s.tickets) (sym h.2)
      (cancelled_each n h.0 old.tickets all)
  changes_each old CancelAll Done mid h new all = subst (λ (s : State). OfEach P s.tickets) (sym h) (cancels_each old.tickets)
  changes_each old event reply mid h new all = absurd h

  of_settled : (list : Listing) (ss : List Session) (f g : Fate) → Becomes list ss f g → P f → P g
  of_settled list ss (Waiting end m) (Waiting later mode) b is =
      subst (λ e. P (Waiting e mode)) (sym b.0) (subst (λ k. P (Waiting end k)) (sym b.1) is)
  of_settled list ss (Waiting end m) (Released c) b is = others.released c
  of_settled list ss (Waiting end m) Prepared b is = absurd b
  of_settled list ss (Waiting end m) Cancelled b is = absurd b
  of_settled list ss Prepared g b is = subst P (sym b) is
  of_settled list ss (Released c) g b is = subst P (sym b) is
  of_settled list ss Cancelled g b is = subst P (sym b) is

  releases_each : (mid new : State) → Releases mid new → OfEach P mid.tickets → OfEach P new.tickets
  releases_each mid new r all = all_zip (Settles mid.list mid.sessions) (λ t. P t.fate) (λ t. P t.fate) mid.tickets new.tickets
      (λ x u s is. of_settled mid.list mid.sessions x.fate u.fate s.fate is) r.tickets all

  done_each : (old : State) (event : Event) (reply : Reply) (new : State)
      → (mid : State) × Changes old event reply mid × Releases mid new → OfBegun P event → OfEach P old.tickets → OfEach P new.tickets
  done_each old event reply new h begun all = releases_each h.0 new h.2 (changes_each old event reply h.0 h.1 begun all)

  -- what holds of each ticket, and of a wait that begins, holds of each after a step
  pub step_each : (old new : State) (event : Event) (reply : Reply) → SyncStep old event reply new → OfBegun P event → OfEach P old.tickets
      → OfEach P new.tickets
  step_each old new event (Refused fault) h begun all = subst (λ (s : State). OfEach P s.tickets) (sym h.1) all
  step_each old new event Done h begun all = done_each old event Done new h begun all
  step_each old new event (Given n) h begun all = done_each old event (Given n) new h begun all
  step_each old new event (Looked answer) h begun all = done_each old event (Looked answer) new h begun all

  -- and after a cancel of all waits it holds of each anyhow
  pub cancelled_all : (old new : State) → SyncStep old CancelAll Done new → OfEach P new.tickets
  cancelled_all old new h = releases_each h.0 new h.2 (subst (λ (s : State). OfEach P s.tickets) (sym h.1) (cancels_each old.tickets))
