-- What a step of sessions and tickets makes of one ticket that waits.
use Rattle.std.proofs.Common.{◌≡◌, ◌≢◌, ℕ, ◌⊎◌, Bool, true, false, cond, not, ◌==◌, if◌then◌else◌, List, [], ◌∷◌, ◌++◌, map, Option, Some, inl, inr, refl, sym, ap, subst, ◌∙◌}
use Rattle.std.specs.List.{AllZip}
use Rattle.std.proofs.lemmas.Bool.{ne_eqb, eqb-true}
use Rattle.repl_names.specs.StandbyList.{Listing}
use Rattle.repl_names.specs.declared.quorum.Mode.{Mode}
use Rattle.repl_sync.specs.declared.certificate.Certificate.{Certificate}
use Rattle.repl_sync.specs.declared.certificate.Look.TheVariants as look
use Rattle.repl_sync.specs.State.{Session, State, Ticket, Fate, Prepared, Waiting, Released, Cancelled, fate_of, is_ticket, with_fate, without}
use Rattle.repl_sync.specs.Sync.{Event, Reply, Changes, Becomes, Releases, Settles, SyncStep, Connect, Streaming, StopStreaming, Disconnect, Report, Feedback, SetNames, NewTimeline, Prepare, Wait, WaitCancelled, ToLook, Cancel, CancelAll, Done, Given, Looked, Refused, cancelled_of, cancels_ticket}

-- ---- the fate of a ticket, where another one changes

-- tickets with different fates are two
apart : (ts : List Ticket) (n t : ℕ) (f g : Fate) → (f ≡ g → ⊥) → fate_of ts n ≡ Some f → fate_of ts t ≡ Some g → n ≢ t
apart ts n t f g differ is at same =
    let both : Some f ≡ Some g = sym is ∙ ap (fate_of ts) same ∙ at in
    let one : f ≡ g = cc in differ one

not_here : (b : Bool) (f g : Fate) (r s : Option Fate) → b ≡ false → r ≡ s → (if b then Some f else r) ≡ (if b then Some g else s)
not_here true f g r s other rest = absurd (cc other)
not_here false f g r s other rest = rest

not_both : (x : Ticket) (n t : ℕ) → (x.number == n) ≡ true → n ≢ t → (x.number == t) ≡ false
not_both x n t is other = ne_eqb x.number t (λ same. other (sym (eqb-true x.number n is) ∙ same))

with_other_one : (b : Bool) (n t : ℕ) (f : Fate) (x : Ticket) (r s : Option Fate) → (x.number == n) ≡ b → n ≢ t → r ≡ s
    → (if is_ticket t (if b then record x { fate = f } else x) then Some (if b then record x { fate = f } else x).fate else r)
    ≡ (if is_ticket t x then Some x.fate else s)
with_other_one true n t f x r s is other rest = not_here (x.number == t) f x.fate r s (not_both x n t is other) rest
with_other_one false n t f x r s is other rest = ap (λ o. if x.number == t then Some x.fate else o) rest

with_other : (n t : ℕ) (f : Fate) (ts : List Ticket) → n ≢ t → fate_of (with_fate n f ts) t ≡ fate_of ts t
with_other n t f [] other = refl
with_other n t f (x ∷ xs) other = with_other_one (x.number == n) n t f x (fate_of (with_fate n f xs) t) (fate_of xs t) refl other
    (with_other n t f xs other)

without_other_one : (b : Bool) (n t : ℕ) (x : Ticket) (xs : List Ticket) (s : Option Fate) → (x.number == n) ≡ b → n ≢ t → fate_of xs t ≡ s
    → fate_of (cond (not b) (x ∷ xs) xs) t ≡ (if is_ticket t x then Some x.fate else s)
without_other_one true n t x xs s is other rest =
    rest ∙ sym (ap (λ b. if b then Some x.fate else s) (not_both x n t is other))
without_other_one false n t x xs s is other rest = ap (λ o. if x.number == t then Some x.fate else o) rest

without_other : (n t : ℕ) (ts : List Ticket) → n ≢ t → fate_of (without n ts) t ≡ fate_of ts t
without_other n t [] other = refl
without_other n t (x ∷ xs) other = without_other_one (x.number == n) n t x (without n xs) (fate_of xs t) refl other (without_other n t xs other)

append_one : (b : Bool) (f g : Fate) (r s : Option Fate) → (r ≡ Some f → s ≡ Some f) → (if b then Some g else r) ≡ Some f
    → (if b then Some g else s) ≡ Some f
append_one true f g r s rest is = is
append_one false f g r s rest is = rest is

append_fate : (t : ℕ) (f : Fate) (ts us : List Ticket) → fate_of ts t ≡ Some f → fate_of (ts ++ us) t ≡ Some f
append_fate t f [] us is = absurd (cc is)
append_fate t f (x ∷ xs) us is = append_one (x.number == t) f x.fate (fate_of xs t) (fate_of (xs ++ us) t) (append_fate t f xs us) is

-- ---- where this one may change

-- it has this fate
either_here : (b : Bool) (f g : Fate) (r s : Option Fate) → (r ≡ s) ⊎ (r ≡ Some f)
    → ((if b then Some f else r) ≡ (if b then Some g else s)) ⊎ ((if b then Some f else r) ≡ Some f)
either_here true f g r s rest = inr refl
either_here false f g r s rest = rest

either_there : (b : Bool) (f g : Fate) (r s : Option Fate) → (r ≡ s) ⊎ (r ≡ Some f)
    → ((if b then Some g else r) ≡ (if b then Some g else s)) ⊎ ((if b then Some g else r) ≡ Some f)
either_there true f g r s rest = inl refl
either_there false f g r s rest = rest

with_either_one : (b : Bool) (t : ℕ) (f : Fate) (x : Ticket) (r s : Option Fate) → (r ≡ s) ⊎ (r ≡ Some f)
    → ((if is_ticket t (if b then record x { fate = f } else x) then Some (if b then record x { fate = f } else x).fate else r)
    ≡ (if is_ticket t x then Some x.fate else s))
    ⊎ ((if is_ticket t (if b then record x { fate = f } else x) then Some (if b then record x { fate = f } else x).fate else r) ≡ Some f)
with_either_one true t f x r s rest = either_here (x.number == t) f x.fate r s rest
with_either_one false t f x r s rest = either_there (x.number == t) f x.fate r s rest

with_either : (n t : ℕ) (f : Fate) (ts : List Ticket)
    → (fate_of (with_fate n f ts) t ≡ fate_of ts t) ⊎ (fate_of (with_fate n f ts) t ≡ Some f)
with_either n t f [] = inl refl
with_either n t f (x ∷ xs) = with_either_one (x.number == n) t f x (fate_of (with_fate n f xs) t) (fate_of xs t) (with_either n t f xs)

-- ---- a ticket that waits

-- it waits still, or is cancelled
abbrev pub WaitsOrNot : ℕ → Mode → Option Fate → Type 0
WaitsOrNot end mode found = (found ≡ Some (Waiting end mode)) ⊎ (found ≡ Some Cancelled)

cancels_one : (b : Bool) (x : Ticket) (end : ℕ) (mode : Mode) (r s : Option Fate) → (r ≡ Some (Waiting end mode) → s ≡ Some Cancelled)
    → (if b then Some x.fate else r) ≡ Some (Waiting end mode) → (if b then Some (cancels_ticket x).fate else s) ≡ Some Cancelled
cancels_one true x end mode r s rest is =
    let same : x.fate ≡ Waiting end mode = cc in ap (λ f. Some (cancels_ticket (record { number = x.number; fate = f })).fate) same
cancels_one false x end mode r s rest is = rest is

cancels_it : (t : ℕ) (end : ℕ) (mode : Mode) (ts : List Ticket) → fate_of ts t ≡ Some (Waiting end mode)
    → fate_of (map cancels_ticket ts) t ≡ Some Cancelled
cancels_it t end mode [] is = absurd (cc is)
cancels_it t end mode (x ∷ xs) is =
    cancels_one (x.number == t) x end mode (fate_of xs t) (fate_of (map cancels_ticket xs) t) (cancels_it t end mode xs) is

module _ (t end : ℕ) (mode : Mode) where
  abbrev Waits : List Ticket → Type 0
  Waits ts = fate_of ts t ≡ Some (Waiting end mode)

  abbrev Goes : State → Type 0
  Goes s = WaitsOrNot end mode (fate_of s.tickets t)

  besides : (n : ℕ) (f g : Fate) (ts : List Ticket) → (f ≡ Waiting end mode → ⊥) → fate_of ts n ≡ Some f → Waits ts → Waits (with_fate n g ts)
  besides n f g ts differ is at = with_other n t g ts (apart ts n t f (Waiting end mode) differ is at) ∙ at

  but_for : (n : ℕ) (f : Fate) (ts : List Ticket) → (f ≡ Waiting end mode → ⊥) → fate_of ts n ≡ Some f → Waits ts → Waits (without n ts)
  but_for n f ts differ is at = without_other n t ts (apart ts n t f (Waiting end mode) differ is at) ∙ at

  cancelled_it : (n : ℕ) (f : Fate) (ts : List Ticket) → fate_of ts n ≡ Some f → Waits ts → WaitsOrNot end mode (fate_of (cancelled_of n f ts) t)
  cancelled_it n Prepared ts is at = inl (but_for n Prepared ts (λ same. absurd (cc same)) is at)
  cancelled_it n (Waiting later m) ts is at = elim (with_either n t Cancelled ts) [
    | inl same ↦ inl (same ∙ at)
    | inr ended ↦ inr ended
  ]
  cancelled_it n (Released c) ts is at = inl (besides n (Released c) (Released c) ts (λ same. absurd (cc same)) is at)
  cancelled_it n Cancelled ts is at = inl (besides n Cancelled Cancelled ts (λ same. absurd (cc same)) is at)

  changes_it : (old : State) (event : Event) (reply : Reply) (mid : State) → Changes old event reply mid → Waits old.tickets → Goes mid
  changes_it old (Connect n name) Done mid h at = subst Goes (sym h.1) (inl at)
  changes_it old (Streaming n) Done mid h at = subst Goes (sym h.1) (inl at)
  changes_it old (StopStreaming n) Done mid h at = subst Goes (sym h.1) (inl at)
  changes_it old (Disconnect n) Done mid h at = subst Goes (sym h.1) (inl at)
  changes_it old (Report n w f a) Done mid h at = subst Goes (sym h.1) (inl at)
  changes_it old (Feedback n v) Done mid h at = subst Goes (sym h.1) (inl at)
  changes_it old (SetNames list) Done mid h at = subst Goes (sym h) (inl at)
  changes_it old NewTimeline Done mid h at = subst Goes (sym h) (inl at)
  changes_it old Prepare (Given n) mid h at = subst Goes (sym h.2)
      (inl (append_fate t (Waiting end mode) old.tickets (record { number = n; fate = Prepared } ∷ []) at))
  changes_it old (Wait n later m) Done mid h at = subst Goes (sym h.1)
      (inl (besides n Prepared (Waiting later m) old.tickets (λ same. absurd (cc same)) h.0 at))
  changes_it old (WaitCancelled n) Done mid h at = subst Goes (sym h.1)
      (inl (besides n Prepared Cancelled old.tickets (λ same. absurd (cc same)) h.0 at))
  changes_it old (ToLook n) (Looked look.NotYet) mid h at = subst Goes (sym h.1) (inl at)
  changes_it old (ToLook n) (Looked look.Unknown) mid h at = subst Goes (sym h.1) (inl at)
  changes_it old (ToLook n) (Looked (look.Released d)) mid h at = subst Goes (sym h.1)
      (inl (but_for n (Released d) old.tickets (λ same. absurd (cc same)) h.0 at))
  changes_it old (ToLook n) (Looked look.Cancelled) mid h at = subst Goes (sym h.1)
      (inl (but_for n Cancelled old.tickets (λ same. absurd (cc same)) h.0 at))
  changes_it old (Cancel n) Done mid h at = subst Goes (sym h.2) (cancelled_it n h.0 old.tickets h.1 at)
  changes_it old CancelAll Done mid h at = subst Goes (sym h) (inr (cancels_it t end mode old.tickets at))
  changes_it old event reply mid h at = absurd h

-- ---- and its release

settled_one : (b : Bool) (list : Listing) (ss : List Session) (x u : Ticket) (r s : Option Fate) (f g : Fate) → Becomes list ss x.fate u.fate
    → (r ≡ Some f → s ≡ Some g → Becomes list ss f g) → (if b then Some x.fate else r) ≡ Some f → (if b then Some u.fate else s) ≡ Some g
    → Becomes list ss f g
settled_one true list ss x u r s f g here rest is at =
    let old : x.fate ≡ f = cc in
    let new : u.fate ≡ g = cc in
    subst (λ k. Becomes list ss f k) new (subst (λ k. Becomes list ss k u.fate) old here)
settled_one false list ss x u r s f g here rest is at = rest is at

settled_fate : (list : Listing) (ss : List Session) (t : ℕ) (ts us : List Ticket) (f g : Fate) → AllZip (Settles list ss) ts us
    → fate_of ts t ≡ Some f → fate_of us t ≡ Some g → Becomes list ss f g
settled_fate list ss t [] [] f g zip is at = absurd (cc is)
settled_fate list ss t [] (u ∷ us) f g zip is at = absurd zip
settled_fate list ss t (x ∷ xs) [] f g zip is at = absurd zip
settled_fate list ss t (x ∷ xs) (u ∷ us) f g zip is at =
    settled_one (x.number == t) list ss x u (fate_of xs t) (fate_of us t) f g zip.0.fate (settled_fate list ss t xs us f g zip.1) is
    (subst (λ n. (if n == t then Some u.fate else fate_of us t) ≡ Some g) zip.0.number at)

-- the certificate names the wait
abbrev pub IsOf : ℕ → Mode → Certificate → Type 0
IsOf end mode proof = (proof.end ≡ end) × (proof.mode ≡ mode)

module _ (t end : ℕ) (mode : Mode) (proof : Certificate) where
  abbrev Gets : State → Type 0
  Gets s = fate_of s.tickets t ≡ Some (Released proof)

  released_by : (mid new : State) → WaitsOrNot end mode (fate_of mid.tickets t) → Releases mid new → Gets new → IsOf end mode proof
  released_by mid new (inl waits) r got =
      let b : Becomes mid.list mid.sessions (Waiting end mode) (Released proof) =
      settled_fate mid.list mid.sessions t mid.tickets new.tickets (Waiting end mode) (Released proof) r.tickets waits got in
      (b.1.at, b.1.by_mode)
  released_by mid new (inr ended) r got =
      let b : Becomes mid.list mid.sessions Cancelled (Released proof) =
      settled_fate mid.list mid.sessions t mid.tickets new.tickets Cancelled (Released proof) r.tickets ended got in
      absurd (cc b)

  pub not_twice : (s : State) → fate_of s.tickets t ≡ Some (Waiting end mode) → Gets s → ⊥
  not_twice s waits got = let both : Some (Waiting end mode) ≡ Some (Released proof) = sym waits ∙ got in absurd (cc both)

  done_by : (old : State) (event : Event) (reply : Reply) (new : State) → (mid : State) × Changes old event reply mid × Releases mid new
      → fate_of old.tickets t ≡ Some (Waiting end mode) → Gets new → IsOf end mode proof
  done_by old event reply new h waits got = released_by h.0 new (changes_it t end mode old event reply h.0 h.1 waits) h.2 got

  -- a ticket that waited and is released after a step has a certificate of its wait
  pub step_releases : (old new : State) (event : Event) (reply : Reply) → SyncStep old event reply new
      → fate_of old.tickets t ≡ Some (Waiting end mode) → Gets new → IsOf end mode proof
  step_releases old new event (Refused fault) h waits got = absurd (not_twice old waits (subst Gets h.1 got))
  step_releases old new event Done h waits got = done_by old event Done new h waits got
  step_releases old new event (Given n) h waits got = done_by old event (Given n) new h waits got
  step_releases old new event (Looked answer) h waits got = done_by old event (Looked answer) new h waits got
