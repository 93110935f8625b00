-- What follows from each step: certificates are sound, released tickets stay, and the last ticket never falls.
use Rattle.std.proofs.Common.{◌≡◌, ◌≢◌, ℕ, zero, suc, ◌<◌, ◌≤◌, Bool, true, false, cond, not, ◌==◌, if◌then◌else◌, List, [], ◌∷◌, ◌++◌, length, map, filter, get_or, All, Contains, Option, Some, None, refl, sym, ap, subst, ◌∙◌, arith}
use Rattle.std.specs.List.{AllZip, AllPairs}
use Rattle.std.proofs.lemmas.Bool.{ne_eqb, eqb-true}
use Rattle.std.proofs.lemmas.List.{length-map}
use Rattle.std.proofs.lemmas.List.Elements.{All-nil, All-cons, All-head, All-tail, All-filter}
use Rattle.std.proofs.lemmas.List.Kept.{AllPairs-cons}
use Rattle.repl_names.specs.StandbyList.{Listing, IsListing}
use Rattle.repl_names.specs.declared.quorum.Mode.{Mode}
use Rattle.repl_names.specs.declared.quorum.Candidate.{Candidate}
use Rattle.repl_names.specs.Quorum.{Met, MetFor, Differ, candidates, position}
use Rattle.repl_names.proofs.Taken.{those_counted}
use Rattle.repl_sync.specs.declared.certificate.Certificate.{Certificate}
use Rattle.repl_sync.specs.declared.session.Entry.{Entry}
use Rattle.repl_sync.specs.declared.holding.Holding.{Holding}
use Rattle.repl_sync.specs.declared.parts.Parts.{Parts}
use Rattle.repl_sync.specs.State.{Session, State, Ticket, Fate, IsState, IsDue, Rests, Prepared, Waiting, Released, Cancelled, cancels, fate_of, standbys, standing, stops, with_fate, without}
use Rattle.repl_sync.specs.Sync.{Event, Reply, Changes, Becomes, Releases, Settles, IsCertificate, IsSound, IsWaiting, SyncStep, Connect, Streaming, StopStreaming, Disconnect, Report, Feedback, SetNames, NewTimeline, Prepare, Wait, WaitCancelled, ToLook, Cancel, CancelAll, Done, Given, Looked, Refused, cancelled_of, cancels_ticket, counted_as}
use Rattle.repl_sync.specs.declared.certificate.Look.TheVariants as look
use Rattle.repl_sync.specs.Inside.{IsKept, candidate_of, session_of, sessions_of, state_of, ticket_of}
use Rattle.repl_sync.proofs.Moved.{Ranked, stands_as}
use Rattle.repl_sync.proofs.Sessions.{all_of_map, all_to_map}

-- ---- certificates

differ_cond : (list : Listing) (b : Bool) (s : Session) (ss : List Session) → All (λ d. d.session ≢ s.number) (map (standing list) ss)
    → Differ (map (standing list) ss) → Differ (map (standing list) (cond b (s ∷ ss) ss))
differ_cond list true s ss apart rest = (apart, rest)
differ_cond list false s ss apart rest = rest

apart_filter : (list : Listing) (n : ℕ) (p : Session → Bool) (ss : List Session) → All (λ d. d.session ≢ n) (map (standing list) ss)
    → All (λ d. d.session ≢ n) (map (standing list) (filter p ss))
apart_filter list n p ss all = all_to_map (standing list) (λ d. d.session ≢ n) (filter p ss)
    (All-filter p (λ s. s.number ≢ n) ss (all_of_map (standing list) (λ d. d.session ≢ n) ss all))

differ_streaming : (list : Listing) (ss : List Session) → Differ (map (standing list) ss) → Differ (standbys list ss)
differ_streaming list [] differ = tt
differ_streaming list (s ∷ ss) differ =
    differ_cond list s.streaming s (filter (λ (x : Session). x.streaming) ss) (apart_filter list s.number (λ x. x.streaming) ss differ.0)
    (differ_streaming list ss differ.1)

sound_each : (list : Listing) (ss : List Session) (m : Mode) (end : ℕ) (cs : List Candidate)
    → All (λ c. Contains (candidates (standbys list ss)) c × (end ≤ position m c)) cs
    → All (IsSound list ss m end) (map (counted_as ss m) cs)
sound_each list ss m end cs all = all_to_map (counted_as ss m) (IsSound list ss m end) cs
    (λ k d l. record { of = (get_or cs k d, (all k d l).0, refl); reaches = (all k d l).1 })

pub sound : (list : Listing) (ss : List Session) (m : Mode) (end : ℕ) (c : Certificate) → IsListing list → Differ (map (standing list) ss)
    → Met list (standbys list ss) m end → IsCertificate list ss m end c
    → (length c.counted ≡ list.number) × All (IsSound list ss m end) c.counted
sound list ss m end c listing differ met cert =
    let cs = cert.counted.0 in
    let those = those_counted list (standbys list ss) cs m end listing (differ_streaming list ss differ) met cert.counted.1 in (
      ap length cert.counted.2 ∙ length-map cs (counted_as ss m) ∙ those.0,
      subst (λ ks. All (IsSound list ss m end) ks) (sym cert.counted.2) (sound_each list ss m end cs those.2),
    )

-- ---- released tickets stay

-- the ticket stays released so
pub record Keeps (t : ℕ) (c : Certificate) (old new : Ticket) : Type 0 where
  pub number : new.number ≡ old.number
  pub fate : old.number ≡ t → old.fate ≡ Released c → new.fate ≡ Released c

some_released : (f : Fate) (c : Certificate) → Some f ≡ Some (Released c) → f ≡ Released c
some_released f c is = cc

keeps_one : (b : Bool) (t : ℕ) (c : Certificate) (x u : Ticket) (r s : Option Fate) → (x.number == t) ≡ b → Keeps t c x u
    → (r ≡ Some (Released c) → s ≡ Some (Released c)) → (if b then Some x.fate else r) ≡ Some (Released c)
    → (if b then Some u.fate else s) ≡ Some (Released c)
keeps_one true t c x u r s e k rest is = ap Some (k.fate (eqb-true x.number t e) (some_released x.fate c is))
keeps_one false t c x u r s e k rest is = rest is

keeps_fate : (t : ℕ) (c : Certificate) (ts us : List Ticket) → AllZip (Keeps t c) ts us → fate_of ts t ≡ Some (Released c)
    → fate_of us t ≡ Some (Released c)
keeps_fate t c [] [] zip is = is
keeps_fate t c [] (u ∷ us) zip is = absurd zip
keeps_fate t c (x ∷ xs) [] zip is = absurd zip
keeps_fate t c (x ∷ xs) (u ∷ us) zip is =
    ap (λ n. if n == t then Some u.fate else fate_of us t) zip.0.number
    ∙ keeps_one (x.number == t) t c x u (fate_of xs t) (fate_of us t) refl zip.0 (keeps_fate t c xs us zip.1) is

settles_keeps : (list : Listing) (ss : List Session) (t : ℕ) (c : Certificate) (ts us : List Ticket) → AllZip (Settles list ss) ts us
    → AllZip (Keeps t c) ts us
settles_keeps list ss t c [] [] zip = tt
settles_keeps list ss t c [] (u ∷ us) zip = absurd zip
settles_keeps list ss t c (x ∷ xs) [] zip = absurd zip
settles_keeps list ss t c (x ∷ xs) (u ∷ us) zip = (
  record { number = zip.0.number; fate = λ _ same. subst (λ f. Becomes list ss f u.fate) same zip.0.fate },
  settles_keeps list ss t c xs us zip.1,
)

cancels_keeps : (t : ℕ) (c : Certificate) (ts : List Ticket) → AllZip (Keeps t c) ts (map cancels_ticket ts)
cancels_keeps t c [] = tt
cancels_keeps t c (x ∷ xs) = (record { number = refl; fate = λ _ same. ap cancels same }, cancels_keeps t c xs)

with_one : (b : Bool) (n t : ℕ) (fate : Fate) (c : Certificate) (x : Ticket) → (x.number == n) ≡ b → (n ≡ t → fate ≡ Released c)
    → Keeps t c x (if b then record x { fate = fate } else x)
with_one true n t fate c x e so = record { number = refl; fate = λ at same. so (sym (eqb-true x.number n e) ∙ at) }
with_one false n t fate c x e so = record { number = refl; fate = λ at same. same }

with_keeps : (n t : ℕ) (fate : Fate) (c : Certificate) (ts : List Ticket) → (n ≡ t → fate ≡ Released c)
    → AllZip (Keeps t c) ts (with_fate n fate ts)
with_keeps n t fate c [] so = tt
with_keeps n t fate c (x ∷ xs) so = (with_one (x.number == n) n t fate c x refl so, with_keeps n t fate c xs so)

without_one : (b : Bool) (n t : ℕ) (x : Ticket) (xs : List Ticket) → (x.number == n) ≡ b → n ≢ t
    → fate_of (cond (not b) (x ∷ without n xs) (without n xs)) t ≡ (if x.number == t then Some x.fate else fate_of (without n xs) t)
without_one true n t x xs e other =
    sym (ap (λ b. if b then Some x.fate else fate_of (without n xs) t)
    (ne_eqb x.number t (λ same. other (sym (eqb-true x.number n e) ∙ same))))
without_one false n t x xs e other = refl

without_other : (n t : ℕ) (ts : List Ticket) → n ≢ t → fate_of (without n ts) t ≡ fate_of ts t
without_other n t [] other = refl
without_other n t (x ∷ xs) other =
    without_one (x.number == n) n t x xs refl other
    ∙ ap (λ r. if x.number == t then Some x.fate else r) (without_other n t xs other)

append_one : (b : Bool) (f : Fate) (g : Fate) (r s : Option Fate) → (r ≡ Some f → s ≡ Some f) → (if b then Some g else r) ≡ Some f
    → (if b then Some g else s) ≡ Some f
append_one true f g r s rest is = is
append_one false f g r s rest is = rest is

append_fate : (t : ℕ) (f : Fate) (ts us : List Ticket) → fate_of ts t ≡ Some f → fate_of (ts ++ us) t ≡ Some f
append_fate t f [] us is = absurd (cc is)
append_fate t f (x ∷ xs) us is = append_one (x.number == t) f x.fate (fate_of xs t) (fate_of (xs ++ us) t) (append_fate t f xs us) is

-- two fates of one ticket are one
one_fate : (ts : List Ticket) (n t : ℕ) (f g : Fate) → fate_of ts n ≡ Some f → fate_of ts t ≡ Some g → n ≡ t → f ≡ g
one_fate ts n t f g is at same = let e : Some f ≡ Some g = sym is ∙ ap (fate_of ts) same ∙ at in cc

prepared_other : (ts : List Ticket) (n t : ℕ) (c : Certificate) → fate_of ts n ≡ Some Prepared → fate_of ts t ≡ Some (Released c)
    → n ≡ t → ⊥
prepared_other ts n t c is at same = let e : Prepared ≡ Released c = one_fate ts n t Prepared (Released c) is at same in absurd (cc e)

cancelled_stays : (n t : ℕ) (f : Fate) (c : Certificate) (ts : List Ticket) → fate_of ts n ≡ Some f → fate_of ts t ≡ Some (Released c)
    → fate_of (cancelled_of n f ts) t ≡ Some (Released c)
cancelled_stays n t Prepared c ts is at = without_other n t ts (prepared_other ts n t c is at) ∙ at
cancelled_stays n t (Waiting end m) c ts is at = keeps_fate t c ts (with_fate n Cancelled ts)
    (with_keeps n t Cancelled c ts (λ same. let e : Waiting end m ≡ Released c = one_fate ts n t (Waiting end m) (Released c) is at same
    in absurd (cc e))) at
cancelled_stays n t (Released d) c ts is at = keeps_fate t c ts (with_fate n (Released d) ts)
    (with_keeps n t (Released d) c ts (λ same. one_fate ts n t (Released d) (Released c) is at same)) at
cancelled_stays n t Cancelled c ts is at = keeps_fate t c ts (with_fate n Cancelled ts)
    (with_keeps n t Cancelled c ts (λ same. let e : Cancelled ≡ Released c = one_fate ts n t Cancelled (Released c) is at same
    in absurd (cc e))) at

begun_stays : (n t : ℕ) (f : Fate) (c : Certificate) (ts : List Ticket) → fate_of ts n ≡ Some Prepared → fate_of ts t ≡ Some (Released c)
    → fate_of (with_fate n f ts) t ≡ Some (Released c)
begun_stays n t f c ts is at = keeps_fate t c ts (with_fate n f ts)
    (with_keeps n t f c ts (λ same. absurd (prepared_other ts n t c is at same))) at

abbrev Stays : ℕ → Certificate → State → Type 0
Stays t c s = fate_of s.tickets t ≡ Some (Released c)

-- the change of an event leaves it so
change_stays : (old : State) (event : Event) (reply : Reply) (mid : State) (t : ℕ) (c : Certificate) → Changes old event reply mid
    → event ≢ ToLook t → Stays t c old → Stays t c mid
change_stays old (Connect n name) Done mid t c h other is = subst (Stays t c) (sym h.1) is
change_stays old (Streaming n) Done mid t c h other is = subst (Stays t c) (sym h.1) is
change_stays old (StopStreaming n) Done mid t c h other is = subst (Stays t c) (sym h.1) is
change_stays old (Disconnect n) Done mid t c h other is = subst (Stays t c) (sym h.1) is
change_stays old (Report n w f a) Done mid t c h other is = subst (Stays t c) (sym h.1) is
change_stays old (Feedback n v) Done mid t c h other is = subst (Stays t c) (sym h.1) is
change_stays old (SetNames list) Done mid t c h other is = subst (Stays t c) (sym h) is
change_stays old NewTimeline Done mid t c h other is = subst (Stays t c) (sym h) is
change_stays old Prepare (Given n) mid t c h other is = subst (Stays t c) (sym h.2)
    (append_fate t (Released c) old.tickets (record { number = n; fate = Prepared } ∷ []) is)
change_stays old (Wait n end m) Done mid t c h other is = subst (Stays t c) (sym h.1) (begun_stays n t (Waiting end m) c old.tickets h.0 is)
change_stays old (WaitCancelled n) Done mid t c h other is = subst (Stays t c) (sym h.1) (begun_stays n t Cancelled c old.tickets h.0 is)
change_stays old (ToLook n) (Looked look.NotYet) mid t c h other is = subst (Stays t c) (sym h.1) is
change_stays old (ToLook n) (Looked look.Unknown) mid t c h other is = subst (Stays t c) (sym h.1) is
change_stays old (ToLook n) (Looked (look.Released d)) mid t c h other is = subst (Stays t c) (sym h.1)
    (without_other n t old.tickets (λ same. other (ap ToLook same)) ∙ is)
change_stays old (ToLook n) (Looked look.Cancelled) mid t c h other is = subst (Stays t c) (sym h.1)
    (without_other n t old.tickets (λ same. other (ap ToLook same)) ∙ is)
change_stays old (Cancel n) Done mid t c h other is = subst (Stays t c) (sym h.2) (cancelled_stays n t h.0 c old.tickets h.1 is)
change_stays old CancelAll Done mid t c h other is = subst (Stays t c) (sym h)
    (keeps_fate t c old.tickets (map cancels_ticket old.tickets) (cancels_keeps t c old.tickets) is)
change_stays old event reply mid t c h other is = absurd h

done_stays : (old : State) (event : Event) (reply : Reply) (new : State) (t : ℕ) (c : Certificate)
    → (mid : State) × Changes old event reply mid × Releases mid new → event ≢ ToLook t → Stays t c old → Stays t c new
done_stays old event reply new t c h other is =
    keeps_fate t c h.0.tickets new.tickets (settles_keeps h.0.list h.0.sessions t c h.0.tickets new.tickets h.2.tickets)
    (change_stays old event reply h.0 t c h.1 other is)

pub stays_released : (old new : State) (event : Event) (reply : Reply) (t : ℕ) (c : Certificate) → SyncStep old event reply new
    → event ≢ ToLook t → Stays t c old → Stays t c new
stays_released old new event (Refused fault) t c h other is = subst (Stays t c) (sym h.1) is
stays_released old new event Done t c h other is = done_stays old event Done new t c h other is
stays_released old new event (Given n) t c h other is = done_stays old event (Given n) new t c h other is
stays_released old new event (Looked answer) t c h other is = done_stays old event (Looked answer) new t c h other is

-- ---- no names

met_anyhow : (names : List (List ℕ)) (list : Listing) (cs : List Candidate) (m : Mode) (end : ℕ) → names ≡ [] → MetFor names list cs m end
met_anyhow [] list cs m end is = tt
met_anyhow (name ∷ names) list cs m end is = absurd (cc is)

waits_not : (list : Listing) (ss : List Session) (f g : Fate) → list.names ≡ [] → Becomes list ss f g → ¬ IsWaiting (Some g)
waits_not list ss (Waiting end m) (Waiting later mode) none b = λ _. b.2 (met_anyhow list.names list (candidates (standbys list ss)) m end
    none)
waits_not list ss Prepared (Waiting later mode) none b = λ _. absurd (cc b)
waits_not list ss (Released c) (Waiting later mode) none b = λ _. absurd (cc b)
waits_not list ss Cancelled (Waiting later mode) none b = λ _. absurd (cc b)
waits_not list ss f Prepared none b = λ w. w
waits_not list ss f (Released c) none b = λ w. w
waits_not list ss f Cancelled none b = λ w. w

none_wait : (list : Listing) (ss : List Session) (ts us : List Ticket) → list.names ≡ [] → AllZip (Settles list ss) ts us
    → All (λ t. ¬ IsWaiting (Some t.fate)) us
none_wait list ss [] [] none zip = All-nil (λ t. ¬ IsWaiting (Some t.fate))
none_wait list ss [] (u ∷ us) none zip = absurd zip
none_wait list ss (t ∷ ts) [] none zip = absurd zip
none_wait list ss (t ∷ ts) (u ∷ us) none zip =
    All-cons (λ x. ¬ IsWaiting (Some x.fate)) u us (waits_not list ss t.fate u.fate none zip.0.fate) (none_wait list ss ts us none zip.1)

pub nobody_waits : (old new : State) → Releases old new → old.list.names ≡ [] → All (λ t. ¬ IsWaiting (Some t.fate)) new.tickets
nobody_waits old new r none = none_wait old.list old.sessions old.tickets new.tickets none r.tickets

-- ---- a new timeline

none_streams : (list : Listing) (ss : List Session) → standbys list (map stops ss) ≡ []
none_streams list [] = refl
none_streams list (s ∷ ss) = none_streams list ss

pub forgets : (old new : State) → SyncStep old NewTimeline Done new → standbys new.list new.sessions ≡ []
forgets old new h =
    ap (standbys new.list) (h.2.sessions ∙ ap (λ (s : State). s.sessions) h.1) ∙ none_streams new.list old.sessions

-- ---- the last ticket

change_rises : (old : State) (event : Event) (reply : Reply) (mid : State) → Changes old event reply mid → old.last ≤ mid.last
change_rises old (Connect n name) Done mid h = omega (arith, ap (λ (s : State). s.last) h.1)
change_rises old (Streaming n) Done mid h = omega (arith, ap (λ (s : State). s.last) h.1)
change_rises old (StopStreaming n) Done mid h = omega (arith, ap (λ (s : State). s.last) h.1)
change_rises old (Disconnect n) Done mid h = omega (arith, ap (λ (s : State). s.last) h.1)
change_rises old (Report n w f a) Done mid h = omega (arith, ap (λ (s : State). s.last) h.1)
change_rises old (Feedback n v) Done mid h = omega (arith, ap (λ (s : State). s.last) h.1)
change_rises old (SetNames list) Done mid h = omega (arith, ap (λ (s : State). s.last) h)
change_rises old NewTimeline Done mid h = omega (arith, ap (λ (s : State). s.last) h)
change_rises old Prepare (Given n) mid h = omega (arith, h.1, ap (λ (s : State). s.last) h.2)
change_rises old (Wait n end m) Done mid h = omega (arith, ap (λ (s : State). s.last) h.1)
change_rises old (WaitCancelled n) Done mid h = omega (arith, ap (λ (s : State). s.last) h.1)
change_rises old (ToLook n) (Looked look.NotYet) mid h = omega (arith, ap (λ (s : State). s.last) h.1)
change_rises old (ToLook n) (Looked look.Unknown) mid h = omega (arith, ap (λ (s : State). s.last) h.1)
change_rises old (ToLook n) (Looked (look.Released d)) mid h = omega (arith, ap (λ (s : State). s.last) h.1)
change_rises old (ToLook n) (Looked look.Cancelled) mid h = omega (arith, ap (λ (s : State). s.last) h.1)
change_rises old (Cancel n) Done mid h = omega (arith, ap (λ (s : State). s.last) h.2)
change_rises old CancelAll Done mid h = omega (arith, ap (λ (s : State). s.last) h)
change_rises old event reply mid h = absurd h

done_rises : (old : State) (event : Event) (reply : Reply) (new : State)
    → (mid : State) × Changes old event reply mid × Releases mid new → old.last ≤ new.last
done_rises old event reply new h = let up = change_rises old event reply h.0 h.1 in omega (arith, h.2.last)

pub rises : (old new : State) (event : Event) (reply : Reply) → SyncStep old event reply new → old.last ≤ new.last
rises old new event (Refused fault) h = omega (arith, ap (λ (s : State). s.last) h.1)
rises old new event Done h = done_rises old event Done new h
rises old new event (Given n) h = done_rises old event (Given n) new h
rises old new event (Looked answer) h = done_rises old event (Looked answer) new h

pub given_above : (old new : State) (t : ℕ) → SyncStep old Prepare (Given t) new → (old.last < t) × (new.last ≡ t)
given_above old new t h =
    let is = h.1.1 in
    (omega arith, h.2.last ∙ ap (λ (s : State). s.last) h.1.2)

-- ---- what the code keeps has what holds of every state

same_standing : (list : Listing) (es : List Entry) → All (Ranked list) es → map (standing list) (sessions_of es) ≡ map candidate_of es
same_standing list [] ranked = refl
same_standing list (e ∷ es) ranked =
    ap (λ c. c ∷ map (standing list) (sessions_of es)) (stands_as list e (All-head (Ranked list) e es ranked))
    ∙ ap (λ cs. e.candidate ∷ cs) (same_standing list es (All-tail (Ranked list) e es ranked))

tickets_in_turn : (hs : List Holding) → AllPairs (λ h i. h.ticket < i.ticket) hs → AllPairs (λ t u. t.number < u.number) (map ticket_of hs)
tickets_in_turn [] turn = λ i j d l m. absurd (omega arith)
tickets_in_turn (h ∷ hs) turn = AllPairs-cons (λ t u. t.number < u.number) (ticket_of h) (map ticket_of hs)
    (all_to_map ticket_of (λ u. h.ticket < u.number) hs (λ k d l. turn zero (suc k) d (omega arith) (omega arith)))
    (tickets_in_turn hs (λ i j d l m. turn (suc i) (suc j) d (omega arith) (omega arith)))

pub kept_state : (p : Parts) → IsKept p → IsState (state_of p)
kept_state p kept = record {
  differ = subst Differ (sym (same_standing p.list p.entries.items kept.ready.ranked)) kept.ready.differ;
  resting = all_to_map session_of Rests p.entries.items kept.ready.resting;
  listing = kept.ready.listing;
  in_turn = tickets_in_turn p.holdings.items kept.ready.in_turn;
  given = all_to_map ticket_of (λ t. t.number ≤ p.last) p.holdings.items kept.ready.given;
  last = kept.ready.last;
  waits = all_to_map ticket_of (λ t. ¬ IsDue p.list (sessions_of p.entries.items) t.fate) p.holdings.items kept.waits;
}

-- ---- a ticket that was answered

gone_one : (b : Bool) (t : ℕ) (x : Ticket) (xs : List Ticket) → (x.number == t) ≡ b → fate_of (without t xs) t ≡ None
    → fate_of (cond (not b) (x ∷ without t xs) (without t xs)) t ≡ None
gone_one true t x xs e rest = rest
gone_one false t x xs e rest = ap (λ b. if b then Some x.fate else fate_of (without t xs) t) e ∙ rest

gone : (t : ℕ) (ts : List Ticket) → fate_of (without t ts) t ≡ None
gone t [] = refl
gone t (x ∷ xs) = gone_one (x.number == t) t x xs refl (gone t xs)

none_one : (b : Bool) (f g : Fate) (r s : Option Fate) → (r ≡ None → s ≡ None) → (if b then Some f else r) ≡ None
    → (if b then Some g else s) ≡ None
none_one true f g r s rest is = absurd (cc is)
none_one false f g r s rest is = rest is

zip_none : (list : Listing) (ss : List Session) (t : ℕ) (ts us : List Ticket) → AllZip (Settles list ss) ts us → fate_of ts t ≡ None
    → fate_of us t ≡ None
zip_none list ss t [] [] zip is = is
zip_none list ss t [] (u ∷ us) zip is = absurd zip
zip_none list ss t (x ∷ xs) [] zip is = absurd zip
zip_none list ss t (x ∷ xs) (u ∷ us) zip is =
    ap (λ n. if n == t then Some u.fate else fate_of us t) zip.0.number
    ∙ none_one (x.number == t) x.fate u.fate (fate_of xs t) (fate_of us t) (zip_none list ss t xs us zip.1) is

pub released_once : (old new : State) (t : ℕ) (c : Certificate) → SyncStep old (ToLook t) (Looked (look.Released c)) new
    → fate_of new.tickets t ≡ None
released_once old new t c h = zip_none h.0.list h.0.sessions t h.0.tickets new.tickets h.2.tickets
    (subst (λ (s : State). fate_of s.tickets t ≡ None) (sym h.1.1) (gone t old.tickets))

pub cancelled_once : (old new : State) (t : ℕ) → SyncStep old (ToLook t) (Looked look.Cancelled) new → fate_of new.tickets t ≡ None
cancelled_once old new t h = zip_none h.0.list h.0.sessions t h.0.tickets new.tickets h.2.tickets
    (subst (λ (s : State). fate_of s.tickets t ≡ None) (sym h.1.1) (gone t old.tickets))
