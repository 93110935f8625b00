-- What a release is due to, and who is counted by it.
use Rattle.std.proofs.Common.{◌≡◌, ℕ, ◌≤◌, Bool, true, false, cond, ◌&&◌, if◌then◌else◌, List, [], ◌∷◌, length, map, take, filter, All, IsPermutation, ◌==◌, vec_capacity, get_or, Some, None, refl, sym, ap, subst, ◌∙◌, arith}
use Rattle.std.proofs.lemmas.List.Elements.{All-head, All-tail, All-filter, filter_agree}
use Rattle.std.proofs.lemmas.List.Sorted.{IsPermutation-sym}
use Rattle.repl_names.specs.StandbyList.{Listing, IsListing, Demands}
use Rattle.repl_names.specs.declared.list.Method.{Method}
use Rattle.repl_names.specs.declared.list.Method.TheVariants as method
use Rattle.repl_names.specs.declared.quorum.Mode.{Mode}
use Rattle.repl_names.specs.declared.quorum.Candidate.{Candidate}
use Rattle.repl_names.specs.Quorum.{Met, CountedFor, InOrder, candidates, counts, eligible, goes_before, reaches}
use Rattle.repl_names.proofs.Quorums.{filter_filter}
use Rattle.repl_sync.specs.declared.certificate.Certificate.{Certificate}
use Rattle.repl_sync.specs.declared.holding.Progress.{Progress}
use Rattle.repl_sync.specs.declared.holding.Progress.TheVariants as progress
use Rattle.repl_sync.specs.declared.holding.Holding.{Holding}
use Rattle.repl_sync.specs.declared.reach.Reach.{Reach}
use Rattle.repl_sync.specs.declared.session.Entry.{Entry}
use Rattle.repl_sync.specs.State.{name_of, standbys, IsDue, Released}
use Rattle.repl_sync.specs.Sync.{Becomes, IsCertificate, counted_as}
use Rattle.repl_sync.specs.Inside.{Bytes, IsBlank, FitsEach, FitsNames, HasRoom, HasRoomFor, IsDueBy, IsLive, IsOrder, IsReach, ReleasesOne, SameByTests, fate_in, is_taken, reach_in, sessions_of, taken}
use Rattle.repl_sync.proofs.Orders.{filter_all}
use Rattle.repl_sync.proofs.Moved.{met_for_moved}

-- ---- names

either_fits : (b : Bool) (n : ℕ) (xs ys : List ℕ) → length xs ≤ n → length ys ≤ n → length (if b then xs else ys) ≤ n
either_fits true n xs ys h i = h
either_fits false n xs ys h i = i

pub fits_names : (es : List Entry) (b : Bytes) → FitsEach es b → FitsNames (sessions_of es) b
fits_names [] b h = λ n. omega arith
fits_names (e ∷ es) b h = λ n.
    let P : Entry → Type 0 = λ x. length x.name ≤ vec_capacity b in
    either_fits (e.candidate.session == n) (vec_capacity b) e.name (name_of (sessions_of es) n) (All-head P e es h)
    (fits_names es b (All-tail P e es h) n)

-- ---- those that are counted

kept_order : (b : Bool) (c : Candidate) (cs : List Candidate) → All (λ d. goes_before c d ≡ true) cs → InOrder cs
    → InOrder (cond b (c ∷ cs) cs)
kept_order true c cs h up = (h, up)
kept_order false c cs h up = up

in_order_filter : (p : Candidate → Bool) (cs : List Candidate) → InOrder cs → InOrder (filter p cs)
in_order_filter p [] up = tt
in_order_filter p (c ∷ cs) up = kept_order (p c) c (filter p cs) (All-filter p (λ d. goes_before c d ≡ true) cs up.0)
    (in_order_filter p cs up.1)

those_eligible : (me : Method) (cs order : List Candidate) (m : Mode) (end : ℕ) → SameByTests cs order
    → IsPermutation (eligible me cs m end) (filter (is_taken me m end) order)
those_eligible method.Any cs order m end same = same (reaches m end)
those_eligible method.First cs order m end same =
    subst (λ xs. IsPermutation xs (filter (λ _. true) order)) (filter_all cs) (same (λ _. true))

counted_for : (names : List (List ℕ)) (list : Listing) (cs order : List Candidate) (m : Mode) (end : ℕ)
    → Demands names list.method list.number → SameByTests cs order → InOrder order
    → CountedFor names list cs m end (taken list order m end)
counted_for [] list cs order m end demands same up = ap (λ n. take n (filter (is_taken list.method m end) order)) demands.1
counted_for (name ∷ names) list cs order m end demands same up = (
  filter (is_taken list.method m end) order,
  those_eligible list.method cs order m end same,
  in_order_filter (is_taken list.method m end) order up,
  refl,
)

pub certifies : (list : Listing) (es : List Entry) (order : List Candidate) (m : Mode) (end : ℕ) (c : Certificate) → IsListing list
    → IsOrder list es order → c.mode ≡ m → c.end ≡ end → c.list ≡ list
    → c.counted ≡ map (counted_as (sessions_of es) m) (taken list order m end) → IsCertificate list (sessions_of es) m end c
certifies list es order m end c listing is mode at force counted = record {
  by_mode = mode;
  at = at;
  in_force = force;
  counted = (
    taken list order m end,
    counted_for list.names list (candidates (standbys list (sessions_of es))) order m end listing.demands is.same is.ordered,
    counted,
  );
}

-- ---- when the list is met

and_itself : (b : Bool) → (b && b) ≡ b
and_itself true = refl
and_itself false = refl

candidates_once : (cs : List Candidate) → candidates (candidates cs) ≡ candidates cs
candidates_once cs = filter_filter counts counts cs ∙ filter_agree (λ c. counts c && counts c) counts (λ c. and_itself (counts c)) cs

same_candidates_in_order : (cs order : List Candidate) → SameByTests (candidates cs) order
    → IsPermutation (candidates cs) (candidates order)
same_candidates_in_order cs order same = subst (λ xs. IsPermutation xs (candidates order)) (candidates_once cs) (same counts)

met_in_order : (list : Listing) (cs order : List Candidate) (m : Mode) (end : ℕ) → SameByTests (candidates cs) order
    → Met list cs m end → Met list order m end
met_in_order list cs order m end same = met_for_moved list (candidates cs) (candidates order) m end (same_candidates_in_order cs order same)

met_as_was : (list : Listing) (cs order : List Candidate) (m : Mode) (end : ℕ) → SameByTests (candidates cs) order
    → Met list order m end → Met list cs m end
met_as_was list cs order m end same = met_for_moved list (candidates order) (candidates cs) m end
    (IsPermutation-sym (candidates cs) (candidates order) (same_candidates_in_order cs order same))

-- ---- one ticket

pub room_of_wait : (list : Listing) (es : List Entry) (h : Holding) (end : ℕ) (m : Mode) → h.progress ≡ progress.Waiting end m
    → HasRoom list es h → HasRoomFor list es h
room_of_wait list es h end m is room = room (subst IsLive (sym is) tt)

-- a wait that is due is released
pub one_released : (list : Listing) (es : List Entry) (order : List Candidate) (r : Reach) (h new : Holding) (w : ℕ × Mode) (p : Progress)
    → IsListing list → IsOrder list es order → ((m : Mode) → IsReach list order m (reach_in r m)) → HasRoom list es h
    → h.progress ≡ p → IsDueBy r p (Some w) → new.ticket ≡ h.ticket → new.progress ≡ progress.Released w.0 w.1 → new.list ≡ h.list
    → new.counted.items ≡ map (counted_as (sessions_of es) w.1) (taken list order w.1 w.0) → ReleasesOne list es h new
one_released list es order r h new w progress.Prepared listing is reach room was due ticket now force counted = absurd due
one_released list es order r h new w (progress.Released e m) listing is reach room was due ticket now force counted = absurd due
one_released list es order r h new w progress.Cancelled listing is reach room was due ticket now force counted = absurd due
one_released list es order r h new w (progress.Waiting end m) listing is reach room was due ticket now force counted =
    let ss = sessions_of es in
    let had = room_of_wait list es h end m was room in
    let met : Met list (standbys list ss) m end = met_as_was list (standbys list ss) order m end is.same ((reach m end due.2).1 due.3) in
    let c : Certificate = record { mode = w.1; end = w.0; list = new.list; counted = new.counted.items } in
    let cert : IsCertificate list ss m end c = certifies list es order m end c listing is due.1 due.0 (force ∙ had.in_force)
    (counted ∙ ap (λ (x : Mode). map (counted_as ss x) (taken list order x w.0)) due.1
    ∙ ap (λ (n : ℕ). map (counted_as ss m) (taken list order m n)) due.0) in
    record {
      ticket = ticket;
      settles = record {
        number = ticket;
        fate = subst (λ (q : Progress). Becomes list ss (fate_in h.progress h) (fate_in q new)) (sym now)
            (subst (λ (q : Progress). Becomes list ss (fate_in q h) (Released c)) (sym was) (met, cert));
      };
      waits = subst (λ (q : Progress). ¬ IsDue list ss (fate_in q new)) (sym now) (λ x. x);
      room = λ live. absurd (subst IsLive now live);
    }

-- any other stays as it is
pub one_left : (list : Listing) (es : List Entry) (order : List Candidate) (r : Reach) (h : Holding) (p : Progress) → IsOrder list es order
    → ((m : Mode) → IsReach list order m (reach_in r m)) → HasRoom list es h → h.progress ≡ p → IsDueBy r p None → ReleasesOne list es h h
one_left list es order r h (progress.Waiting end m) is reach room was due =
    let ss = sessions_of es in
    let missed : ¬ Met list (standbys list ss) m end = λ met. due.1 ((reach m end due.0).0 (met_in_order list (standbys list ss) order m
    end is.same met)) in
    record {
      ticket = refl;
      settles = record {
        number = refl;
        fate = subst (λ (q : Progress). Becomes list ss (fate_in q h) (fate_in q h)) (sym was) (refl, refl, missed);
      };
      waits = subst (λ (q : Progress). ¬ IsDue list ss (fate_in q h)) (sym was) missed;
      room = room;
    }
one_left list es order r h progress.Prepared is reach room was due = record {
  ticket = refl;
  settles = record {
    number = refl;
    fate = subst (λ (q : Progress). Becomes list (sessions_of es) (fate_in q h) (fate_in q h)) (sym was) refl;
  };
  waits = subst (λ (q : Progress). ¬ IsDue list (sessions_of es) (fate_in q h)) (sym was) (λ x. x);
  room = room;
}
one_left list es order r h (progress.Released e m) is reach room was due = record {
  ticket = refl;
  settles = record {
    number = refl;
    fate = subst (λ (q : Progress). Becomes list (sessions_of es) (fate_in q h) (fate_in q h)) (sym was) refl;
  };
  waits = subst (λ (q : Progress). ¬ IsDue list (sessions_of es) (fate_in q h)) (sym was) (λ x. x);
  room = room;
}
one_left list es order r h progress.Cancelled is reach room was due = record {
  ticket = refl;
  settles = record {
    number = refl;
    fate = subst (λ (q : Progress). Becomes list (sessions_of es) (fate_in q h) (fate_in q h)) (sym was) refl;
  };
  waits = subst (λ (q : Progress). ¬ IsDue list (sessions_of es) (fate_in q h)) (sym was) (λ x. x);
  room = room;
}

due_is_live : (r : Reach) (p : Progress) (w : ℕ × Mode) → IsDueBy r p (Some w) → IsLive p
due_is_live r (progress.Waiting end m) w due = tt
due_is_live r progress.Prepared w due = absurd due
due_is_live r (progress.Released end m) w due = absurd due
due_is_live r progress.Cancelled w due = absurd due

-- the room of a ticket that is due
pub blank_names : (list : Listing) (es : List Entry) (r : Reach) (h : Holding) (w : ℕ × Mode) → HasRoom list es h
    → IsDueBy r h.progress (Some w) → All (λ b. IsBlank b × FitsNames (sessions_of es) b) h.names.items
blank_names list es r h w room due = λ k d l.
    let each = (room (due_is_live r h.progress w due)).each k d l in
    (each.0, fits_names es (get_or h.names.items k d) each.1)
