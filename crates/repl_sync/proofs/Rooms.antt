-- Room that is taken, and what stands again once it was.
use Rattle.std.proofs.Common.{◌≡◌, ◌≢◌, ℕ, zero, suc, ◌+◌, ◌<◌, ◌≤◌, ◌^◌, ⊎_elim, inl, min, max, set, Bool, true, false, if◌then◌else◌, List, [], ◌∷◌, ◌++◌, length, map, get_or, All, Vec, Global, vec_capacity, refl, sym, ap, subst, ◌∙◌, length-append, arith}
use Rattle.std.specs.List.{AllPairs, AllZip}
use Rattle.std.proofs.lemmas.Bool.{cases_lt}
use Rattle.std.proofs.lemmas.List.{map-append}
use Rattle.std.proofs.lemmas.List.Elements.{All-nil, All-head, All-tail, All-push}
use Rattle.std.proofs.lemmas.List.Quantifiers.{all_pairs_push}
use Rattle.repl_names.specs.StandbyList.{IsListing, Listing, priority_of}
use Rattle.repl_names.specs.declared.quorum.Candidate.{Candidate}
use Rattle.repl_names.specs.Quorum.{Differ}
use Rattle.repl_sync.specs.declared.session.Entry.{Entry}
use Rattle.repl_sync.specs.declared.holding.Progress.{Progress}
use Rattle.repl_sync.specs.declared.holding.Progress.TheVariants as progress
use Rattle.repl_sync.specs.declared.holding.Holding.{Holding}
use Rattle.repl_sync.specs.declared.parts.Parts.{Parts}
use Rattle.repl_sync.specs.State.{Fate, IsDue, Prepared, Rests, Session, Ticket, connected}
use Rattle.repl_sync.specs.Inside.{HasPlaces, HasRoom, HasRoomFor, IsKept, IsLive, IsReady, RankedOne, Refitted, RelistedOne, SameState, candidate_of, countable, entry_of, fate_in, is_live, session_of, sessions_of, state_of, ticket_of, tickets_of, with_list, with_sessions}
use Rattle.repl_sync.proofs.Sessions.{SameSession, all_of_map, all_to_map, all_zip, differ_same}

-- ---- the same sessions and tickets, kept elsewhere

pub kept_moved : (p : Parts) (es : Vec Entry Global) (hs : Vec Holding Global) (order : Vec Candidate Global) → IsKept p
    → es.items ≡ p.entries.items → hs.items ≡ p.holdings.items → vec_capacity p.order ≤ vec_capacity order
    → IsKept (record { entries = es; list = p.list; holdings = hs; last = p.last; order = order })
kept_moved p es hs order kept same held room =
    let sess = λ (P : List Entry → Type 0) (h : P p.entries.items). subst P (sym same) h in
    let tick = λ (P : List Holding → Type 0) (h : P p.holdings.items). subst P (sym held) h in
    record {
      ready = record {
        differ = sess (λ xs. Differ (map candidate_of xs)) kept.ready.differ;
        ranked = sess (λ xs. All (λ e. e.candidate.priority ≡ priority_of p.list.names e.name) xs) kept.ready.ranked;
        resting = sess (λ xs. All (λ e. Rests (session_of e)) xs) kept.ready.resting;
        listing = kept.ready.listing;
        room = sess (λ xs. length xs ≤ vec_capacity order) (omega (arith, kept.ready.room));
        in_turn = tick (λ xs. AllPairs (λ h i. h.ticket < i.ticket) xs) kept.ready.in_turn;
        given = tick (λ xs. All (λ h. h.ticket ≤ p.last) xs) kept.ready.given;
        last = kept.ready.last;
        rooms = tick (λ hs'. All (HasRoom p.list es.items) hs')
            (sess (λ xs. All (HasRoom p.list xs) p.holdings.items) kept.ready.rooms);
      };
      waits = tick (λ hs'. All (λ h. ¬ IsDue p.list (sessions_of es.items) (ticket_of h).fate) hs')
          (sess (λ xs. All (λ h. ¬ IsDue p.list (sessions_of xs) (ticket_of h).fate) p.holdings.items) kept.waits);
    }

-- ---- room that is taken

abbrev pub EachRefitted : ℕ → ℕ → List Holding → List Holding → Type 0
EachRefitted count longest olds news = (k : ℕ) (d : Holding) → k < length olds → Refitted count longest (get_or olds k d) (get_or news k d)

pub same_tickets : (count longest : ℕ) (olds news : List Holding) → length news ≡ length olds → EachRefitted count longest olds news
    → tickets_of news ≡ tickets_of olds
same_tickets count longest [] [] size each = refl
same_tickets count longest [] (i ∷ is) size each = absurd (omega arith)
same_tickets count longest (h ∷ hs) [] size each = absurd (omega arith)
same_tickets count longest (h ∷ hs) (i ∷ is) size each =
    ap (λ t. t ∷ tickets_of is) (each zero h (omega arith)).ticket
    ∙ ap (λ ts. ticket_of h ∷ ts) (same_tickets count longest hs is (omega arith) (λ k d l. each (suc k) d (omega arith)))

-- places for as many, with names as long, are room for the sessions
places_are_room : (list : Listing) (es : List Entry) (count longest : ℕ) (h : Holding) → countable list es ≤ count
    → All (λ e. length e.name ≤ longest) es → (IsLive h.progress → h.list ≡ list) → HasPlaces count longest h → HasRoom list es h
places_are_room list es count longest h few short force places = λ live.
    let p = places live in
    record {
      in_force = force live;
      empty = p.empty;
      counted = omega (arith, p.counted);
      names = omega (arith, p.names);
      each = λ k d l. ((p.each k d l).0, λ i e m. let s = short i e m in let c = (p.each k d l).1 in omega arith);
    }

room_refitted : (list : Listing) (es : List Entry) (count longest : ℕ) (old new : Holding) → countable list es ≤ count
    → All (λ e. length e.name ≤ longest) es → HasRoom list es old → Refitted count longest old new → HasRoom list es new
room_refitted list es count longest old new few short room r = ⊎_elim
    (λ same. subst (HasRoom list es) (sym same) room)
    (λ places. places_are_room list es count longest new few short
    (λ live. r.in_force ∙ (room (subst IsLive r.progress live)).in_force) places)
    r.places

pub kept_refitted : (p : Parts) (hs : Vec Holding Global) (order : Vec Candidate Global) (count longest : ℕ) → IsKept p
    → countable p.list p.entries.items ≤ count → All (λ e. length e.name ≤ longest) p.entries.items
    → length hs.items ≡ length p.holdings.items → EachRefitted count longest p.holdings.items hs.items
    → vec_capacity p.order ≤ vec_capacity order
    → IsKept (record { entries = p.entries; list = p.list; holdings = hs; last = p.last; order = order })
kept_refitted p hs order count longest kept few short size each more =
    let at = λ (k : ℕ) (d : Holding) (l : k < length hs.items). each k d (omega arith) in
    record {
      ready = record {
        differ = kept.ready.differ;
        ranked = kept.ready.ranked;
        resting = kept.ready.resting;
        listing = kept.ready.listing;
        room = omega (arith, kept.ready.room);
        in_turn = λ i j d l m.
            let a = (at i d (omega arith)).number in
            let b = (at j d m).number in
            let t = kept.ready.in_turn i j d l (omega arith) in
            omega arith;
        given = λ k d l. let a = (at k d l).number in let g = kept.ready.given k d (omega arith) in omega arith;
        last = kept.ready.last;
        rooms = λ k d l. room_refitted p.list p.entries.items count longest (get_or p.holdings.items k d) (get_or hs.items k d) few short
            (kept.ready.rooms k d (omega arith)) (at k d l);
      };
      waits = λ k d l. subst (λ t. ¬ IsDue p.list (sessions_of p.entries.items) t.fate) (sym (at k d l).ticket) (kept.waits k d (omega
          arith));
    }

-- ---- a ticket more

pub kept_prepared : (p : Parts) (hs : Vec Holding Global) (h : Holding) (last : ℕ) → IsKept p → last ≡ p.last + 1 → last < 2 ^ 64
    → h.ticket ≡ last → h.progress ≡ progress.Prepared → HasRoom p.list p.entries.items h → hs.items ≡ p.holdings.items ++ h ∷ []
    → IsKept (record { entries = p.entries; list = p.list; holdings = hs; last = last; order = p.order })
kept_prepared p hs h last kept next low ticket prepared room is =
    let olds = p.holdings.items in
    let all = λ (P : Holding → Type 0) (a : All P olds) (one : P h). subst (λ xs. All P xs) (sym is) (All-push P olds h a one) in
    record {
      ready = record {
        differ = kept.ready.differ;
        ranked = kept.ready.ranked;
        resting = kept.ready.resting;
        listing = kept.ready.listing;
        room = kept.ready.room;
        in_turn = subst (λ xs. AllPairs (λ i j. i.ticket < j.ticket) xs) (sym is)
            (all_pairs_push (λ i j. i.ticket < j.ticket) olds h kept.ready.in_turn
            (λ k d l. let g = kept.ready.given k d l in omega arith));
        given = all (λ i. i.ticket ≤ last) (λ k d l. let g = kept.ready.given k d l in omega arith) (omega arith);
        last = low;
        rooms = all (HasRoom p.list p.entries.items) kept.ready.rooms room;
      };
      waits = all (λ i. ¬ IsDue p.list (sessions_of p.entries.items) (ticket_of i).fate) kept.waits
          (subst (λ (q : Progress). ¬ IsDue p.list (sessions_of p.entries.items) (fate_in q h)) (sym prepared) (λ due. due));
    }

pub prepared_more : (hs more : List Holding) (h : Holding) (t : ℕ) → more ≡ hs ++ h ∷ [] → h.ticket ≡ t → h.progress ≡ progress.Prepared
    → tickets_of more ≡ tickets_of hs ++ record { number = t; fate = Prepared } ∷ []
prepared_more hs more h t is ticket prepared =
    ap tickets_of is ∙ map-append ticket_of hs (h ∷ [])
    ∙ ap (λ (n : ℕ). tickets_of hs ++ record { number = n; fate = fate_in h.progress h } ∷ []) ticket
    ∙ ap (λ (q : Progress). tickets_of hs ++ record { number = t; fate = fate_in q h } ∷ []) prepared

-- ---- a session more

differ_push : (es : List Entry) (e : Entry) → Differ (map candidate_of es) → All (λ x. x.candidate.session ≢ e.candidate.session) es
    → Differ (map candidate_of (es ++ e ∷ []))
differ_push [] e differ other = (All-nil (λ c. c.session ≢ e.candidate.session), tt)
differ_push (x ∷ xs) e differ other = (
  all_to_map candidate_of (λ c. c.session ≢ x.candidate.session) (xs ++ e ∷ [])
      (All-push (λ y. y.candidate.session ≢ x.candidate.session) xs e
      (all_of_map candidate_of (λ c. c.session ≢ x.candidate.session) xs differ.0)
      (λ same. All-head (λ y. y.candidate.session ≢ e.candidate.session) x xs other (sym same))),
  differ_push xs e differ.1 (All-tail (λ y. y.candidate.session ≢ e.candidate.session) x xs other),
)

pub ready_connected : (p : Parts) (es : Vec Entry Global) (n : ℕ) (name : List ℕ) (count longest : ℕ) → IsKept p
    → es.items ≡ p.entries.items ++ entry_of n name p.list ∷ [] → All (λ x. x.candidate.session ≢ n) p.entries.items
    → length p.entries.items + 1 ≤ vec_capacity p.order → All (HasPlaces count longest) p.holdings.items
    → min p.list.number (length p.entries.items + 1) ≤ count → All (λ e. length e.name ≤ longest) p.entries.items → length name ≤ longest
    → IsReady (record { entries = es; list = p.list; holdings = p.holdings; last = p.last; order = p.order })
ready_connected p es n name count longest kept is other room places few short fits =
    let olds = p.entries.items in
    let e = entry_of n name p.list in
    let size : length es.items ≡ length olds + 1 = ap length is ∙ length-append olds (e ∷ []) in
    let all = λ (P : Entry → Type 0) (a : All P olds) (one : P e). subst (λ xs. All P xs) (sym is) (All-push P olds e a one) in
    let count' : countable p.list es.items ≤ count = subst (λ m. min p.list.number m ≤ count) (sym size) few in
    record {
      differ = subst (λ xs. Differ (map candidate_of xs)) (sym is) (differ_push olds e kept.ready.differ other);
      ranked = all (λ x. x.candidate.priority ≡ priority_of p.list.names x.name) kept.ready.ranked refl;
      resting = all (λ x. Rests (session_of x)) kept.ready.resting (λ _. record { written = refl; flushed = refl; applied = refl });
      listing = kept.ready.listing;
      room = omega arith;
      in_turn = kept.ready.in_turn;
      given = kept.ready.given;
      last = kept.ready.last;
      rooms = λ k d l. places_are_room p.list es.items count longest (get_or p.holdings.items k d) count'
          (all (λ x. length x.name ≤ longest) short fits) (λ live. (kept.ready.rooms k d l live).in_force) (places k d l);
    }

-- ---- one ticket after another

at_set : {X : Type 0} (xs : List X) (i : ℕ) (v d : X) → i < length xs → get_or (set xs i v) i d ≡ v
at_set [] i v d l = absurd (omega arith)
at_set (x ∷ xs) zero v d l = refl
at_set (x ∷ xs) (suc i) v d l = at_set xs i v d (omega arith)

off_set : {X : Type 0} (xs : List X) (i k : ℕ) (v d : X) → k ≢ i → get_or (set xs i v) k d ≡ get_or xs k d
off_set [] i k v d other = refl
off_set (x ∷ xs) zero zero v d other = absurd (other refl)
off_set (x ∷ xs) zero (suc k) v d other = refl
off_set (x ∷ xs) (suc i) zero v d other = refl
off_set (x ∷ xs) (suc i) (suc k) v d other = off_set xs i k v d (λ same. other (ap suc same))

pub same_place : {X : Type 0} (xs : List X) (i : ℕ) (d e : X) → i < length xs → get_or xs i d ≡ get_or xs i e
same_place [] i d e l = absurd (omega arith)
same_place (x ∷ xs) zero d e l = refl
same_place (x ∷ xs) (suc i) d e l = same_place xs i d e (omega arith)

-- what holds of the first i pairs and of the next one, where only that one was changed
pub pairs_more : {X : Type 0} (R : X → X → Type 0) (olds nows : List X) (i : ℕ) (read new : X) → i < length nows
    → ((k : ℕ) (d : X) → k < i → R (get_or olds k d) (get_or nows k d)) → ((k : ℕ) (d : X) → i ≤ k → get_or nows k d ≡ get_or olds k d)
    → read ≡ get_or nows i read → R read new → (k : ℕ) (d : X) → k < i + 1 → R (get_or olds k d) (get_or (set nows i new) k d)
pairs_more R olds nows i read new l done left at now k d m = ⊎_elim
    (λ less. subst (λ y. R (get_or olds k d) y) (sym (off_set nows i k new d (λ same. absurd (omega arith)))) (done k d less))
    (λ no. let same : k ≡ i = omega arith in
    let old : read ≡ get_or olds i d = at ∙ same_place nows i read d l ∙ left i d (omega arith) in
    let here : R (get_or olds i d) (get_or (set nows i new) i d) =
    subst (λ y. R (get_or olds i d) y) (sym (at_set nows i new d l)) (subst (λ x. R x new) old now) in
    subst (λ n. R (get_or olds n d) (get_or (set nows i new) n d)) (sym same) here)
    (cases_lt k i)

pub ones_more : {X : Type 0} (P : X → Type 0) (nows : List X) (i : ℕ) (new : X) → i < length nows
    → ((k : ℕ) (d : X) → k < i → P (get_or nows k d)) → P new → (k : ℕ) (d : X) → k < i + 1 → P (get_or (set nows i new) k d)
ones_more P nows i new l done now k d m = ⊎_elim
    (λ less. subst P (sym (off_set nows i k new d (λ same. absurd (omega arith)))) (done k d less))
    (λ no. let same : k ≡ i = omega arith in
    subst (λ n. P (get_or (set nows i new) n d)) (sym same) (subst P (sym (at_set nows i new d l)) now))
    (cases_lt k i)

pub left_more : {X : Type 0} (olds nows : List X) (i : ℕ) (new : X) → ((k : ℕ) (d : X) → i ≤ k → get_or nows k d ≡ get_or olds k d)
    → (k : ℕ) (d : X) → i + 1 ≤ k → get_or (set nows i new) k d ≡ get_or olds k d
left_more olds nows i new left k d m = off_set nows i k new d (λ same. absurd (omega arith)) ∙ left k d (omega arith)

refitted_itself : (count longest : ℕ) (h : Holding) → Refitted count longest h h
refitted_itself count longest h = record { ticket = refl; number = refl; progress = refl; in_force = refl; places = inl refl }

-- where a loop over tickets ends early, those after are as they were
pub refitted_all : (count longest : ℕ) (olds nows : List Holding) (i : ℕ) → ((k : ℕ) (d : Holding) → k < i
    → Refitted count longest (get_or olds k d) (get_or nows k d))
    → ((k : ℕ) (d : Holding) → i ≤ k → get_or nows k d ≡ get_or olds k d) → EachRefitted count longest olds nows
refitted_all count longest olds nows i done left k d m = ⊎_elim
    (λ less. done k d less)
    (λ past. subst (λ y. Refitted count longest (get_or olds k d) y) (sym (left k d past)) (refitted_itself count longest (get_or olds
    k d)))
    (cases_lt k i)

pub below_max : (x a b m : ℕ) → x ≤ a → m ≡ max a b → x ≤ m
below_max x a b m h is = grind arith

pub below_max_right : (a b m : ℕ) → m ≡ max a b → b ≤ m
below_max_right a b m is = grind arith

-- what it stands for with a session more
pub connected_state : (p q : Parts) (es : Vec Entry Global) (n : ℕ) (name : List ℕ) → SameState p q
    → es.items ≡ q.entries.items ++ entry_of n name q.list ∷ []
    → state_of (record { entries = es; list = q.list; holdings = q.holdings; last = q.last; order = q.order })
    ≡ with_sessions p (sessions_of p.entries.items ++ connected n name ∷ [])
connected_state p q es n name same is =
    let sessions : sessions_of es.items ≡ sessions_of p.entries.items ++ connected n name ∷ [] =
    ap sessions_of is ∙ map-append session_of q.entries.items (entry_of n name q.list ∷ [])
    ∙ ap (λ (v : Vec Entry Global). sessions_of v.items ++ connected n name ∷ []) same.entries in
    ap (λ (ss : List Session). record { sessions = ss; list = q.list; tickets = tickets_of q.holdings.items; last = q.last }) sessions
    ∙ ap (λ (l : Listing). record {
      sessions = sessions_of p.entries.items ++ connected n name ∷ [];
      list = l;
      tickets = tickets_of q.holdings.items;
      last = q.last;
    }) same.list
    ∙ ap (λ (ts : List Ticket). record {
      sessions = sessions_of p.entries.items ++ connected n name ∷ [];
      list = p.list;
      tickets = ts;
      last = q.last;
    }) same.tickets
    ∙ ap (λ (n' : ℕ). record {
      sessions = sessions_of p.entries.items ++ connected n name ∷ [];
      list = p.list;
      tickets = tickets_of p.holdings.items;
      last = n';
    }) same.last

-- ---- another list

abbrev pub EachRanked : Listing → List Entry → List Entry → Type 0
EachRanked list olds news = (k : ℕ) (d : Entry) → k < length olds → RankedOne list (get_or olds k d) (get_or news k d)

abbrev pub EachRelisted : Listing → List Holding → List Holding → Type 0
EachRelisted list olds news = (k : ℕ) (d : Holding) → k < length olds → RelistedOne list (get_or olds k d) (get_or news k d)

pub zip_ranked : (list : Listing) (es fs : List Entry) → length fs ≡ length es → EachRanked list es fs → AllZip (RankedOne list) es fs
zip_ranked list [] [] size each = tt
zip_ranked list [] (f ∷ fs) size each = absurd (omega arith)
zip_ranked list (e ∷ es) [] size each = absurd (omega arith)
zip_ranked list (e ∷ es) (f
    ∷ fs) size each = (each zero e (omega arith), zip_ranked list es fs (omega arith) (λ k d l. each (suc k) d (omega arith)))

zip_sessions : (list : Listing) (es fs : List Entry) → AllZip (RankedOne list) es fs → AllZip SameSession es fs
zip_sessions list [] [] zip = tt
zip_sessions list [] (f ∷ fs) zip = absurd zip
zip_sessions list (e ∷ es) [] zip = absurd zip
zip_sessions list (e ∷ es) (f ∷ fs) zip = (ap (λ (s : Session). s.number) zip.0.session, zip_sessions list es fs zip.1)

pub sessions_ranked : (list : Listing) (es fs : List Entry) → AllZip (RankedOne list) es fs → sessions_of fs ≡ sessions_of es
sessions_ranked list [] [] zip = refl
sessions_ranked list [] (f ∷ fs) zip = absurd zip
sessions_ranked list (e ∷ es) [] zip = absurd zip
sessions_ranked list (e ∷ es) (f ∷ fs) zip =
    ap (λ s. s ∷ sessions_of fs) zip.0.session ∙ ap (λ ss. session_of e ∷ ss) (sessions_ranked list es fs zip.1)

live_true : (p : Progress) → IsLive p → is_live p ≡ true
live_true progress.Prepared live = refl
live_true (progress.Waiting end m) live = refl
live_true (progress.Released end m) live = absurd live
live_true progress.Cancelled live = absurd live

relisted_number : (b : Bool) (list : Listing) (h : Holding) → (if b then record h { list = list } else h).ticket ≡ h.ticket
relisted_number true list h = refl
relisted_number false list h = refl

relisted_progress : (b : Bool) (list : Listing) (h : Holding) → (if b then record h { list = list } else h).progress ≡ h.progress
relisted_progress true list h = refl
relisted_progress false list h = refl

relisted_fate : (p : Progress) (list : Listing) (h : Holding) → fate_in p (if is_live p then record h { list = list } else h) ≡ fate_in p h
relisted_fate progress.Prepared list h = refl
relisted_fate (progress.Waiting end m) list h = refl
relisted_fate (progress.Released end m) list h = refl
relisted_fate progress.Cancelled list h = refl

relisted_ticket : (list : Listing) (h new : Holding) → RelistedOne list h new → ticket_of new ≡ ticket_of h
relisted_ticket list h new is =
    let made : Holding = if is_live h.progress then record h { list = list } else h in
    ap (λ (x : Holding). ticket_of x) is
    ∙ ap (λ (n : ℕ). record { number = n; fate = fate_in made.progress made }) (relisted_number (is_live h.progress) list h)
    ∙ ap (λ (q : Progress). record { number = h.ticket; fate = fate_in q made }) (relisted_progress (is_live h.progress) list h)
    ∙ ap (λ (f : Fate). record { number = h.ticket; fate = f }) (relisted_fate h.progress list h)

pub tickets_relisted : (list : Listing) (olds news : List Holding) → length news ≡ length olds → EachRelisted list olds news
    → tickets_of news ≡ tickets_of olds
tickets_relisted list [] [] size each = refl
tickets_relisted list [] (i ∷ is) size each = absurd (omega arith)
tickets_relisted list (h ∷ hs) [] size each = absurd (omega arith)
tickets_relisted list (h ∷ hs) (i ∷ is) size each =
    ap (λ t. t ∷ tickets_of is) (relisted_ticket list h i (each zero h (omega arith)))
    ∙ ap (λ ts. ticket_of h ∷ ts) (tickets_relisted list hs is (omega arith) (λ k d l. each (suc k) d (omega arith)))

room_listed : (list : Listing) (es : List Entry) (count longest : ℕ) (h : Holding) → countable list es ≤ count
    → All (λ e. length e.name ≤ longest) es → HasPlaces count longest h → IsLive h.progress → HasRoomFor list es (record h { list = list })
room_listed list es count longest h few short places live =
    let p = places live in
    record {
      in_force = refl;
      empty = p.empty;
      counted = omega (arith, p.counted);
      names = omega (arith, p.names);
      each = λ k d l. ((p.each k d l).0, λ i e m. let s = short i e m in let c = (p.each k d l).1 in omega arith);
    }

room_relisted : (list : Listing) (es : List Entry) (count longest : ℕ) (h new : Holding) → countable list es ≤ count
    → All (λ e. length e.name ≤ longest) es → HasPlaces count longest h → RelistedOne list h new → HasRoom list es new
room_relisted list es count longest h new few short places is = λ live.
    let was : IsLive h.progress = subst IsLive (ap (λ (x : Holding). x.progress) is ∙ relisted_progress (is_live h.progress) list h) live in
    let made : new ≡ record h { list = list } = is ∙ ap (λ b. if b then record h { list = list } else h) (live_true h.progress was) in
    subst (HasRoomFor list es) (sym made) (room_listed list es count longest h few short places was)

pub ready_renamed : (q : Parts) (es : Vec Entry Global) (hs : Vec Holding Global) (list : Listing) (count longest : ℕ) → IsKept q
    → IsListing list → length es.items ≡ length q.entries.items → EachRanked list q.entries.items es.items
    → length hs.items ≡ length q.holdings.items → EachRelisted list q.holdings.items hs.items
    → min list.number (length q.entries.items) ≤ count → All (λ e. length e.name ≤ longest) q.entries.items
    → All (HasPlaces count longest) q.holdings.items
    → IsReady (record { entries = es; list = list; holdings = hs; last = q.last; order = q.order })
ready_renamed q es hs list count longest kept listing size ranks held lists few short places =
    let olds = q.entries.items in
    let zip = zip_ranked list olds es.items size ranks in
    let at = λ (k : ℕ) (d : Holding) (l : k < length hs.items). lists k d (omega arith) in
    let number = λ (k : ℕ) (d : Holding) (l : k < length hs.items).
    ap (λ (x : Holding). x.ticket) (at k d l)
    ∙ relisted_number (is_live (get_or q.holdings.items k d).progress) list (get_or q.holdings.items k d) in
    let short' : All (λ e. length e.name ≤ longest) es.items = all_zip (RankedOne list) (λ e. length e.name ≤ longest) (λ e. length e.name
    ≤ longest) olds es.items
    (λ x y r le. subst (λ n. length n ≤ longest) (sym (ap (λ (s : Session). s.name) r.session)) le) zip short in
    record {
      differ = differ_same olds es.items (zip_sessions list olds es.items zip) kept.ready.differ;
      ranked = λ k d l. (ranks k d (omega arith)).priority;
      resting = all_zip (RankedOne list) (λ e. Rests (session_of e)) (λ e. Rests (session_of e)) olds es.items
          (λ x y r rests. subst Rests (sym r.session) rests) zip kept.ready.resting;
      listing = listing;
      room = omega (arith, kept.ready.room);
      in_turn = λ i j d l m.
          let a : (get_or hs.items i d).ticket ≡ (get_or q.holdings.items i d).ticket = number i d (omega arith) in
          let b : (get_or hs.items j d).ticket ≡ (get_or q.holdings.items j d).ticket = number j d m in
          let t = kept.ready.in_turn i j d l (omega arith) in
          omega arith;
      given = λ k d l.
          let a : (get_or hs.items k d).ticket ≡ (get_or q.holdings.items k d).ticket = number k d l in
          let g = kept.ready.given k d (omega arith) in
          omega arith;
      last = kept.ready.last;
      rooms = λ k d l. room_relisted list es.items count longest (get_or q.holdings.items k d) (get_or hs.items k d)
          (subst (λ n. min list.number n ≤ count) (sym size) few) short' (places k d (omega arith)) (at k d l);
    }

pub renamed_state : (p q : Parts) (es : Vec Entry Global) (hs : Vec Holding Global) (list : Listing) → SameState p q
    → length es.items ≡ length q.entries.items → EachRanked list q.entries.items es.items
    → length hs.items ≡ length q.holdings.items → EachRelisted list q.holdings.items hs.items
    → state_of (record { entries = es; list = list; holdings = hs; last = q.last; order = q.order }) ≡ with_list p list
renamed_state p q es hs list same size ranks held lists =
    let sessions : sessions_of es.items ≡ sessions_of p.entries.items =
    sessions_ranked list q.entries.items es.items (zip_ranked list q.entries.items es.items size ranks)
    ∙ ap (λ (v : Vec Entry Global). sessions_of v.items) same.entries in
    let tickets : tickets_of hs.items ≡ tickets_of p.holdings.items =
    tickets_relisted list q.holdings.items hs.items held lists ∙ same.tickets in
    ap (λ (ss : List Session). record { sessions = ss; list = list; tickets = tickets_of hs.items; last = q.last }) sessions
    ∙ ap (λ (ts : List Ticket). record { sessions = sessions_of p.entries.items; list = list; tickets = ts; last = q.last }) tickets
    ∙ ap (λ (n : ℕ). record { sessions = sessions_of p.entries.items; list = list; tickets = tickets_of p.holdings.items; last = n })
    same.last

-- ---- the last of a list

get_or-append_left : {X : Type 0} (xs ys : List X) (k : ℕ) (d : X) → k < length xs → get_or (xs ++ ys) k d ≡ get_or xs k d
get_or-append_left [] ys k d l = absurd (omega arith)
get_or-append_left (x ∷ xs) ys zero d l = refl
get_or-append_left (x ∷ xs) ys (suc k) d l = get_or-append_left xs ys k d (omega arith)

get_or-append_last : {X : Type 0} (xs : List X) (x : X) → get_or (xs ++ x ∷ []) (length xs) x ≡ x
get_or-append_last [] x = refl
get_or-append_last (y ∷ ys) x = get_or-append_last ys x

pub all_front : {X : Type 0} (P : X → Type 0) (xs front : List X) (x : X) → xs ≡ front ++ x ∷ [] → All P xs → All P front
all_front P xs front x is all = λ k d l.
    let whole : All P (front ++ x ∷ []) = subst (λ ys. All P ys) is all in
    subst P (get_or-append_left front (x ∷ []) k d l) (whole k d (omega (arith, length-append front (x ∷ []))))

pub all_last : {X : Type 0} (P : X → Type 0) (xs front : List X) (x : X) → xs ≡ front ++ x ∷ [] → All P xs → P x
all_last P xs front x is all =
    let whole : All P (front ++ x ∷ []) = subst (λ ys. All P ys) is all in
    subst P (get_or-append_last front x) (whole (length front) x (omega (arith, length-append front (x ∷ []))))

pub least_of_max : (a b n m count : ℕ) → m ≡ max a b → count ≡ min m n → min b n ≤ count
least_of_max a b n m count is was = grind arith
