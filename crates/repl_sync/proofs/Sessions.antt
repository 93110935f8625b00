-- Sessions after one of them was changed, or all of them, or one is gone.
use Rattle.std.proofs.Common.{◌≡◌, ◌≢◌, ℕ, zero, suc, ◌<◌, ◌≤◌, true, false, cond, not, ◌||◌, ◌==◌, if◌then◌else◌, List, [], ◌∷◌, length, map, filter, get_or, set, take, drop, All, Vec, Global, vec_capacity, refl, sym, ap, subst, ◌∙◌, eq-eqb, arith}
use Rattle.std.specs.List.{AllZip, remove}
use Rattle.std.proofs.lemmas.Bool.{ne_eqb}
use Rattle.std.proofs.Math.Bool.{or-true}
use Rattle.std.proofs.lemmas.List.Elements.{All-nil, All-cons, All-head, All-tail, All-append, All-take, All-drop, All-weaker}
use Rattle.std.proofs.lemmas.List.Folds.{list_any_none}
use Rattle.repl_names.specs.StandbyList.{Listing, priority_of}
use Rattle.repl_names.specs.Quorum.{Differ}
use Rattle.repl_sync.specs.declared.session.Entry.{Entry}
use Rattle.repl_sync.specs.declared.holding.Holding.{Holding}
use Rattle.repl_sync.specs.declared.parts.Parts.{Parts}
use Rattle.repl_sync.specs.State.{Session, Rests, changed, is_numbered, knows, stops}
use Rattle.repl_sync.specs.Inside.{Alike, AllStopped, Bytes, FitsEach, HasRoom, IsReady, candidate_of, countable, session_of, sessions_of}

-- ---- all of one list, from all of another

pub all_zip : {X Y : Type 0} (R : X → Y → Type 0) (P : X → Type 0) (Q : Y → Type 0) (xs : List X) (ys : List Y)
    → ((x : X) (y : Y) → R x y → P x → Q y) → AllZip R xs ys → All P xs → All Q ys
all_zip R P Q [] [] by zip all = All-nil Q
all_zip R P Q [] (y ∷ ys) by zip all = absurd zip
all_zip R P Q (x ∷ xs) [] by zip all = absurd zip
all_zip R P Q (x ∷ xs) (y ∷ ys) by zip all =
    All-cons Q y ys (by x y zip.0 (All-head P x xs all)) (all_zip R P Q xs ys by zip.1 (All-tail P x xs all))

pub same_size : {X Y : Type 0} (R : X → Y → Type 0) (xs : List X) (ys : List Y) → AllZip R xs ys → length ys ≡ length xs
same_size R [] [] zip = refl
same_size R [] (y ∷ ys) zip = absurd zip
same_size R (x ∷ xs) [] zip = absurd zip
same_size R (x ∷ xs) (y ∷ ys) zip = let rest = same_size R xs ys zip.1 in omega arith

pub all_of_map : {X Y : Type 0} (f : X → Y) (P : Y → Type 0) (xs : List X) → All P (map f xs) → All (λ x. P (f x)) xs
all_of_map f P [] all = All-nil (λ x. P (f x))
all_of_map f P (x ∷ xs) all = All-cons (λ y. P (f y)) x xs (All-head P (f x) (map f xs) all) (all_of_map f P xs (All-tail P (f x) (map f
    xs) all))

pub all_to_map : {X Y : Type 0} (f : X → Y) (P : Y → Type 0) (xs : List X) → All (λ x. P (f x)) xs → All P (map f xs)
all_to_map f P [] all = All-nil P
all_to_map f P (x ∷ xs) all = All-cons P (f x) (map f xs) (All-head (λ y. P (f y)) x xs all) (all_to_map f P xs (All-tail (λ y. P (f y)) x
    xs all))

pub all_remove : {X : Type 0} (P : X → Type 0) (xs : List X) (i : ℕ) → All P xs → All P (remove xs i)
all_remove P xs i all = All-append P (take i xs) (drop (suc i) xs) (All-take P i xs all) (All-drop P (suc i) xs all)

-- ---- room

-- who has room for some sessions has room for fewer and shorter names
pub room_less : (list : Listing) (es fs : List Entry) (h : Holding) → length fs ≤ length es
    → ((b : Bytes) → FitsEach es b → FitsEach fs b) → HasRoom list es h → HasRoom list fs h
room_less list es fs h few fits room = λ live.
    let had = room live in
    let less : countable list fs ≤ countable list es = grind arith in
    record {
      in_force = had.in_force;
      empty = had.empty;
      counted = omega arith;
      names = omega arith;
      each = λ k d l. ((had.each k d l).0, fits (get_or h.names.items k d) (had.each k d l).1);
    }

-- ---- sessions that are alike

abbrev pub SameSession : Entry → Entry → Type 0
SameSession old new = new.candidate.session ≡ old.candidate.session

pub differ_same : (es fs : List Entry) → AllZip SameSession es fs → Differ (map candidate_of es) → Differ (map candidate_of fs)
differ_same [] [] zip differ = tt
differ_same [] (f ∷ fs) zip differ = absurd zip
differ_same (e ∷ es) [] zip differ = absurd zip
differ_same (e ∷ es) (f ∷ fs) zip differ = (
  all_to_map candidate_of (λ c. c.session ≢ f.candidate.session) fs
      (all_zip SameSession (λ x. x.candidate.session ≢ e.candidate.session) (λ y. y.candidate.session ≢ f.candidate.session) es fs
      (λ x y same ne is. ne (sym same ∙ is ∙ zip.0)) zip.1
      (all_of_map candidate_of (λ c. c.session ≢ e.candidate.session) es differ.0)),
  differ_same es fs zip.1 differ.1,
)

sessions_alike : (es fs : List Entry) → AllZip Alike es fs → AllZip SameSession es fs
sessions_alike [] [] zip = tt
sessions_alike [] (f ∷ fs) zip = absurd zip
sessions_alike (e ∷ es) [] zip = absurd zip
sessions_alike (e ∷ es) (f ∷ fs) zip = (zip.0.session, sessions_alike es fs zip.1)

abbrev Ranked : Listing → Entry → Type 0
Ranked list e = e.candidate.priority ≡ priority_of list.names e.name

pub ready_alike : (p : Parts) (es : Vec Entry Global) → IsReady p → AllZip Alike p.entries.items es.items
    → IsReady (record { entries = es; list = p.list; holdings = p.holdings; last = p.last; order = p.order })
ready_alike p es ready zip =
    let olds = p.entries.items in
    let size = same_size Alike olds es.items zip in
    record {
      differ = differ_same olds es.items (sessions_alike olds es.items zip) ready.differ;
      ranked = all_zip Alike (Ranked p.list) (Ranked p.list) olds es.items
          (λ x y alike is. alike.priority ∙ is ∙ ap (priority_of p.list.names) (sym alike.name)) zip ready.ranked;
      resting = all_zip Alike (λ e. Rests (session_of e)) (λ e. Rests (session_of e)) olds es.items (λ x y alike is. alike.rests) zip
          ready.resting;
      listing = ready.listing;
      room = omega (arith, ready.room);
      in_turn = ready.in_turn;
      given = ready.given;
      last = ready.last;
      rooms = λ k d l. room_less p.list olds es.items (get_or p.holdings.items k d) (omega arith)
          (λ b fits. all_zip Alike (λ e. length e.name ≤ vec_capacity b) (λ e. length e.name ≤ vec_capacity b) olds es.items
          (λ x y alike le. subst (λ n. length n ≤ vec_capacity b) (sym alike.name) le) zip fits) (ready.rooms k d l);
    }

alike_itself : (e : Entry) → Rests (session_of e) → Alike e e
alike_itself e rests = record { session = refl; priority = refl; name = refl; rests = rests }

alike_all : (es : List Entry) → All (λ e. Rests (session_of e)) es → AllZip Alike es es
alike_all [] resting = tt
alike_all (e ∷ es) resting = (
  alike_itself e (All-head (λ x. Rests (session_of x)) e es resting),
  alike_all es (All-tail (λ x. Rests (session_of x)) e es resting),
)

pub alike_set : (es : List Entry) (i : ℕ) (e new : Entry) → All (λ x. Rests (session_of x)) es → e ≡ get_or es i e → Alike e new
    → AllZip Alike es (set es i new)
alike_set [] i e new resting at alike = tt
alike_set (x ∷ xs) zero e new resting at alike = (
  subst (λ (y : Entry). Alike y new) at alike,
  alike_all xs (All-tail (λ y. Rests (session_of y)) x xs resting),
)
alike_set (x ∷ xs) (suc i) e new resting at alike = (
  alike_itself x (All-head (λ y. Rests (session_of y)) x xs resting),
  alike_set xs i e new (All-tail (λ y. Rests (session_of y)) x xs resting) at alike,
)

-- ---- one is changed

pub known_at : (es : List Entry) (i n : ℕ) → i < length es → ((d : Entry) → (get_or es i d).candidate.session ≡ n)
    → knows (sessions_of es) n ≡ true
known_at [] i n l at = absurd (omega arith)
known_at (e ∷ es) zero n l at = ap (λ b. b || knows (sessions_of es) n) (eq-eqb e.candidate.session n (at e))
known_at (e ∷ es) (suc i) n l at =
    ap (λ b. e.candidate.session == n || b) (known_at es i n (omega arith) at) ∙ or-true (e.candidate.session == n)

pub known_not : (es : List Entry) (n : ℕ) → All (λ e. e.candidate.session ≢ n) es → knows (sessions_of es) n ≡ false
known_not es n all = list_any_none (is_numbered n) (sessions_of es)
    (all_to_map session_of (λ s. is_numbered n s ≡ false) es
    (All-weaker (λ e. e.candidate.session ≢ n) (λ e. is_numbered n (session_of e) ≡ false)
    (λ e ne. ne_eqb e.candidate.session n ne) es all))

-- no session has this number, so none is changed
changed_none : (es : List Entry) (n : ℕ) (change : Session → Session) → All (λ c. c.session ≢ n) (map candidate_of es)
    → changed n change (sessions_of es) ≡ sessions_of es
changed_none [] n change all = refl
changed_none (e ∷ es) n change all =
    ap (λ b. (if b then change (session_of e) else session_of e) ∷ changed n change (sessions_of es))
    (ne_eqb e.candidate.session n (All-head (λ c. c.session ≢ n) e.candidate (map candidate_of es) all))
    ∙ ap (λ ss. session_of e ∷ ss) (changed_none es n change (All-tail (λ c. c.session ≢ n) e.candidate (map candidate_of es) all))

pub changed_at : (es : List Entry) (i : ℕ) (e new : Entry) (n : ℕ) (change : Session → Session) → Differ (map candidate_of es)
    → i < length es → e ≡ get_or es i e → e.candidate.session ≡ n → session_of new ≡ change (session_of e)
    → changed n change (sessions_of es) ≡ sessions_of (set es i new)
changed_at [] i e new n change differ l at is so = absurd (omega arith)
changed_at (x ∷ xs) zero e new n change differ l at is so =
    let same : x.candidate.session ≡ n = ap (λ (y : Entry). y.candidate.session) (sym at) ∙ is in
    ap (λ b. (if b then change (session_of x) else session_of x) ∷ changed n change (sessions_of xs)) (eq-eqb x.candidate.session n same)
    ∙ ap (λ ss. change (session_of x) ∷ ss)
    (changed_none xs n change (subst (λ m. All (λ c. c.session ≢ m) (map candidate_of xs)) same differ.0))
    ∙ ap (λ s. s ∷ sessions_of xs) (ap (λ (y : Entry). change (session_of y)) (sym at) ∙ sym so)
changed_at (x ∷ xs) (suc i) e new n change differ l at is so =
    let other : x.candidate.session ≢ n = λ same.
    all_of_map candidate_of (λ c. c.session ≢ x.candidate.session) xs differ.0 i e (omega arith)
    (ap (λ (y : Entry). y.candidate.session) (sym at) ∙ is ∙ sym same) in
    ap (λ b. (if b then change (session_of x) else session_of x) ∷ changed n change (sessions_of xs)) (ne_eqb x.candidate.session n other)
    ∙ ap (λ ss. session_of x ∷ ss) (changed_at xs i e new n change differ.1 (omega arith) at is so)

-- ---- all stop

pub zip_stopped : (es fs : List Entry) → length fs ≡ length es → AllStopped es fs → AllZip Alike es fs
zip_stopped [] [] size all = tt
zip_stopped [] (f ∷ fs) size all = absurd (omega arith)
zip_stopped (e ∷ es) [] size all = absurd (omega arith)
zip_stopped (e ∷ es) (f
    ∷ fs) size all = ((all zero e (omega arith)).alike, zip_stopped es fs (omega arith) (λ k d l. all (suc k) d (omega arith)))

pub sessions_stopped : (es fs : List Entry) → length fs ≡ length es → AllStopped es fs → map stops (sessions_of es) ≡ sessions_of fs
sessions_stopped [] [] size all = refl
sessions_stopped [] (f ∷ fs) size all = absurd (omega arith)
sessions_stopped (e ∷ es) [] size all = absurd (omega arith)
sessions_stopped (e ∷ es) (f ∷ fs) size all =
    ap (λ s. s ∷ map stops (sessions_of es)) (sym (all zero e (omega arith)).changed)
    ∙ ap (λ ss. session_of f ∷ ss) (sessions_stopped es fs (omega arith) (λ k d l. all (suc k) d (omega arith)))

-- ---- one is gone

differ_remove : (es : List Entry) (i : ℕ) → Differ (map candidate_of es) → Differ (map candidate_of (remove es i))
differ_remove [] i differ = nothing_differs i
  where
    nothing_differs : (i : ℕ) → Differ (map candidate_of (remove [] i))
    nothing_differs zero = tt
    nothing_differs (suc i) = tt
differ_remove (e ∷ es) zero differ = differ.1
differ_remove (e ∷ es) (suc i) differ = (
  all_to_map candidate_of (λ c. c.session ≢ e.candidate.session) (remove es i)
      (all_remove (λ x. x.candidate.session ≢ e.candidate.session) es i
      (all_of_map candidate_of (λ c. c.session ≢ e.candidate.session) es differ.0)),
  differ_remove es i differ.1,
)

pub ready_gone : (p : Parts) (es : Vec Entry Global) (i : ℕ) → IsReady p → es.items ≡ remove p.entries.items i
    → length es.items ≤ length p.entries.items
    → IsReady (record { entries = es; list = p.list; holdings = p.holdings; last = p.last; order = p.order })
ready_gone p es i ready is few =
    let olds = p.entries.items in
    let all = λ (P : Entry → Type 0) (h : All P olds). subst (λ xs. All P xs) (sym is) (all_remove P olds i h) in
    record {
      differ = subst (λ xs. Differ (map candidate_of xs)) (sym is) (differ_remove olds i ready.differ);
      ranked = all (Ranked p.list) ready.ranked;
      resting = all (λ e. Rests (session_of e)) ready.resting;
      listing = ready.listing;
      room = omega (arith, ready.room);
      in_turn = ready.in_turn;
      given = ready.given;
      last = ready.last;
      rooms = λ k d l. room_less p.list olds es.items (get_or p.holdings.items k d) few
          (λ b fits. all (λ e. length e.name ≤ vec_capacity b) fits) (ready.rooms k d l);
    }

filter_none : (es : List Entry) (n : ℕ) → All (λ c. c.session ≢ n) (map candidate_of es)
    → filter (λ s. not (is_numbered n s)) (sessions_of es) ≡ sessions_of es
filter_none [] n all = refl
filter_none (e ∷ es) n all =
    ap (λ b. cond (not b) (session_of e
    ∷ filter (λ s. not (is_numbered n s)) (sessions_of es)) (filter (λ s. not (is_numbered n s)) (sessions_of es)))
    (ne_eqb e.candidate.session n (All-head (λ c. c.session ≢ n) e.candidate (map candidate_of es) all))
    ∙ ap (λ ss. session_of e ∷ ss) (filter_none es n (All-tail (λ c. c.session ≢ n) e.candidate (map candidate_of es) all))

pub filter_at : (es : List Entry) (i n : ℕ) → Differ (map candidate_of es) → i < length es
    → ((d : Entry) → (get_or es i d).candidate.session ≡ n)
    → filter (λ s. not (is_numbered n s)) (sessions_of es) ≡ sessions_of (remove es i)
filter_at [] i n differ l at = absurd (omega arith)
filter_at (x ∷ xs) zero n differ l at =
    ap (λ b. cond (not b) (session_of x
    ∷ filter (λ s. not (is_numbered n s)) (sessions_of xs)) (filter (λ s. not (is_numbered n s)) (sessions_of xs)))
    (eq-eqb x.candidate.session n (at x))
    ∙ filter_none xs n (subst (λ m. All (λ c. c.session ≢ m) (map candidate_of xs)) (at x) differ.0)
filter_at (x ∷ xs) (suc i) n differ l at =
    let other : x.candidate.session ≢ n = λ same.
    all_of_map candidate_of (λ c. c.session ≢ x.candidate.session) xs differ.0 i x (omega arith) (at x ∙ sym same) in
    ap (λ b. cond (not b) (session_of x
    ∷ filter (λ s. not (is_numbered n s)) (sessions_of xs)) (filter (λ s. not (is_numbered n s)) (sessions_of xs)))
    (ne_eqb x.candidate.session n other)
    ∙ ap (λ ss. session_of x ∷ ss) (filter_at xs i n differ.1 (omega arith) at)
