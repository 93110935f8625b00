-- Tickets after one of them was changed, or all of them, or one is gone.
use Rattle.std.proofs.Common.{◌≡◌, ◌≢◌, ℕ, zero, suc, ◌<◌, ◌≤◌, cond, not, if◌then◌else◌, List, [], ◌∷◌, length, map, get_or, set, All, Vec, Global, Option, Some, None, MatchOption, refl, sym, ap, subst, ◌∙◌, eq-eqb, length-set, arith}
use Rattle.std.specs.List.{AllPairs, remove}
use Rattle.std.proofs.lemmas.Bool.{ne_eqb}
use Rattle.std.proofs.lemmas.List.Elements.{All-head, All-tail, All-set}
use Rattle.std.proofs.lemmas.List.Quantifiers.{all_pairs_remove}
use Rattle.repl_names.specs.StandbyList.{Listing}
use Rattle.repl_sync.specs.declared.session.Entry.{Entry}
use Rattle.repl_sync.specs.declared.holding.Progress.{Progress}
use Rattle.repl_sync.specs.declared.holding.Progress.TheVariants as progress
use Rattle.repl_sync.specs.declared.holding.Holding.{Holding}
use Rattle.repl_sync.specs.declared.parts.Parts.{Parts}
use Rattle.repl_sync.specs.State.{Fate, Ticket, IsDue, cancels, fate_of, with_fate, without}
use Rattle.repl_sync.specs.Sync.{cancelled_of, cancels_ticket}
use Rattle.repl_sync.specs.Inside.{CancelledOne, HasRoom, IsKept, IsLive, cancelled_progress, fate_in, sessions_of, ticket_of, tickets_of}
use Rattle.repl_sync.proofs.Sessions.{all_remove}

-- ---- the place of a ticket

abbrev pub PlacedTicket : ℕ → ℕ → List Holding → Type 0
PlacedTicket t place hs = (place < length hs) × ((d : Holding) → (get_or hs place d).ticket ≡ t)

abbrev pub FoundTicket : ℕ → Option ℕ → List Holding → Type 0
FoundTicket t o hs = MatchOption o (All (λ h. h.ticket ≢ t) hs) (λ place. PlacedTicket t place hs)

pub at_ticket : (t : ℕ) (o : Option ℕ) (place : ℕ) (seen hs : List Holding) → o ≡ Some place → seen ≡ hs → FoundTicket t o seen
    → PlacedTicket t place hs
at_ticket t o place seen hs is same found = subst (λ xs. PlacedTicket t place xs) same (subst (λ x. FoundTicket t x seen) is found)

pub no_ticket : (t : ℕ) (o : Option ℕ) (seen hs : List Holding) → o ≡ None → seen ≡ hs → FoundTicket t o seen → All (λ h. h.ticket ≢ t) hs
no_ticket t o seen hs is same found = subst (λ xs. All (λ h. h.ticket ≢ t) xs) same (subst (λ x. FoundTicket t x seen) is found)

-- ---- tickets apart

abbrev Apart : List Holding → Type 0
Apart [] = Unit {0}
Apart (h ∷ hs) = All (λ i. i.ticket ≢ h.ticket) hs × Apart hs

abbrev InTurn : List Holding → Type 0
InTurn hs = AllPairs (λ h i. h.ticket < i.ticket) hs

apart : (hs : List Holding) → InTurn hs → Apart hs
apart [] turn = tt
apart (h ∷ hs) turn = (
  λ k d l same. let less : h.ticket < (get_or hs k d).ticket = turn zero (suc k) d (omega arith) (omega arith) in absurd (omega arith),
  apart hs (λ i j d l m. turn (suc i) (suc j) d (omega arith) (omega arith)),
)

-- ---- what has become of one

pub no_fate : (hs : List Holding) (t : ℕ) → All (λ h. h.ticket ≢ t) hs → fate_of (tickets_of hs) t ≡ None
no_fate [] t all = refl
no_fate (h ∷ hs) t all =
    ap (λ b. if b then Some (fate_in h.progress h) else fate_of (tickets_of hs) t) (ne_eqb h.ticket t (All-head (λ i. i.ticket ≢ t) h hs
    all))
    ∙ no_fate hs t (All-tail (λ i. i.ticket ≢ t) h hs all)

found_fate : (hs : List Holding) (i : ℕ) (h : Holding) (t : ℕ) → Apart hs → i < length hs → h ≡ get_or hs i h → h.ticket ≡ t
    → fate_of (tickets_of hs) t ≡ Some (fate_in h.progress h)
found_fate [] i h t apart l at is = absurd (omega arith)
found_fate (x ∷ xs) zero h t apart l at is =
    let same : x.ticket ≡ t = ap (λ (y : Holding). y.ticket) (sym at) ∙ is in
    ap (λ b. if b then Some (fate_in x.progress x) else fate_of (tickets_of xs) t) (eq-eqb x.ticket t same)
    ∙ ap (λ (y : Holding). Some (fate_in y.progress y)) (sym at)
found_fate (x ∷ xs) (suc i) h t apart l at is =
    let other : x.ticket ≢ t = λ same. apart.0 i h (omega arith) (ap (λ (y : Holding). y.ticket) (sym at) ∙ is ∙ sym same) in
    ap (λ b. if b then Some (fate_in x.progress x) else fate_of (tickets_of xs) t) (ne_eqb x.ticket t other)
    ∙ found_fate xs i h t apart.1 (omega arith) at is

pub fate_at : (hs : List Holding) (i : ℕ) (h : Holding) (t : ℕ) → InTurn hs → PlacedTicket t i hs → h ≡ get_or hs i h
    → fate_of (tickets_of hs) t ≡ Some (fate_in h.progress h)
fate_at hs i h t turn placed at = found_fate hs i h t (apart hs turn) placed.0 at (ap (λ (y : Holding). y.ticket) at ∙ placed.1 h)

-- ---- one with another fate

none_with_fate : (hs : List Holding) (t : ℕ) (fate : Fate) → All (λ h. h.ticket ≢ t) hs → with_fate t fate (tickets_of hs) ≡ tickets_of hs
none_with_fate [] t fate all = refl
none_with_fate (h ∷ hs) t fate all =
    ap (λ b. (if b then record (ticket_of h) { fate = fate } else ticket_of h) ∷ with_fate t fate (tickets_of hs))
    (ne_eqb h.ticket t (All-head (λ i. i.ticket ≢ t) h hs all))
    ∙ ap (λ ts. ticket_of h ∷ ts) (none_with_fate hs t fate (All-tail (λ i. i.ticket ≢ t) h hs all))

set_fate : (hs : List Holding) (i : ℕ) (new : Holding) (t : ℕ) (fate : Fate) → Apart hs → PlacedTicket t i hs → new.ticket ≡ t
    → fate_in new.progress new ≡ fate → with_fate t fate (tickets_of hs) ≡ tickets_of (set hs i new)
set_fate [] i new t fate apart placed is so = absurd (omega (arith, placed.0))
set_fate (x ∷ xs) zero new t fate apart placed is so =
    let same : x.ticket ≡ t = placed.1 x in
    let made : record (ticket_of x) { fate = fate } ≡ ticket_of new =
    ap (λ (n : ℕ). record { number = n; fate = fate }) (same ∙ sym is)
    ∙ ap (λ (f : Fate). record { number = new.ticket; fate = f }) (sym so) in
    ap (λ b. (if b then record (ticket_of x) { fate = fate } else ticket_of x) ∷ with_fate t fate (tickets_of xs)) (eq-eqb x.ticket t same)
    ∙ ap (λ ts. record (ticket_of x) { fate = fate } ∷ ts)
    (none_with_fate xs t fate (subst (λ m. All (λ i. i.ticket ≢ m) xs) same apart.0))
    ∙ ap (λ u. u ∷ tickets_of xs) made
set_fate (x ∷ xs) (suc i) new t fate apart placed is so =
    let other : x.ticket ≢ t = λ same. apart.0 i x (omega (arith, placed.0)) (placed.1 x ∙ sym same) in
    ap (λ b. (if b then record (ticket_of x) { fate = fate } else ticket_of x) ∷ with_fate t fate (tickets_of xs)) (ne_eqb x.ticket t other)
    ∙ ap (λ ts. ticket_of x ∷ ts) (set_fate xs i new t fate apart.1 (omega (arith, placed.0), placed.1) is so)

pub with_fate_at : (hs : List Holding) (i : ℕ) (new : Holding) (t : ℕ) (fate : Fate) → InTurn hs → PlacedTicket t i hs → new.ticket ≡ t
    → fate_in new.progress new ≡ fate → with_fate t fate (tickets_of hs) ≡ tickets_of (set hs i new)
with_fate_at hs i new t fate turn placed is so = set_fate hs i new t fate (apart hs turn) placed is so

-- ---- one is gone

none_without : (hs : List Holding) (t : ℕ) → All (λ h. h.ticket ≢ t) hs → without t (tickets_of hs) ≡ tickets_of hs
none_without [] t all = refl
none_without (h ∷ hs) t all =
    ap (λ b. cond (not b) (ticket_of h ∷ without t (tickets_of hs)) (without t (tickets_of hs)))
    (ne_eqb h.ticket t (All-head (λ i. i.ticket ≢ t) h hs all))
    ∙ ap (λ ts. ticket_of h ∷ ts) (none_without hs t (All-tail (λ i. i.ticket ≢ t) h hs all))

remove_ticket : (hs : List Holding) (i t : ℕ) → Apart hs → PlacedTicket t i hs → without t (tickets_of hs) ≡ tickets_of (remove hs i)
remove_ticket [] i t apart placed = absurd (omega (arith, placed.0))
remove_ticket (x ∷ xs) zero t apart placed =
    let same : x.ticket ≡ t = placed.1 x in
    ap (λ b. cond (not b) (ticket_of x ∷ without t (tickets_of xs)) (without t (tickets_of xs))) (eq-eqb x.ticket t same)
    ∙ none_without xs t (subst (λ m. All (λ i. i.ticket ≢ m) xs) same apart.0)
remove_ticket (x ∷ xs) (suc i) t apart placed =
    let other : x.ticket ≢ t = λ same. apart.0 i x (omega (arith, placed.0)) (placed.1 x ∙ sym same) in
    ap (λ b. cond (not b) (ticket_of x ∷ without t (tickets_of xs)) (without t (tickets_of xs))) (ne_eqb x.ticket t other)
    ∙ ap (λ ts. ticket_of x ∷ ts) (remove_ticket xs i t apart.1 (omega (arith, placed.0), placed.1))

pub without_at : (hs : List Holding) (i t : ℕ) (rest : List Holding) → InTurn hs → PlacedTicket t i hs → rest ≡ remove hs i
    → without t (tickets_of hs) ≡ tickets_of rest
without_at hs i t rest turn placed is = remove_ticket hs i t (apart hs turn) placed ∙ ap tickets_of (sym is)

pub kept_gone : (p : Parts) (hs : Vec Holding Global) (i : ℕ) → IsKept p → i < length p.holdings.items
    → hs.items ≡ remove p.holdings.items i
    → IsKept (record { entries = p.entries; list = p.list; holdings = hs; last = p.last; order = p.order })
kept_gone p hs i kept l is =
    let olds = p.holdings.items in
    let all = λ (P : Holding → Type 0) (h : All P olds). subst (λ xs. All P xs) (sym is) (all_remove P olds i h) in
    record {
      ready = record {
        differ = kept.ready.differ;
        ranked = kept.ready.ranked;
        resting = kept.ready.resting;
        listing = kept.ready.listing;
        room = kept.ready.room;
        in_turn = subst InTurn (sym is) (all_pairs_remove (λ h j. h.ticket < j.ticket) olds i l kept.ready.in_turn);
        given = all (λ h. h.ticket ≤ p.last) kept.ready.given;
        last = kept.ready.last;
        rooms = all (HasRoom p.list p.entries.items) kept.ready.rooms;
      };
      waits = all (λ h. ¬ IsDue p.list (sessions_of p.entries.items) (ticket_of h).fate) kept.waits;
    }

-- ---- cancels

pub cancelled_fate : (p : Progress) (h : Holding)
    → fate_in (cancelled_progress p) (record h { progress = cancelled_progress p }) ≡ cancels (fate_in p h)
cancelled_fate progress.Prepared h = refl
cancelled_fate (progress.Waiting end m) h = refl
cancelled_fate (progress.Released end m) h = refl
cancelled_fate progress.Cancelled h = refl

pub cancelled_else : (p : Progress) (h : Holding) (t : ℕ) (ts : List Ticket) → (p ≡ progress.Prepared → ⊥)
    → cancelled_of t (fate_in p h) ts ≡ with_fate t (cancels (fate_in p h)) ts
cancelled_else progress.Prepared h t ts other = absurd (other refl)
cancelled_else (progress.Waiting end m) h t ts other = refl
cancelled_else (progress.Released end m) h t ts other = refl
cancelled_else progress.Cancelled h t ts other = refl

-- a ticket that does not wait is not due
pub cancelled_rests : (list : Listing) (es : List Entry) (p : Progress) (h : Holding)
    → ¬ IsDue list (sessions_of es) (fate_in (cancelled_progress p) (record h { progress = cancelled_progress p }))
cancelled_rests list es progress.Prepared h = λ due. due
cancelled_rests list es (progress.Waiting end m) h = λ due. due
cancelled_rests list es (progress.Released end m) h = λ due. due
cancelled_rests list es progress.Cancelled h = λ due. due

live_was : (p : Progress) → IsLive (cancelled_progress p) → IsLive p
live_was progress.Prepared live = live
live_was (progress.Waiting end m) live = tt
live_was (progress.Released end m) live = live
live_was progress.Cancelled live = live

cancelled_room : (list : Listing) (es : List Entry) (h : Holding) → HasRoom list es h
    → HasRoom list es (record h { progress = cancelled_progress h.progress })
cancelled_room list es h room = λ live.
    let had = room (live_was h.progress live) in
    record { in_force = had.in_force; empty = had.empty; counted = had.counted; names = had.names; each = had.each }

ticket_set : (hs : List Holding) (i k : ℕ) (new d : Holding) → ((e : Holding) → i < length hs → new.ticket ≡ (get_or hs i e).ticket)
    → (get_or (set hs i new) k d).ticket ≡ (get_or hs k d).ticket
ticket_set [] i k new d same = refl
ticket_set (x ∷ xs) zero zero new d same = same x (omega arith)
ticket_set (x ∷ xs) zero (suc k) new d same = refl
ticket_set (x ∷ xs) (suc i) zero new d same = refl
ticket_set (x ∷ xs) (suc i) (suc k) new d same = ticket_set xs i k new d (λ e l. same e (omega arith))

pub kept_set : (p : Parts) (hs : Vec Holding Global) (i : ℕ) (h : Holding) → IsKept p → i < length p.holdings.items
    → h ≡ get_or p.holdings.items i h → hs.items ≡ set p.holdings.items i (record h { progress = cancelled_progress h.progress })
    → IsKept (record { entries = p.entries; list = p.list; holdings = hs; last = p.last; order = p.order })
kept_set p hs i h kept l at is =
    let olds = p.holdings.items in
    let new : Holding = record h { progress = cancelled_progress h.progress } in
    let same : (e : Holding) → i < length olds → new.ticket ≡ (get_or olds i e).ticket =
    λ e m. ap (λ (y : Holding). y.ticket) at ∙ ap (λ (y : Holding). y.ticket) (one_place olds i h e m) in
    let here : (P : Holding → Type 0) → All P olds → P h = λ P all. subst P (sym at) (all i h l) in
    let turn : InTurn (set olds i new) = λ a b d less in'.
    let low : b < length olds = subst (λ n. b < n) (length-set olds i new) in' in
    subst (λ n. n < (get_or (set olds i new) b d).ticket) (sym (ticket_set olds i a new d same))
    (subst (λ n. (get_or olds a d).ticket < n) (sym (ticket_set olds i b new d same)) (kept.ready.in_turn a b d less low)) in
    let all = λ (P : Holding → Type 0) (n : P new) (h' : All P olds). subst (λ xs. All P xs) (sym is) (All-set P olds i new n h') in
    record {
      ready = record {
        differ = kept.ready.differ;
        ranked = kept.ready.ranked;
        resting = kept.ready.resting;
        listing = kept.ready.listing;
        room = kept.ready.room;
        in_turn = subst InTurn (sym is) turn;
        given = all (λ x. x.ticket ≤ p.last) (here (λ x. x.ticket ≤ p.last) kept.ready.given) kept.ready.given;
        last = kept.ready.last;
        rooms = all (HasRoom p.list p.entries.items)
            (cancelled_room p.list p.entries.items h (here (HasRoom p.list p.entries.items) kept.ready.rooms)) kept.ready.rooms;
      };
      waits = all (λ x. ¬ IsDue p.list (sessions_of p.entries.items) (ticket_of x).fate)
          (cancelled_rests p.list p.entries.items h.progress h) kept.waits;
    }
  where
    one_place : (xs : List Holding) (i : ℕ) (d e : Holding) → i < length xs → get_or xs i d ≡ get_or xs i e
    one_place [] i d e l = absurd (omega arith)
    one_place (x ∷ xs) zero d e l = refl
    one_place (x ∷ xs) (suc i) d e l = one_place xs i d e (omega arith)

-- ---- all are cancelled

pub all_cancelled : (olds news : List Holding) → length news ≡ length olds
    → ((k : ℕ) (d : Holding) → k < length olds → CancelledOne (get_or olds k d) (get_or news k d))
    → tickets_of news ≡ map cancels_ticket (tickets_of olds)
all_cancelled [] [] size each = refl
all_cancelled [] (i ∷ is) size each = absurd (omega arith)
all_cancelled (h ∷ hs) [] size each = absurd (omega arith)
all_cancelled (h ∷ hs) (i ∷ is) size each =
    ap (λ (x : Holding). ticket_of x ∷ tickets_of is) (each zero h (omega arith))
    ∙ ap (λ (f : Fate). record { number = h.ticket; fate = f } ∷ tickets_of is) (cancelled_fate h.progress h)
    ∙ ap (λ ts. cancels_ticket (ticket_of h) ∷ ts) (all_cancelled hs is (omega arith) (λ k d l. each (suc k) d (omega arith)))

-- ---- as it was found

same_at : (hs : List Holding) (i : ℕ) (g h : Holding) → i < length hs → g ≡ get_or hs i g → h ≡ get_or hs i h → g ≡ h
same_at [] i g h l at is = absurd (omega arith)
same_at (x ∷ xs) zero g h l at is = at ∙ sym is
same_at (x ∷ xs) (suc i) g h l at is = same_at xs i g h (omega arith) at is

-- a ticket that was looked up, and where it stands
pub record Found (t : ℕ) (o : Option ℕ) (place : ℕ) (seen hs : List Holding) : Type 0 where
  pub is : o ≡ Some place
  pub same : seen ≡ hs
  pub found : FoundTicket t o seen
  pub turn : InTurn hs

pub stands : (t : ℕ) (o : Option ℕ) (place : ℕ) (seen hs : List Holding) → Found t o place seen hs → PlacedTicket t place hs
stands t o place seen hs f = at_ticket t o place seen hs f.is f.same f.found

pub fate_found : (t : ℕ) (o : Option ℕ) (place : ℕ) (seen hs : List Holding) (h : Holding) (p : Progress) → Found t o place seen hs
    → h ≡ get_or hs place h → h.progress ≡ p → fate_of (tickets_of hs) t ≡ Some (fate_in p h)
fate_found t o place seen hs h p f at is =
    fate_at hs place h t f.turn (stands t o place seen hs f) at ∙ ap (λ (q : Progress). Some (fate_in q h)) is

-- the same, of one that was read at the place a second time
pub fate_again : (t : ℕ) (o : Option ℕ) (place : ℕ) (seen hs : List Holding) (g h : Holding) (p : Progress) → Found t o place seen hs
    → g ≡ get_or hs place g → h ≡ get_or hs place h → g.progress ≡ p → fate_of (tickets_of hs) t ≡ Some (fate_in p h)
fate_again t o place seen hs g h p f at again is =
    let same = same_at hs place g h (stands t o place seen hs f).0 at again in
    fate_found t o place seen hs h p f again (ap (λ (x : Holding). x.progress) (sym same) ∙ is)

pub rest_found : (t : ℕ) (o : Option ℕ) (place : ℕ) (seen hs rest : List Holding) → Found t o place seen hs → rest ≡ remove hs place
    → tickets_of rest ≡ without t (tickets_of hs)
rest_found t o place seen hs rest f is = sym (without_at hs place t rest f.turn (stands t o place seen hs f) is)

pub progress_again : (t : ℕ) (o : Option ℕ) (place : ℕ) (seen hs : List Holding) (g h : Holding) (p : Progress) → Found t o place seen hs
    → g ≡ get_or hs place g → h ≡ get_or hs place h → (g.progress ≡ p → ⊥) → h.progress ≡ p → ⊥
progress_again t o place seen hs g h p f at again other = λ is.
    other (ap (λ (x : Holding). x.progress) (same_at hs place g h (stands t o place seen hs f).0 at again) ∙ is)

-- the tickets where one that is not prepared is cancelled
pub cancelled_found : (t : ℕ) (o : Option ℕ) (place : ℕ) (seen hs : List Holding) (h new : Holding) → Found t o place seen hs
    → h ≡ get_or hs place h → (h.progress ≡ progress.Prepared → ⊥) → CancelledOne h new
    → tickets_of (set hs place new) ≡ cancelled_of t (fate_in h.progress h) (tickets_of hs)
cancelled_found t o place seen hs h new f at other is =
    let placed = stands t o place seen hs f in
    sym (cancelled_else h.progress h t (tickets_of hs) other
    ∙ with_fate_at hs place new t (cancels (fate_in h.progress h)) f.turn placed
    (ap (λ (x : Holding). x.ticket) is ∙ ap (λ (x : Holding). x.ticket) at ∙ placed.1 h)
    (ap (λ (x : Holding). fate_in x.progress x) is ∙ cancelled_fate h.progress h))
