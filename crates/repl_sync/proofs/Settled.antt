-- Where no wait is due, none is released.
use Rattle.std.proofs.Common.{◌≡◌, ℕ, true, false, List, [], ◌∷◌, ◌++◌, Result, Ok, Err, All, map, refl, ap, subst}
use Rattle.std.specs.List.{AllZip}
use Rattle.std.proofs.lemmas.List.Elements.{All-head, All-tail}
use Rattle.repl_names.specs.StandbyList.{Listing}
use Rattle.repl_sync.specs.declared.fault.SyncFault.TheVariants.{Known, Unknown, NoTicketLeft, Memory}
use Rattle.repl_sync.specs.declared.fault.SyncFault.{SyncFault}
use Rattle.std.specs.declared.alloc.AllocError.{AllocError}
use Rattle.repl_sync.specs.declared.parts.Parts.{Parts}
use Rattle.repl_sync.specs.State.{Session, Fate, Ticket, State, IsDue, connected, Prepared, Waiting, Released, Cancelled}
use Rattle.repl_sync.specs.Sync.{Becomes, Releases, Settles, SyncStep, Cancel, Connect, Prepare, SetNames, Done, Given, Refused, done, given, stored}
use Rattle.repl_sync.specs.Inside.{Cancels, ConnectsOne, IsKept, Prepares, RenamesTo, sessions_of, state_of, ticket_of, with_list, with_sessions}
use Rattle.repl_sync.proofs.Sessions.{all_to_map}

stays : (list : Listing) (ss : List Session) (fate : Fate) → ¬ IsDue list ss fate → Becomes list ss fate fate
stays list ss Prepared missed = refl
stays list ss (Waiting end m) missed = (refl, refl, missed)
stays list ss (Released c) missed = refl
stays list ss Cancelled missed = refl

pub all_stay : (list : Listing) (ss : List Session) (ts : List Ticket) → All (λ t. ¬ IsDue list ss t.fate) ts
    → AllZip (Settles list ss) ts ts
all_stay list ss [] waits = tt
all_stay list ss (t ∷ ts) waits = (
  record { number = refl; fate = stays list ss t.fate (All-head (λ u. ¬ IsDue list ss u.fate) t ts waits) },
  all_stay list ss ts (All-tail (λ u. ¬ IsDue list ss u.fate) t ts waits),
)

pub none_released : (p : Parts) → IsKept p → Releases (state_of p) (state_of p)
none_released p kept = record {
  sessions = refl;
  list = refl;
  tickets = all_stay p.list (sessions_of p.entries.items) (map ticket_of p.holdings.items)
      (all_to_map ticket_of (λ t. ¬ IsDue p.list (sessions_of p.entries.items) t.fate) p.holdings.items kept.waits);
  last = refl;
}

pub cancel_done : (p q : Parts) (s : State) (t : ℕ) → state_of p ≡ s → Cancels p t true q → IsKept q
    → SyncStep s (Cancel t) Done (state_of q)
cancel_done p q s t is h kept = subst (λ (x : State). SyncStep x (Cancel t) Done (state_of q)) is (state_of q, h, none_released q kept)

pub cancel_refused : (p q : Parts) (s : State) (t : ℕ) → state_of p ≡ s → Cancels p t false q
    → SyncStep s (Cancel t) (Refused Unknown) (state_of q)
cancel_refused p q s t is h = subst (λ (x : State). SyncStep x (Cancel t) (Refused Unknown) (state_of q)) is (h.0, ap state_of h.1)

pub prepare_step : (p q : Parts) (s : State) (r : Result ℕ SyncFault) → state_of p ≡ s → Prepares p r q → IsKept q
    → SyncStep s Prepare (given r) (state_of q)
prepare_step p q s (Ok t) is h kept = subst (λ (x : State). SyncStep x Prepare (Given t) (state_of q)) is (
  state_of q,
  h,
  none_released q
      kept,
)
prepare_step p q s (Err NoTicketLeft) is h kept = subst (λ (x : State). SyncStep x Prepare (Refused NoTicketLeft) (state_of q)) is h
prepare_step p q s (Err Memory) is h kept = subst (λ (x : State). SyncStep x Prepare (Refused Memory) (state_of q)) is (tt, h)
prepare_step p q s (Err Known) is h kept = absurd h
prepare_step p q s (Err Unknown) is h kept = absurd h

pub connect_step : (p q : Parts) (s : State) (n : ℕ) (name : List ℕ) (r : Result Unit SyncFault) → state_of p ≡ s → ConnectsOne p n name r q
    → SyncStep s (Connect n name) (done r) (state_of q)
connect_step p q s n name (Ok nothing) is h = subst (λ (x : State). SyncStep x (Connect n name) Done (state_of q)) is
    (with_sessions p (sessions_of p.entries.items ++ connected n name ∷ []), (h.0, refl), h.1)
connect_step p q s n name (Err Known) is h = subst (λ (x : State). SyncStep x (Connect n name) (Refused Known) (state_of q)) is h
connect_step p q s n name (Err Memory) is h = subst (λ (x : State). SyncStep x (Connect n name) (Refused Memory) (state_of q)) is (tt, h)
connect_step p q s n name (Err Unknown) is h = absurd h
connect_step p q s n name (Err NoTicketLeft) is h = absurd h

pub rename_step : (p q : Parts) (s : State) (list : Listing) (r : Result Unit AllocError) → state_of p ≡ s → RenamesTo p list r q
    → SyncStep s (SetNames list) (stored r) (state_of q)
rename_step p q s list (Ok nothing) is h = subst (λ (x : State). SyncStep x (SetNames list) Done (state_of q)) is (
  with_list p list,
  refl,
  h,
)
rename_step p q s list (Err error) is h = subst (λ (x : State). SyncStep x (SetNames list) (Refused Memory) (state_of q)) is (tt, h)
