-- A session begins, and ends.
use Rattle.std.proofs.Common.{◌≡◌, ℕ, ◌+◌, ◌<◌, ◌≤◌, ◌⊎◌, true, false, Bool, not, ◌==◌, if◌then◌else◌, List, [], ◌∷◌, ◌++◌, map, filter, Ok, Err, inl, inr, ⊎_elim, refl, sym, ap, ◌∙◌, subst}
use Rattle.repl_disk.specs.Folder.{Folder}
use Rattle.repl_disk.specs.State.{DiskState}
use Rattle.repl_hub.specs.Holding.{Goes, HeldHub, Holds, IsKept}
use Rattle.repl_hub.specs.Sessions.{HasRoom, IsConnect, IsDisconnect, IsFull}
use Rattle.repl_hub.specs.State.{HubView, count_kind, limit_of, unlinked}
use Rattle.repl_hub.specs.declared.link.Link.{Link}
use Rattle.repl_hub.specs.declared.link.TheConstants.{LAST_SESSION}
use Rattle.repl_hub.specs.declared.reply.ConnectFault.TheVariants as connect
use Rattle.repl_hub.proofs.Nodes.{remembered, untold}
use Rattle.repl_hub.proofs.Numbers.{numbers}
use Rattle.repl_hub.proofs.Resting.{rests, stays}
use Rattle.repl_node.specs.Holding.{Goes as NodeGoes, HeldNode}
use Rattle.repl_node.specs.State.{NodeState, with_slots}
use Rattle.repl_node.specs.Steps.{SameLeft}
use Rattle.repl_slots.specs.Slot.{ended}
use Rattle.repl_sync.specs.State.{Session, State}
use Rattle.repl_sync.specs.Sync as sync
use Rattle.repl_sync.specs.Sync.{SyncStep}
use Rattle.repl_sync.specs.declared.fault.SyncFault.{SyncFault}

-- the same hub with other sessions and connections
abbrev pub linked : {D : Type 0} → HeldHub D → State → List Link → ℕ → HeldHub D
linked held told links last = record { node = held.node; sync = told; links = links; last = last; stopped = held.stopped }

module _ {D : Type 0} (disk : DiskState) (before : HeldHub D) (h : HubView)
    (only : (image : Folder) → disk.left_since disk.moment image → disk.may_leave image) (holds : Holds disk before h)
    (name : List ℕ) (replication : Bool) where
  last_is : h.last ≡ before.last
  last_is = ap (λ (k : HubView). k.last) holds.is

  links_are : h.links ≡ before.links
  links_are = ap (λ (k : HubView). k.links) holds.is

  stopped_is : h.stopped ≡ before.stopped
  stopped_is = ap (λ (k : HubView). k.stopped) holds.is

  pub stopped : before.stopped ≡ true → Goes disk disk before h (IsConnect h name replication (Err connect.Stopped)) (SameLeft h.node)
  stopped is = stays disk before h (IsConnect h name replication (Err connect.Stopped)) only holds (stopped_is ∙ is, refl)

  pub too_many : before.stopped ≡ false → (there : ℕ) → there ≡ count_kind replication before.links
      → (limit_of replication ≤ there) ⊎ (LAST_SESSION ≤ before.last)
      → Goes disk disk before h (IsConnect h name replication (Err (connect.TooMany there))) (SameLeft h.node)
  too_many runs there counted full =
      let here : there ≡ count_kind replication h.links = counted ∙ sym (ap (count_kind replication) links_are) in
      let is_full : IsFull h replication =
      ⊎_elim (λ many. inl (subst (λ (k : ℕ). limit_of replication ≤ k) here many))
      (λ last. inr (subst (λ (k : ℕ). LAST_SESSION ≤ k) (sym last_is) last)) full in
      stays disk before h (IsConnect h name replication (Err (connect.TooMany there))) only holds (stopped_is ∙ runs, is_full, here, refl)

  pub has_room : before.stopped ≡ false → (there : ℕ) → there ≡ count_kind replication before.links
      → (there < limit_of replication) × (before.last < LAST_SESSION) → HasRoom h replication
  has_room runs there counted room = record {
    runs = stopped_is ∙ runs;
    below = subst (λ (k : ℕ). k < limit_of replication) (counted ∙ sym (ap (count_kind replication) links_are)) room.0;
    left = subst (λ (k : ℕ). k < LAST_SESSION) (sym last_is) room.1;
  }

  pub unconnected : HasRoom h replication → (told : State) (links : List Link) → told ≡ before.sync → links ≡ before.links
      → Goes disk disk (linked before told links before.last) h (IsConnect h name replication (Err connect.Memory)) (SameLeft h.node)
  unconnected room told links same_sync same_links =
      let P : State → Type 0 = λ s. Goes disk disk (linked before s links before.last) h (IsConnect h name replication (Err connect.Memory)) (SameLeft h.node) in
      let Q : List Link → Type 0 =
      λ l. Goes disk disk (linked before before.sync l before.last) h (IsConnect h name replication (Err connect.Memory)) (SameLeft h.node) in
      subst P (sym same_sync) (subst Q (sym same_links)
      (stays disk before h (IsConnect h name replication (Err connect.Memory)) only holds (room, refl)))

  pub connected : HasRoom h replication → (told : State) (links : List Link)
      → links ≡ before.links ++ record { number = before.last + 1; replication = replication } ∷ []
      → SyncStep before.sync (sync.Connect (before.last + 1) name) sync.Done told
      → Goes disk disk (linked before told links (before.last + 1)) h (IsConnect h name replication (Ok (before.last + 1))) (SameLeft h.node)
  connected room told links grew step =
      let one : Link = record { number = before.last + 1; replication = replication } in
      let of : HubView → HubView =
      λ k. record { node = h.node; sync = told; links = k.links ++ one ∷ []; last = before.last + 1; stopped = k.stopped } in
      let L : List Link → HubView = λ l. record { node = h.node; sync = told; links = l; last = before.last + 1; stopped = before.stopped } in
      rests disk before (linked before told links (before.last + 1)) h (of h) (IsConnect h name replication (Ok (before.last + 1))) only holds refl
      (ap of holds.is ∙ ap L (sym grew)) (record {
        room = room;
        next = ap (λ k. k + 1) (sym last_is);
        told = told;
        step = subst (λ (s : State). SyncStep s (sync.Connect (before.last + 1) name) sync.Done told) (sym (ap (λ (k : HubView). k.sync) holds.is)) step;
        becomes = refl;
      })

-- ---- the end

module _ {D : Type 0} (old new : DiskState) (before : HeldHub D) (h : HubView) (holds : Holds old before h) (session : ℕ) where
  pub disconnected : (after : HeldNode D) (told : State) (links : List Link) → links ≡ unlinked session before.links
      → SyncStep before.sync (sync.Disconnect session) sync.Done told
      → NodeGoes old new after h.node (λ m. m ≡ with_slots h.node (ended session h.node.slots)) (SameLeft h.node)
      → Goes old new (record { node = after; sync = told; links = links; last = before.last; stopped = before.stopped }) h
      (IsDisconnect h session (Ok tt)) (SameLeft h.node)
  disconnected after told links shrank step goes =
      let of : NodeState → HubView → HubView =
      λ n k. record { node = n; sync = told; links = unlinked session k.links; last = k.last; stopped = k.stopped } in
      let L : List Link → HubView = λ l. record { node = goes.next; sync = told; links = l; last = before.last; stopped = before.stopped } in
      record {
        next = of goes.next h;
        is = record {
          told = told;
          step = subst (λ (s : State). SyncStep s (sync.Disconnect session) sync.Done told) (sym (ap (λ (k : HubView). k.sync) holds.is)) step;
          becomes = ap (λ (n : NodeState). of n h) goes.is;
        };
        holds = record { node = goes.holds; is = ap (of goes.next) holds.is ∙ ap L (sym shrank) };
        moments = goes.moments;
      }

pub not_disconnected : {D : Type 0} (disk : DiskState) (before : HeldHub D) (h : HubView) (session : ℕ) (told : State) (e : SyncFault)
    → ((image : Folder) → disk.left_since disk.moment image → disk.may_leave image) → Holds disk before h
    → SyncStep before.sync (sync.Disconnect session) (sync.Refused e) told
    → Goes disk disk (linked before told before.links before.last) h (IsDisconnect h session (Err e)) (SameLeft h.node)
not_disconnected disk before h session told e only holds step =
    let P : State → Type 0 = λ s. Goes disk disk (linked before s before.links before.last) h (IsDisconnect h session (Err e)) (SameLeft h.node) in
    let same : SyncStep before.sync (sync.Disconnect session) (sync.Refused e) before.sync = (step.0, refl) in
    subst P (sym step.1) (stays disk before h (IsDisconnect h session (Err e)) only holds
    (subst (λ (s : State). SyncStep s (sync.Disconnect session) (sync.Refused e) s) (sym (ap (λ (k : HubView). k.sync) holds.is)) same, refl))

-- ---- numbers

kept_numbers : {A : Type 0} (number : A → ℕ) (n : ℕ) (xs : List A)
    → map number (filter (λ x. not (number x == n)) xs) ≡ filter (λ k. not (k == n)) (map number xs)
kept_numbers number n [] = refl
kept_numbers {A} number n (x ∷ xs) = by_case (not (number x == n)) (kept_numbers number n xs)
  where
    by_case : (b : Bool) → map number (filter (λ y. not (number y == n)) xs) ≡ filter (λ k. not (k == n)) (map number xs)
        → map number (if b then x ∷ filter (λ y. not (number y == n)) xs else filter (λ y. not (number y == n)) xs)
        ≡ (if b then number x ∷ filter (λ k. not (k == n)) (map number xs) else filter (λ k. not (k == n)) (map number xs))
    by_case true rest = ap (λ more. number x ∷ more) rest
    by_case false rest = rest

-- the connections are the sessions still
pub kept_without : {D : Type 0} (old new : DiskState) (before : HeldHub D) (after : HeldNode D) (told : State) (links : List Link) (session : ℕ)
    (kept : IsKept before) (Next : NodeState → Type 0) → links ≡ unlinked session before.links
    → SyncStep before.sync (sync.Disconnect session) sync.Done told
    → NodeGoes old new after (untold kept.node) Next (SameLeft (untold kept.node))
    → IsKept (record { node = after; sync = told; links = links; last = before.last; stopped = before.stopped })
kept_without old new before after told links session kept Next shrank step goes =
    let is_number : Link → ℕ = λ link. link.number in
    let of_session : Session → ℕ = λ s. s.number in
    record {
      node = goes.next;
      remembers = remembered new after goes.next goes.holds;
      links = ap (map is_number) shrank ∙ kept_numbers is_number session before.links
          ∙ ap (filter (λ k. not (k == session))) kept.links ∙ sym (kept_numbers of_session session before.sync.sessions)
          ∙ sym (ap numbers (step.2.sessions ∙ ap (λ (s : State). s.sessions) step.1.1));
    }
