-- A wait, as it is judged.
use Rattle.std.proofs.Common.{◌≡◌, ◌≢◌, ℕ, ◌<◌, ◌≤◌, ◌⊎◌, true, false, Some, Result, Ok, Err, OnOk, inl, inr, ⊎_elim, refl, sym, ap, ◌∙◌, subst}
use Rattle.repl_control.specs.declared.control.Role.{Role}
use Rattle.repl_control.specs.declared.control.Role.TheVariants.{Primary, Standby}
use Rattle.repl_disk.specs.Folder.{Folder}
use Rattle.repl_disk.specs.State.{DiskState}
use Rattle.repl_hub.specs.Holding.{Goes, HeldHub, Holds}
use Rattle.repl_hub.specs.Sessions.{OfSync}
use Rattle.repl_hub.specs.State.{HubView}
use Rattle.repl_hub.specs.Waits.{IsPrepared, IsWait, WaitsForNone}
use Rattle.repl_hub.specs.declared.reply.WaitFault.{WaitFault}
use Rattle.repl_hub.specs.declared.reply.WaitFault.TheVariants as wait
use Rattle.repl_hub.proofs.Nodes.{held_with}
use Rattle.repl_hub.proofs.Resting.{of_sync, stays, wider}
use Rattle.repl_names.specs.declared.quorum.Mode.{Mode}
use Rattle.repl_node.specs.Steps.{SameLeft}
use Rattle.repl_sync.specs.State.{Prepared, State, fate_of}
use Rattle.repl_sync.specs.Sync as sync
use Rattle.repl_sync.specs.Sync.{SyncStep, done}
use Rattle.repl_sync.specs.declared.fault.SyncFault.{SyncFault}
use Rattle.repl_sync.specs.declared.fault.SyncFault.TheVariants as fault
use Rattle.repl_wal.specs.State.{flushed_end, role_of}

-- a wait of a prepared ticket begins
pub begins : (ticket end : ℕ) (mode : Mode) (old new : State) (result : Result (Unit {0}) SyncFault) (answer : Result (Unit {0}) WaitFault)
    → fate_of old.tickets ticket ≡ Some Prepared → OnOk result (answer ≡ Ok tt) → SyncStep old (sync.Wait ticket end mode) (done result) new
    → (answer ≡ Ok tt) × SyncStep old (sync.Wait ticket end mode) sync.Done new
begins ticket end mode old new (Ok x) answer prepared ok step = (ok, step)
begins ticket end mode old new (Err fault.Known) answer prepared ok step = absurd step.0
begins ticket end mode old new (Err fault.Unknown) answer prepared ok step = absurd (step.0 prepared)
begins ticket end mode old new (Err fault.NoTicketLeft) answer prepared ok step = absurd step.0
begins ticket end mode old new (Err fault.Memory) answer prepared ok step = absurd step.0

pub begins_cancelled : (ticket : ℕ) (old new : State) (result : Result (Unit {0}) SyncFault) (answer : Result (Unit {0}) WaitFault)
    → fate_of old.tickets ticket ≡ Some Prepared → OnOk result (answer ≡ Ok tt) → SyncStep old (sync.WaitCancelled ticket) (done result) new
    → (answer ≡ Ok tt) × SyncStep old (sync.WaitCancelled ticket) sync.Done new
begins_cancelled ticket old new (Ok x) answer prepared ok step = (ok, step)
begins_cancelled ticket old new (Err fault.Known) answer prepared ok step = absurd step.0
begins_cancelled ticket old new (Err fault.Unknown) answer prepared ok step = absurd (step.0 prepared)
begins_cancelled ticket old new (Err fault.NoTicketLeft) answer prepared ok step = absurd step.0
begins_cancelled ticket old new (Err fault.Memory) answer prepared ok step = absurd step.0

module _ {D : Type 0} (disk : DiskState) (before : HeldHub D) (h : HubView) (ticket end : ℕ) (mode : Mode)
    (only : (image : Folder) → disk.left_since disk.moment image → disk.may_leave image) (holds : Holds disk before h) where
  of_hub : (s : State → Type 0) → s before.sync → s h.sync
  of_hub s = subst s (sym (ap (λ (k : HubView). k.sync) holds.is))

  pub unknown : (fate_of before.sync.tickets ticket ≡ Some Prepared → ⊥)
      → Goes disk disk before h (IsWait h ticket end mode (Err wait.Unknown)) (SameLeft h.node)
  unknown none = stays disk before h (IsWait h ticket end mode (Err wait.Unknown)) only holds
      (of_hub (λ s. fate_of s.tickets ticket ≢ Some Prepared) none, refl)

  module _ (prepared : fate_of before.sync.tickets ticket ≡ Some Prepared) where
    is_prepared : IsPrepared h ticket
    is_prepared = of_hub (λ s. fate_of s.tickets ticket ≡ Some Prepared) prepared

    pub cancelled : (told : State) (answer : Result (Unit {0}) WaitFault) (role : Role) → role ≡ role_of h.node.log
        → (role ≡ Standby) ⊎ (before.stopped ≡ true)
        → (answer ≡ Ok tt) × SyncStep before.sync (sync.WaitCancelled ticket) sync.Done told
        → Goes disk disk (held_with before before.node told) h (IsWait h ticket end mode answer) (SameLeft h.node)
    cancelled told answer role is none begun =
        let here : WaitsForNone h =
        ⊎_elim (λ standby. inl (sym is ∙ standby)) (λ stop. inr (ap (λ (k : HubView). k.stopped) holds.is ∙ stop)) none in
        let P : Result (Unit {0}) WaitFault → Type 0 =
        λ a. Goes disk disk (held_with before before.node told) h (IsWait h ticket end mode a) (SameLeft h.node) in
        subst P (sym begun.0) (wider disk disk (held_with before before.node told) h (OfSync h (sync.WaitCancelled ticket) sync.Done)
        (IsWait h ticket end mode (Ok tt)) (SameLeft h.node) (λ m step. (is_prepared, inl (here, step)))
        (of_sync disk before told (sync.WaitCancelled ticket) sync.Done h only holds begun.1))

    module _ (role : Role) (flushed : ℕ) (same_role : role ≡ role_of h.node.log) (same_end : flushed ≡ flushed_end h.node.log)
        (runs : (role ≡ Primary) × (before.stopped ≡ false)) where
      pub not_flushed : flushed < end
          → Goes disk disk before h (IsWait h ticket end mode (Err (wait.NotFlushed flushed))) (SameLeft h.node)
      not_flushed below = stays disk before h (IsWait h ticket end mode (Err (wait.NotFlushed flushed))) only holds (
        is_prepared,
        record { primary = sym same_role ∙ runs.0; runs = ap (λ (k : HubView). k.stopped) holds.is ∙ runs.1 },
        same_end,
        below,
        refl,
      )

      pub waits : (told : State) (answer : Result (Unit {0}) WaitFault) → end ≤ flushed
          → (answer ≡ Ok tt) × SyncStep before.sync (sync.Wait ticket end mode) sync.Done told
          → Goes disk disk (held_with before before.node told) h (IsWait h ticket end mode answer) (SameLeft h.node)
      waits told answer reached begun =
          let P : Result (Unit {0}) WaitFault → Type 0 =
          λ a. Goes disk disk (held_with before before.node told) h (IsWait h ticket end mode a) (SameLeft h.node) in
          subst P (sym begun.0) (wider disk disk (held_with before before.node told) h (OfSync h (sync.Wait ticket end mode) sync.Done)
          (IsWait h ticket end mode (Ok tt)) (SameLeft h.node) (λ m step. (
            is_prepared,
            inr (
              record { primary = sym same_role ∙ runs.0; runs = ap (λ (k : HubView). k.stopped) holds.is ∙ runs.1 },
              subst (λ (e : ℕ). end ≤ e) same_end reached,
              step,
            ),
          )) (of_sync disk before told (sync.Wait ticket end mode) sync.Done h only holds begun.1))
