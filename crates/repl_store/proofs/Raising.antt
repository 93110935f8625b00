-- A raised floor, and files below it that go: what the files stand for meanwhile.
use Rattle.std.proofs.Common.{◌≡◌, ◌⊎◌, ℕ, ◌+◌, ◌-◌, ◌≤◌, List, ◌++◌, length, take, drop, Some, Result, Ok, Err, refl, sym, ap, ◌∙◌, subst, inr, arith, length-drop}
use Rattle.std.proofs.lemmas.List.{drop-append-le, drop-take}
use Rattle.std.proofs.lemmas.Nat.{div-add-mod'}
use Rattle.repl_control.specs.Control.{control_bytes}
use Rattle.repl_control.specs.declared.control.Control.{Control}
use Rattle.repl_effects.specs.Counts.{RoseExactly, Stood}
use Rattle.repl_disk.specs.declared.disk.DiskError.{DiskError}
use Rattle.repl_disk.specs.declared.disk.DiskError.TheVariants as error
use Rattle.repl_disk.specs.Answers.{NeverMissing, is_fault}
use Rattle.repl_disk.specs.Crash.{LeavesOnly}
use Rattle.repl_disk.specs.Folder.{Became, Folder, IfTold}
use Rattle.repl_disk.specs.Replacing.{IsAfter, IsBeforeOrAfter, IsUntouched, replaced}
use Rattle.repl_disk.specs.State.{DiskState}
use Rattle.repl_lsn.specs.History.{Path}
use Rattle.repl_lsn.specs.Between.{AreBetween}
use Rattle.repl_store.specs.Backing.{Backs, Before, CanRaise, Comes, Either, Keeps, LeavesOne, State, fault_of, log, raised, raised_control}
use Rattle.repl_store.specs.Durable.{Carries, Durable, StandsFor, control_aside, control_name}
use Rattle.repl_store.specs.Head.{Head, IsHead}
use Rattle.repl_store.specs.Raised.{raised_head, raised_state}
use Rattle.repl_store.specs.declared.fault.StoreFault.{StoreFault}
use Rattle.repl_store.specs.declared.fault.StoreFault.TheVariants as fault
use Rattle.repl_store.proofs.Backed.{head_carries}
use Rattle.repl_store.proofs.Carrying.{carries_drop}
use Rattle.repl_store.proofs.Chaining.{comes_after, comes_as}
use Rattle.repl_store.proofs.Putting.{
  ButControl,
  bytes_short,
  carries_past,
  control_put,
  control_refused,
  log_short,
  same_histories,
  synced_short,
}
use Rattle.repl_store.proofs.Names.{HasNames}
use Rattle.repl_store.proofs.Standing.{names_of_head, stands_renewed}

module _ (disk : DiskState) (head : Head) (s : State) (is : IsHead head) (backs : Backs disk head s) (floor : ℕ)
    (can : CanRaise head floor) where
  abbrev n : ℕ
  n = floor - head.control.floor

  names : HasNames head.size head.path
  names = names_of_head head is

  -- the floor is one of a flushed position
  low : floor ≤ head.control.flushed
  low = omega (arith, can.1.floor.2, can.1.whole.2, div-add-mod' head.control.whole head.size)

  few : n ≤ length s.durable.bytes
  few = omega (arith, low, backs.counted)

  up : head.control.floor + n ≡ floor
  up = omega (arith, can.0)

  control_is : raised_control s.durable.control floor ≡ raised_control head.control floor
  control_is = ap (λ (c : Control). raised_control c floor) backs.control

  bytes_are : drop (floor - s.durable.control.floor) s.durable.bytes ≡ drop n s.durable.bytes
  bytes_are = ap (λ (c : Control). drop (floor - c.floor) s.durable.bytes) backs.control

  log_is : log (raised_state s floor) ≡ drop n (log s)
  log_is = ap (λ (bytes : List ℕ). bytes ++ s.unflushed) bytes_are ∙ sym (drop-append-le n s.durable.bytes s.unflushed few)

  -- what was carried is carried from the new floor on
  dropped : (folder : Folder) (bytes : List ℕ) → Carries head.size folder head.path head.control.floor bytes
      → Carries head.size folder head.path floor (drop n bytes)
  dropped folder bytes carries = subst (λ (f : ℕ). Carries head.size folder head.path f (drop n bytes)) up
      (carries_drop head.size head.path head.control.floor bytes folder n carries)

  synced_is : drop n (take (head.synced - head.control.floor) (log s)) ≡ take (head.synced - floor) (log (raised_state s floor))
  synced_is = ap (λ (m : ℕ). drop n (take m (log s))) (the_sum low is.flushed can.0) ∙ drop-take n (head.synced - floor) (log s)
      ∙ ap (take (head.synced - floor)) (sym log_is)
    where
      the_sum : floor ≤ head.control.flushed → head.control.flushed ≤ head.synced → head.control.floor ≤ floor
          → head.synced - head.control.floor ≡ n + (head.synced - floor)
      the_sum a b c = omega arith

  raised_stands : (before image : Folder) → Keeps head s before → ButControl before image
      → image control_name ≡ Some (control_bytes (raised_control head.control floor)) → StandsFor head.size image (raised s.durable floor)
  raised_stands before image keeps only control =
      subst
      (λ (c : Control). StandsFor head.size image (record {
        control = raised_control c floor;
        path = s.durable.path;
        bytes = drop (floor - c.floor) s.durable.bytes;
        known = s.durable.known;
      })) (sym backs.control)
      (stands_renewed head.size s.durable (raised_control head.control floor) (drop n s.durable.bytes) before image keeps.stands control
      (same_histories before image only)
      (record { system = is.fits.system; timeline = is.fits.timeline; magic = is.fits.magic }) can.1
      (sym (ap (λ (c : Control). c.tli) backs.control))
      (subst (λ (p : Path). AreBetween head.size head.control.whole p.parents) (sym backs.path) is.between)
      (omega (arith, length-drop n s.durable.bytes, few, up, backs.counted))
      (subst (λ (p : Path). Carries head.size image p floor (drop n s.durable.bytes)) (sym backs.path)
      (dropped image s.durable.bytes
      (carries_past head.size head.path head.control.floor s.durable.bytes before image names (bytes_short disk head s is backs) only
      (head_carries disk head s backs before s.durable.bytes keeps.stands.carries)))))

  raised_keeps : (before image : Folder) → Keeps head s before → Keeps head s before → ButControl before image
      → image control_name ≡ Some (control_bytes (raised_control head.control floor))
      → Keeps (raised_head head floor) (raised_state s floor) image
  raised_keeps before image keeps same only control = record {
    stands = raised_stands before image keeps only control;
    synced = subst (λ (bytes : List ℕ). Carries head.size image head.path floor bytes) synced_is
        (dropped image (take (head.synced - head.control.floor) (log s))
        (carries_past head.size head.path head.control.floor (take (head.synced - head.control.floor) (log s)) before image names
        (synced_short disk head s is backs) only keeps.synced));
  }

  module _ (new : DiskState) (c : Control) (c_is : c ≡ raised_control head.control floor)
      (any_moment : IfTold disk.files (λ f. LeavesOnly disk new (IsBeforeOrAfter disk.may_leave control_name control_aside (control_bytes
      c)))) where
    abbrev bytes : List ℕ
    bytes = control_bytes c

    renewed : (before image : Folder) → Keeps head s before → Keeps head s before → ButControl before image
        → image control_name ≡ Some (control_bytes c) → Keeps (raised_head head floor) (raised_state s floor) image
    renewed before image keeps same only control = raised_keeps before image keeps same only
        (control ∙ ap (λ (k : Control). Some (control_bytes k)) c_is)

    pub floor_put : (later : Head) → later ≡ raised_head head floor
        → IfTold disk.files (λ f. (image : Folder) → new.may_leave image → IsAfter disk.may_leave control_name control_aside bytes image)
        → Became disk.files new.files (λ f. replaced f control_name control_aside bytes)
        → Comes {A = Unit {0}} (Ok tt) disk new later (Either s.durable (raised s.durable floor)) (raised_state s floor) (λ t. t ≡ s)
    floor_put later is_later durable files =
        subst (λ (h : Head). Comes {A = Unit {0}} (Ok tt) disk new h (Either s.durable (raised s.durable floor)) (raised_state s floor)
        (λ t. t ≡ s)) (sym is_later)
        (control_put disk head s is backs bytes (raised_head head floor) (raised_state s floor) (λ t. t ≡ s) (Keeps head s) backs.images
        renewed refl new any_moment durable files control_is backs.path
        (omega (arith, ap length bytes_are, length-drop n s.durable.bytes, few, up, backs.counted))
        backs.written
        (λ after only. subst (λ (l : List ℕ). Carries head.size after head.path floor l) (sym log_is)
        (dropped after (log s)
        (carries_past head.size head.path head.control.floor (log s) backs.folder after names (log_short disk head s is backs) only
        backs.reads))))

    pub floor_refused : (e : DiskError) (f : StoreFault) → f ≡ fault_of e
        → IfTold disk.files (λ folder. NeverMissing {A = Unit {0}} (Err e))
        → (e ≡ error.Memory → IfTold disk.files (λ folder. IsUntouched disk new control_aside))
        → RoseExactly (is_fault e) disk.faults new.faults
        → Comes {A = Unit {0}} (Err f) disk new head (Either s.durable (raised s.durable floor)) (raised_state s floor) (λ t. t ≡ s)
    floor_refused e f same there memory rose =
        control_refused disk head s is backs bytes (raised_head head floor) (raised_state s floor) (λ t. t ≡ s) (Keeps head s) backs.images
        renewed refl new any_moment refl e f same there memory rose

-- ---- the two parts

-- a call that failed, under another head of the same size
pub failed_as : (f : StoreFault) (old new : DiskState) (head other : Head) (column : Durable → Type 0) (done : State)
    (some : State → Type 0) → (f ≡ fault.Memory → ⊥) → other.size ≡ head.size → Comes {A = Unit {0}} (Err f) old new head column done some
    → Comes {A = Unit {0}} (Err f) old new other column done some
failed_as f old new head other column done some apart same comes = record {
  moments = subst (λ (n : ℕ). LeavesOne old new n column) (sym same) comes.moments;
  ok = tt;
  no_memory = λ is. absurd (apart cc);
  failed = comes.failed;
}

-- the removal comes past the raised floor
pub removal_comes : (result : Result (Unit {0}) StoreFault) (old mid new : DiskState) (head : Head) (s : State) (floor : ℕ)
    → Comes {A = Unit {0}} (Ok tt) old mid head (Either s.durable (raised s.durable floor)) (raised_state s floor) (λ t. t ≡ s)
    → Stood old.faults mid.faults
    → ((t : State) → Backs mid head t → Comes result mid new head (Before t) t (λ u. u ≡ t))
    → Comes result old new head (Either s.durable (raised s.durable floor)) (raised_state s floor)
    (λ t. (t ≡ s) ⊎ (t ≡ raised_state s floor))
removal_comes result old mid new head s floor first stood comes =
    let later = raised_state s floor in
    let column = Either s.durable (raised s.durable floor) in
    comes_after result old mid new head head column later (λ t. (t ≡ s) ⊎ (t ≡ later)) first.moments refl stood
    (comes_as result mid new head (Before later) column later later (λ t. t ≡ later) (λ t. (t ≡ s) ⊎ (t ≡ later)) (λ d h. inr h) refl
    (λ t h. inr h) (comes later first.ok))
