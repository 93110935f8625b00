-- Saving the slots: the log goes on, since its files are others.
use Rattle.std.proofs.Common.{◌≡◌, ◌≢◌, ℕ, true, false, List, map, Result, Ok, Err, OnOk, IfErr, Some, None, ◌≤◌, ◌⊎◌, inl, inr, refl, sym, ap, ◌∙◌, subst}
use Rattle.std.specs.Option.{option_map}
use Rattle.repl_disk.specs.Crash.{LeavesOnly}
use Rattle.repl_disk.specs.Folder.{Became, Folder, IfTold, ToldFiles, put}
use Rattle.repl_disk.specs.Moments.{weakened}
use Rattle.repl_disk.specs.Runs.{told_so, where_told}
use Rattle.repl_disk.specs.Steps.{put_other}
use Rattle.repl_disk.specs.Replacing.{IsBeforeOrAfter, IsHalfDone, IsUntouched, replaced}
use Rattle.repl_disk.specs.State.{DiskState}
use Rattle.repl_slots.specs.Slot.{SlotList, having, settled}
use Rattle.repl_slots.specs.SlotFile.{Entry, entries_of}
use Rattle.repl_slots.specs.Stored.{Saved, StoredIn, Stores, StoresThrough, aside_name, slots_name}
use Rattle.repl_slots.specs.declared.slot.Slot.{Slot}
use Rattle.repl_slots.specs.declared.fault.SlotFault.{SlotFault}
use Rattle.repl_slots.specs.declared.fault.SlotFault.TheVariants as fault
use Rattle.repl_store.proofs.Lending.{backs_on_apart, moments_apart}
use Rattle.repl_store.specs.Apart.{IsOneButApart, OnlyApart, SameButApart}
use Rattle.repl_store.specs.Backing.{Before, LeavesOne}
use Rattle.repl_store.specs.Durable.{Durable, StandsFor}
use Rattle.repl_wal.specs.Holding.{HeldLog, Holds as HoldsLog, Remembers as RemembersLog, with_disk}
use Rattle.repl_wal.specs.State.{breaking}
use Rattle.repl_node.specs.Holding.{Goes, HeldNode, Holds, LeavesSome}
use Rattle.repl_node.specs.State.{NodeState, broken_node, saved_node}
use Rattle.repl_node.specs.Steps.{SaveLeaves, Saves}
use Rattle.repl_node.proofs.Passing.{both, size_of}

-- ---- the files of the slots alone change

module _ (old new : DiskState) (bytes : List ℕ) (result : Result (Unit {0}) SlotFault)
    (counts_now : (t : ℕ) (image : Folder) → t ≤ new.moment → new.may_leave image → new.left_since t image)
    (moments : IfTold old.files (λ folder. LeavesOnly old new (IsBeforeOrAfter old.may_leave slots_name aside_name bytes)))
    (done : OnOk result (Became old.files new.files (λ folder. replaced folder slots_name aside_name bytes)))
    (half : IfErr result (λ e. IsHalfDone old.files new.files slots_name aside_name bytes)) where
  but : (images : Folder → Type 0) (image : Folder) → IsBeforeOrAfter images slots_name aside_name bytes image → IsOneButApart images image
  but images image either = (either.before, either.was, λ name own. either.others name (λ is. own (inl is)) (λ is. own (inr is)))

  reads : (r : Result (Unit {0}) SlotFault) (folder : Folder) → old.files ≡ Some folder
      → OnOk r (Became old.files new.files (λ f. replaced f slots_name aside_name bytes))
      → IfErr r (λ e. IsHalfDone old.files new.files slots_name aside_name bytes)
      → (after : Folder) × (new.files ≡ Some after) × SameButApart folder after
  reads (Ok x) folder told done half = (
    replaced folder slots_name aside_name bytes,
    done ∙ ap (option_map (λ (f : Folder). replaced f slots_name aside_name bytes)) told,
    λ name own. put_other (put folder aside_name None) slots_name name (Some bytes) (λ is. own (inl is))
        ∙ put_other folder aside_name name None (λ is. own (inr is)),
  )
  reads (Err e) folder told done half =
      let part : IsHalfDone (Some folder) new.files slots_name aside_name bytes = subst
      (λ (t : ToldFiles). IsHalfDone t new.files slots_name aside_name bytes) told half in
      let like = but (λ f. f ≡ folder) part.0 part.2 in
      (part.0, part.1, λ name own. like.2 name own ∙ ap (λ (f : Folder). f name) like.1)

  pub only_slots : OnlyApart old new
  only_slots = record {
    files = where_told old.files (λ folder. (after : Folder) × (new.files ≡ Some after) × SameButApart folder after)
        (λ folder told. reads result folder told done half);
    now = where_told old.files (λ folder. (image : Folder) → new.may_leave image → IsOneButApart old.may_leave image) (λ folder told.
        let only = told_so old.files folder (λ f. LeavesOnly old new (IsBeforeOrAfter old.may_leave slots_name aside_name bytes)) told moments in
        λ image left. but old.may_leave image (only.each image (counts_now old.moment image only.later left)));
    moments = where_told old.files (λ folder. LeavesOnly old new (IsOneButApart old.may_leave)) (λ folder told.
        let only = told_so old.files folder (λ f. LeavesOnly old new (IsBeforeOrAfter old.may_leave slots_name aside_name bytes)) told moments in
        weakened old new (IsBeforeOrAfter old.may_leave slots_name aside_name bytes) (IsOneButApart old.may_leave) only (but old.may_leave));
  }

-- ---- the node after it

module _ {D : Type 0} (old new : DiskState) (before : HeldNode D) (disk : D) (n : NodeState) (holds : Holds old before n)
    (only : OnlyApart old new) (stored : IfTold old.files (λ folder. StoresThrough old new (entries_of before.slots.slots))) where
  -- a crash at any moment leaves the log as it is, and the slots from before or these
  moments_of : n.log.told ≡ true → n.log.broken ≡ false → LeavesSome old new n.log.size (SaveLeaves n)
  moments_of tells sound =
      let backs = holds.log.backs tells sound in
      let size : before.wal.log.head.size ≡ n.log.size = size_of before.wal n.log sound holds.log.remembers in
      let entries : entries_of before.slots.slots ≡ entries_of n.slots = ap entries_of holds.slots in
      let through = told_so old.files backs.folder (λ folder. StoresThrough old new (entries_of before.slots.slots)) backs.told stored n.saved
      (holds.stored tells sound) in
      let log : LeavesOne old new n.log.size (Before n.log.kept) = subst (λ (k : ℕ). LeavesOne old new k (Before n.log.kept)) size
      (moments_apart old new before.wal.log.head n.log.kept only backs) in
      weakened old new
      (λ image. ((d : Durable) × Before n.log.kept d × StandsFor n.log.size image d) × (Stores n.saved image ⊎ Stores (entries_of before.slots.slots) image))
      (λ image. (d : Durable) × (saved : List Entry) × SaveLeaves n d saved × StandsFor n.log.size image d × Stores saved image)
      (both old new (λ image. (d : Durable) × Before n.log.kept d × StandsFor n.log.size image d)
      (λ image. Stores n.saved image ⊎ Stores (entries_of before.slots.slots) image) log through)
      (λ image has. elim has.1 [
        | inl was ↦ (has.0.0, n.saved, (has.0.1, inl refl), has.0.2, was)
        | inr later ↦ (has.0.0, entries_of before.slots.slots, (has.0.1, inr entries), has.0.2, later)
      ])

  -- the log goes on over the disk as it is now
  log_on : HoldsLog new (with_disk before.wal disk).log n.log
  log_on = record {
    remembers = holds.log.remembers;
    backs = λ yes sound. backs_on_apart old new before.wal.log.head n.log.kept only (holds.log.backs yes sound);
  }

  pub saved_goes : n.log.broken ≡ false → (after : SlotList) → after ≡ having before.slots (map settled before.slots.slots)
      → IfTold old.files (λ folder. (image : Folder) → new.may_leave image → Stores (entries_of before.slots.slots) image)
      → Goes {D = D} old new (record { wal = with_disk before.wal disk; slots = after }) n (Saves {A = Unit {0}} n (Ok tt)) (SaveLeaves n)
  saved_goes sound after is now = record {
    next = saved_node n;
    is = (sound, refl);
    holds = record {
      log = log_on;
      slots = ap (λ (l : SlotList). l.slots) is ∙ ap (map settled) holds.slots;
      sound = λ yes. ap (λ (l : SlotList). l.broken) is ∙ holds.sound yes;
      stored = λ yes again image left.
          let backs = holds.log.backs yes again in
          subst (λ (l : List Slot). Stores (entries_of l) image) holds.slots
          (told_so old.files backs.folder (λ folder. (image : Folder) → new.may_leave image → Stores (entries_of before.slots.slots) image)
          backs.told now image left);
    };
    moments = moments_of;
  }

  pub unsaved_goes : n.log.broken ≡ false → (after : SlotList) → after ≡ before.slots
      → IfTold old.files (λ folder. IsUntouched old new aside_name)
      → Goes {D = D} old new (record { wal = with_disk before.wal disk; slots = after }) n (Saves {A = Unit {0}} n (Err fault.Memory)) (SaveLeaves n)
  unsaved_goes sound after is untouched = record {
    next = n;
    is = (sound, refl);
    holds = record {
      log = log_on;
      slots = ap (λ (l : SlotList). l.slots) is ∙ holds.slots;
      sound = λ yes. ap (λ (l : SlotList). l.broken) is ∙ holds.sound yes;
      stored = λ yes again image left.
          let backs = holds.log.backs yes again in
          let aside = (told_so old.files backs.folder (λ folder. IsUntouched old new aside_name) backs.told untouched).now image left in
          subst (StoredIn n.saved) (sym (aside.others slots_name (λ same. absurd cc))) (holds.stored yes again aside.before aside.was);
    };
    moments = moments_of;
  }

  pub failed_goes : n.log.broken ≡ false → (wal : HeldLog D) → RemembersLog wal.log (breaking n.log) → (after : SlotList)
      → after ≡ record { slots = before.slots.slots; broken = true }
      → Goes {D = D} old new (record { wal = wal; slots = after }) n (Saves {A = Unit {0}} n (Err fault.DiskFault)) (SaveLeaves n)
  failed_goes sound wal remembers after is = record {
    next = broken_node n;
    is = (sound, refl);
    holds = record {
      log = record { remembers = remembers; backs = λ yes no. absurd cc };
      slots = ap (λ (l : SlotList). l.slots) is ∙ holds.slots;
      sound = λ no. absurd cc;
      stored = λ yes no. absurd cc;
    };
    moments = moments_of;
  }

  pub refused_goes : n.log.broken ≡ false → (f : SlotFault) (wal : HeldLog D) → (f ≡ fault.DiskFault → RemembersLog wal.log (breaking n.log))
      → (f ≢ fault.DiskFault → wal ≡ with_disk before.wal disk) → (after : SlotList) → Saved {A = Unit {0}} before.slots after (Err f)
      → (f ≡ fault.Memory → IfTold old.files (λ folder. IsUntouched old new aside_name))
      → Goes {D = D} old new (record { wal = wal; slots = after }) n (Saves {A = Unit {0}} n (Err f)) (SaveLeaves n)
  refused_goes sound fault.Broken wal stopped others after saved untouched =
      let no : true ≡ false = sym saved.0 ∙ holds.sound sound in absurd cc
  refused_goes sound fault.DiskFault wal stopped others after saved untouched = failed_goes sound wal (stopped refl) after saved.1
  refused_goes sound fault.Memory wal stopped others after saved untouched =
      subst (λ (w : HeldLog D). Goes {D = D} old new (record { wal = w; slots = after }) n (Saves {A = Unit {0}} n (Err fault.Memory)) (SaveLeaves n))
      (sym (others (λ is. absurd cc))) (unsaved_goes sound after saved.1 (untouched refl))
  refused_goes sound fault.BadName wal stopped others after saved untouched = absurd saved
  refused_goes sound fault.Duplicate wal stopped others after saved untouched = absurd saved
  refused_goes sound (fault.Full limit) wal stopped others after saved untouched = absurd saved
  refused_goes sound fault.NoSlot wal stopped others after saved untouched = absurd saved
  refused_goes sound (fault.InUse session) wal stopped others after saved untouched = absurd saved
  refused_goes sound (fault.BadSlots place) wal stopped others after saved untouched = absurd saved
