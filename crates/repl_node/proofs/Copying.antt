-- What a copy leaves of its disk, from which the slots go first.
use Rattle.std.proofs.Common.{◌≡◌, ℕ, [], false, Result, Ok, Err, IfOk, IfErr, inl, inr, ⊎_elim, refl, ap, ◌∙◌}
use Rattle.repl_clone.specs.Copied.{IsCopying}
use Rattle.repl_disk.specs.Crash.{LeavesOnly}
use Rattle.repl_disk.specs.Folder.{Folder}
use Rattle.repl_disk.specs.Moments.{joined, weakened}
use Rattle.repl_disk.specs.State.{DiskState}
use Rattle.repl_slots.specs.Stored.{slots_name}
use Rattle.repl_store.specs.Apart.{IsLikeOne, StaysApart}
use Rattle.repl_store.specs.Durable.{Durable, control_name}
use Rattle.repl_wal.specs.Cloning.{IsKnownSource}
use Rattle.repl_wal.specs.Holding.{HeldLog, disk_after as log_disk_after}
use Rattle.repl_wal.specs.State.{LogState, own_timeline}
use Rattle.repl_wal.specs.declared.fault.NodeFault.{NodeFault}
use Rattle.repl_node.specs.Cloning.{IsCopyingNode}
use Rattle.repl_node.specs.Holding.{HeldNode, disk_after}
use Rattle.repl_node.specs.Making.{HasNoSlots, IsClearing}
use Rattle.repl_node.proofs.Begun.{is_some_as, known_on}
use Rattle.repl_node.proofs.Passing.{both, told}

-- ---- images

-- while the slots go
pub copying_cleared : (old : DiskState) (size : ℕ) (d : Durable) (image : Folder) → IsClearing old.may_leave image → IsCopyingNode old size d image
copying_cleared old size d image cleared = record {
  log = inl (cleared.before, cleared.was, cleared.others control_name (λ is. absurd cc));
  slots = ⊎_elim (λ same. inl (cleared.before, cleared.was, same)) (λ none. inr none) cleared.slots;
}

module _ (old mid : DiskState) (folder : Folder) (slots : HasNoSlots old mid folder) where
  -- while the log is copied
  copying_copied : (size : ℕ) (d : Durable) (image : Folder) → IsCopying mid.may_leave size d image × IsLikeOne mid.may_leave image
      → IsCopyingNode old size d image
  copying_copied size d image (copying, like) =
      let same : image slots_name ≡ like.0 slots_name = like.2 slots_name (inl refl) in
      let was = slots.images like.0 like.1 in
      record {
        log = elim copying [
          | inl one ↦
              let cleared = slots.images one.0 one.1 in
              inl (cleared.before, cleared.was, one.2 ∙ cleared.others control_name (λ is. absurd cc))
          | inr copy ↦ inr (copy, λ agree. same ∙ slots.agrees agree like.0 like.1)
        ];
        slots = ⊎_elim (λ there. inl (was.before, was.was, same ∙ there)) (λ none. inr (same ∙ none)) was.slots;
      }

  -- a crash at any moment of both
  pub copying_moments : (new : DiskState) (size : ℕ) (d : Durable) → LeavesOnly old mid (IsClearing old.may_leave)
      → LeavesOnly mid new (IsCopying mid.may_leave size d) → StaysApart mid new → LeavesOnly old new (IsCopyingNode old size d)
  copying_moments new size d first second apart =
      let Q = IsCopyingNode old size d in
      joined old mid new Q (weakened old mid (IsClearing old.may_leave) Q first (copying_cleared old size d))
      (weakened mid new (λ image. IsCopying mid.may_leave size d image × IsLikeOne mid.may_leave image) Q
      (both mid new (IsCopying mid.may_leave size d) (IsLikeOne mid.may_leave) second (told mid slots.after slots.told apart.moments))
      (copying_copied size d))

  -- the log's source is known to it as to the node
  pub known_past : {E : Type 0} (source : DiskState) (held : HeldLog E) (n : LogState) (known : ℕ) → IsKnownSource source held.log old n known
      → IsKnownSource source held.log mid n known
  known_past source held n known is = record {
    holds = is.holds;
    told = is.told;
    size = is.size;
    files = is_some_as mid.files slots.after slots.told;
    heard = λ image left. known_on old.may_leave image (own_timeline n) known is.heard (slots.images image left);
  }

-- ---- the log's answer, and the node's

-- the disk after the node's call is the one after the log's
pub same_disk : {D : Type 0} (log : Result (HeldLog D) (NodeFault × D)) (result : Result (HeldNode D) (NodeFault × D))
    → IfOk result (λ node. (log ≡ Ok node.wal) × (node.slots ≡ record { slots = []; broken = false })) → IfErr result (λ e. log ≡ Err e)
    → log_disk_after log ≡ disk_after result
same_disk log (Ok node) made refused = ap log_disk_after made.0
same_disk log (Err e) made refused = ap log_disk_after refused
