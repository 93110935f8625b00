-- Files that stand for a store and for slots: no damage can be told of them, and what is printed of the store is theirs.
use Rattle.std.proofs.Common.{◌≡◌, ◌<◌, ℕ, List, refl, inl, inr, arith}
use Rattle.repl_control.specs.declared.control.TheConstants.{VERSION_1_SIZE}
use Rattle.repl_disk.specs.Folder.{Folder}
use Rattle.repl_exit.specs.declared.damage.DamageReason.{DamageReason}
use Rattle.repl_store.proofs.Refusals.{unrefused}
use Rattle.repl_store.specs.Durable.{Durable, StandsFor}
use Rattle.repl_store.specs.Head.{Head, IsMounted}
use Rattle.repl_store.specs.Head as head
use Rattle.repl_admin.proofs.Slotting.{no_damage, slots_apart}
use Rattle.repl_admin.specs.Files.{HasSlots}
use Rattle.repl_admin.specs.Tending.{IsDamaged, status_of}

some : 0 < VERSION_1_SIZE
some = omega arith

pub undamaged : (folder : Folder) (d : Durable) → StandsFor VERSION_1_SIZE folder d → HasSlots folder → (name : List ℕ) (place : ℕ)
    (why : DamageReason) → IsDamaged folder name place why → ⊥
undamaged folder d stands slots name place why (inl bad) = slots_apart folder place slots bad.0
undamaged folder d stands slots name place why (inr (e, before, wrong, is)) =
    no_damage e name place why (unrefused VERSION_1_SIZE folder d some stands e wrong) is

-- what a store tells of itself that was just mounted
pub status_same : (h : Head) (d : Durable) → IsMounted h VERSION_1_SIZE d → head.status_of h ≡ status_of d
status_same h d mounted = rw (mounted.same_size, mounted.same_control, mounted.flushed.0) refl
