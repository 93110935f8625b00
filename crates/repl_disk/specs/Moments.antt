-- How a run of calls goes on, for whoever proves what a crash at any of its moments leaves.
use Rattle.std.proofs.Common.{inl, inr, ⊎_elim, arith}
use Rattle.repl_disk.specs.Crash.{Elapses, LeavesOnly}
use Rattle.repl_disk.specs.Folder.{Folder}
use Rattle.repl_disk.specs.State.{DiskState}

-- before the first call
pub started : (old : DiskState) (P : Folder → Type 0) → ((image : Folder) → old.left_since old.moment image → P image)
    → LeavesOnly old old P
started old P here = record { later = omega arith; each = here; before = λ t image le left. inl left }

-- one call more, after which a crash leaves what has P
pub goes_on : (old mid new : DiskState) (P : Folder → Type 0) → LeavesOnly old mid P → Elapses mid new
    → ((image : Folder) → new.may_leave image → P image) → LeavesOnly old new P
goes_on old mid new P so_far time here = record {
  later = omega (arith, so_far.later, time.later);
  each = λ image left. ⊎_elim (so_far.each image) (here image) (time.nothing_else old.moment image so_far.later left);
  before = λ t image le left. ⊎_elim (so_far.before t image le) (λ now. inr (here image now))
      (time.nothing_else t image (omega (arith, le, so_far.later)) left);
}

-- two runs, one after the other
pub joined : (old mid new : DiskState) (P : Folder → Type 0) → LeavesOnly old mid P → LeavesOnly mid new P → LeavesOnly old new P
joined old mid new P first second = record {
  later = omega (arith, first.later, second.later);
  each = λ image left. ⊎_elim (first.each image) (λ p. p) (second.before old.moment image first.later left);
  before = λ t image le left. ⊎_elim (first.before t image le) (λ p. inr p) (second.before t image (omega (arith, le, first.later)) left);
}

-- what has P has Q
pub weakened : (old new : DiskState) (P Q : Folder → Type 0) → LeavesOnly old new P → ((image : Folder) → P image → Q image)
    → LeavesOnly old new Q
weakened old new P Q so_far leads = record {
  later = so_far.later;
  each = λ image left. leads image (so_far.each image left);
  before = λ t image le left. ⊎_elim inl (λ p. inr (leads image p)) (so_far.before t image le left);
}
