-- What was walked is the log that runs.
use Rattle.std.proofs.Common.{◌⊎◌, [], refl, sym, subst, inl, inr, arith}
use Rattle.repl_effects.specs.Counts.{Rose}
use Rattle.repl_record.specs.declared.walker.Walker.{Walker}
use Rattle.repl_store.specs.Backing.{Backs, State}
use Rattle.repl_store.specs.Head.{Head}
use Rattle.repl_wal.specs.Holding.{Runs}
use Rattle.repl_wal.specs.Making.{IsFailure, IsWalkRefusal, IsWrongTail, TakenOf, mounted_log}
use Rattle.repl_disk.specs.State.{DiskState}
use Rattle.repl_wal.specs.declared.fault.OpenFault.{OpenFault}
use Rattle.repl_wal.proofs.Mounting.{stood_at, taken_none, taken_of_none, walked_log, walked_state}
use Rattle.repl_wal.proofs.Opening.{backs_reads}
use Rattle.repl_wal.proofs.mount.walk_on.Goals as goal

pub walk_flushed-requires-clause-taken : goal.walk_flushed-requires-clause-taken
walk_flushed-requires-clause-taken g c =
    taken_none c.args.store.head c.status-status.result c.new-walker.result c.status-status.ensures.right c.status-status.ensures.told
    c.new-walker.ensures.stands c.new-walker.ensures.ident

pub walk_flushed-requires-clause-within : goal.walk_flushed-requires-clause-within
walk_flushed-requires-clause-within g c =
    let head = c.args.store.head in
    let right = c.status-status.ensures.right in
    omega (
      arith,
      stood_at head c.status-status.result c.new-walker.result right c.status-status.ensures.told c.new-walker.ensures.stands
          c.new-walker.ensures.ident,
      right.right.whole.2,
    )

pub invariant_of-result : goal.invariant_of-result
invariant_of-result g c =
    let head = c.args.store.head in
    let w = c.walk_flushed.new.walker in
    let is = c.in-Ok.ensures in
    let found = walked_state head w c.status-status.ensures.right is.taken.0 is.taken.1 c.requires.written in
    (found.0, inl (refl, found.1, is.sound, subst (λ (h : Head). Runs h w found.0) (sym is.head) found.2))

pub returns-in-Ok-clause-stands : goal.returns-in-Ok-clause-stands
returns-in-Ok-clause-stands g c = invariant_of-result g c

pub returns-in-Ok-clause-holds : goal.returns-in-Ok-clause-holds
returns-in-Ok-clause-holds g c d backs =
    let state = g.D.Disk.state in
    let head = c.args.store.head in
    let w = c.walk_flushed.new.walker in
    let is = c.in-Ok.ensures in
    let s : State = record { durable = d; unflushed = [] } in
    let right = c.status-status.ensures.right in
    let first = taken_of_none head c.status-status.result c.new-walker.result right c.status-status.ensures.told c.new-walker.ensures.stands
    c.new-walker.ensures.ident s in
    let reached = is.of_state s backs first in
    let runs = walked_log (state c.args.store.disk) head w d right is.taken.0 is.taken.1 c.requires.written backs reached in
    record {
      remembers = inl (refl, refl, is.sound, subst (λ (h : Head). Runs h w (mounted_log head.size d)) (sym is.head) runs);
      backs = λ _ _. subst (λ (h : Head). Backs (state c.walk_flushed.new.store.disk) h s) (sym is.head)
          (backs_reads (state c.args.store.disk) (state c.walk_flushed.new.store.disk) head s is.reads backs);
    }

refuses : (disk : DiskState) (head : Head) (w : Walker) (e : OpenFault) → ((s : State) → TakenOf s head w) → IsWalkRefusal disk head w e
    → IsFailure e ⊎ ((s : State) → Backs disk head s → IsWrongTail head.size s.durable e)
refuses disk head w e first (inl failed) = inl failed
refuses disk head w e first (inr wrong) = inr (λ s backs. wrong s backs (first s))

pub returns-in-Err-clause-refused : goal.returns-in-Err-clause-refused
returns-in-Err-clause-refused g c =
    let head = c.args.store.head in
    let first = taken_of_none head c.status-status.result c.new-walker.result c.status-status.ensures.right c.status-status.ensures.told
    c.new-walker.ensures.stands c.new-walker.ensures.ident in
    refuses (g.D.Disk.state c.args.store.disk) head c.new-walker.result c.in-Err.fault first c.in-Err.ensures.refused

pub returns-in-Err-clause-failed : goal.returns-in-Err-clause-failed
returns-in-Err-clause-failed g c is s backs =
    let state = g.D.Disk.state in
    subst (λ (d : g.row.D.Denot). Rose (state c.args.store.disk).faults (state d).faults) (sym c.into_disk.ensures) (c.in-Err.ensures.failed is s backs)
