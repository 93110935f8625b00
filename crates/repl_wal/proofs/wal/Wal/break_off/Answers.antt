-- What runs is remembered from here on.
use Rattle.std.proofs.Common.{◌≡◌, Some, not, ap, refl, ◌∙◌, inr}
use Rattle.repl_wal.specs.Holding.{HeldLog, held_of}
use Rattle.repl_wal.specs.State.{breaking, status_of_log}
use Rattle.repl_wal.proofs.Ending.{none_of, running, same_status}
use Rattle.repl_wal.proofs.wal.Wal.break_off.Goals as goal

pub invariant_of-self : goal.invariant_of-self
invariant_of-self g c =
    let old : HeldLog g.row.D.Denot = held_of c.self.inside.store c.self.inside.walker c.self.inside.stopped in
    let n = c.self.invariant.0 in
    let runs = running old n (none_of old.log.stopped (c.is_none.ensures ∙ ap not c.if-is_none.true)) c.self.invariant.1 in
    let told : c.status.result ≡ status_of_log n = c.status.ensures.told ∙ same_status old.log.head old.log.walker n runs.2 in (
      breaking n,
      inr (ap (λ s. Some s) told, refl, runs.2.path),
    )
