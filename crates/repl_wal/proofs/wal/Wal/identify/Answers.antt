-- A log that runs is right.
use Rattle.std.proofs.Common.{◌≡◌, false, subst}
use Rattle.repl_wal.specs.Holding.{HeldLog, Remembers, held_of}
use Rattle.repl_wal.specs.State.{IsLog}
use Rattle.repl_wal.proofs.Ending.{running}
use Rattle.repl_wal.proofs.Lawful.{is_log}
use Rattle.repl_wal.proofs.wal.Wal.identify.Goals as goal

pub returns-in-None-clause-right : goal.returns-in-None-clause-right
returns-in-None-clause-right g c n =
    let held : HeldLog g.row.D.Denot = held_of c.self.inside.store c.self.inside.walker c.self.inside.stopped in
    let Right : HeldLog g.row.D.Denot → Type 0 = λ h. Remembers h.log n → n.broken ≡ false → IsLog n in
    let here : Right held = λ remembers sound. is_log held.log.head held.log.walker n c.status.ensures.right
    (running held n c.in-None.is remembers).2 in
    subst Right c.self.view_is here
