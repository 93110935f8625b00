-- The text is that of the log's path.
use Rattle.std.proofs.Common.{◌≡◌, ◌≢◌, List, ℕ, false, refl, sym, ◌∙◌, subst}
use Rattle.repl_lsn.specs.History.{Path}
use Rattle.repl_wal.specs.Holding.{HeldLog, Remembers, held_of}
use Rattle.repl_wal.specs.State.{path_of}
use Rattle.repl_wal.specs.Telling.{IsHistoryOf}
use Rattle.repl_wal.proofs.Ending.{none_of, running}
use Rattle.repl_wal.proofs.wal.Wal.history.Goals as goal

pub returns-in-Ok : goal.returns-in-Ok
returns-in-Ok g c n =
    let held : HeldLog g.row.D.Denot = held_of c.self.inside.store c.self.inside.walker c.self.inside.stopped in
    let text : List ℕ = c.in-Ok.text.items in
    let Told : HeldLog g.row.D.Denot → Type 0 = λ h. Remembers h.log n → (n.broken ≡ false) × (c.args.tli ≢ 1)
    × (IsHistoryOf (path_of n) c.args.tli text × (n ≡ n)) in
    let here : Told held = λ remembers.
    let runs = running held n (none_of held.log.stopped (sym c.if-is_some.ensures)) remembers in
    let path = c.path.ensures ∙ runs.2.path in
    (runs.0, c.in-Ok.ensures.told.0, (subst (λ (p : Path). IsHistoryOf p c.args.tli text) path c.in-Ok.ensures.told.1, refl)) in
    subst Told c.self.view_is here
