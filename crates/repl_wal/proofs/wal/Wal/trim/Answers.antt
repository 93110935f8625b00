-- The floor is raised, or the log stays or stops.
use Rattle.std.proofs.Common.{◌≡◌, ℕ, Option, Ok, Err, sym, ◌∙◌, subst}
use Rattle.repl_store.specs.Backing.{CanRaise}
use Rattle.repl_store.specs.declared.store.StoreStatus.{StoreStatus}
use Rattle.repl_wal.specs.Faults.{of_store}
use Rattle.repl_wal.specs.Holding.{Comes, HeldLog, Holds, Remembers, held_of, memory_of}
use Rattle.repl_wal.specs.Keeping.{TrimLeaves, Trims}
use Rattle.repl_wal.specs.State.{LogState, status_of_log}
use Rattle.repl_wal.specs.declared.fault.NodeFault.{NodeFault}
use Rattle.repl_wal.proofs.Ending.{none_of, not_broken, running, same_status, untold, untold_holds}
use Rattle.repl_wal.proofs.Keeping.{can_raise}
use Rattle.repl_wal.proofs.Trimming.{trimmed_comes, untrimmed_comes}
use Rattle.repl_wal.proofs.wal.Wal.trim.Goals as goal

pub raise_floor-requires : goal.raise_floor-requires
raise_floor-requires g c =
    let old : HeldLog g.row.D.Denot = held_of c.self.inside.store c.self.inside.walker c.self.inside.stopped in
    let n = c.self.invariant.0 in
    let runs = running old n (none_of old.log.stopped (sym c.if-is_some.ensures)) c.self.invariant.1 in
    let as_log : c.status-before.result ≡ status_of_log n = c.status-before.ensures.told ∙ same_status old.log.head old.log.walker n runs.2 in
    subst (CanRaise old.log.head) (sym (c.floor_after-floor.ensures n as_log)) (can_raise old.log.head old.log.walker n c.args.restart c.args.keep
    c.status-before.ensures.right runs.2)

pub returns-in-Ok-clause-steps : goal.returns-in-Ok-clause-steps
returns-in-Ok-clause-steps g c n =
    let state = g.D.Disk.state in
    let old : HeldLog g.row.D.Denot = held_of c.self.inside.store c.self.inside.walker c.self.inside.stopped in
    let now = c.raise_floor.new.self in
    let floor = c.floor_after-floor.result in
    let restart = c.args.restart in
    let keep = c.args.keep in
    let next : HeldLog g.row.D.Denot = held_of now old.log.walker old.log.stopped in
    let Goes : HeldLog g.row.D.Denot → Type 0 = λ h. Holds (state h.disk) h.log n → Comes {A = ℕ} (Ok floor) (state h.disk)
    (state now.disk) next.log n (Trims n restart keep (Ok floor)) (TrimLeaves n restart keep) in
    let here : Goes old = λ holds.
    let none = none_of old.log.stopped (sym c.if-is_some.ensures) in
    let runs = running old n none holds.remembers in
    let as_log : c.status-before.result ≡ status_of_log n = c.status-before.ensures.told ∙ same_status old.log.head old.log.walker n runs.2 in
    trimmed_comes (state old.disk) (state now.disk) old now n restart keep floor holds none c.status-before.ensures.right
    (c.floor_after-floor.ensures n as_log) c.in-Ok.ensures.ok c.in-Ok.ensures.breaks c.in-Ok.ensures.comes in
    subst Goes c.self.view_is here

pub invariant_of-self : goal.invariant_of-self
invariant_of-self g c =
    let state = g.D.Disk.state in
    let old : HeldLog g.row.D.Denot = held_of c.self.inside.store c.self.inside.walker c.self.inside.stopped in
    let now = c.raise_floor.new.self in
    let n = untold c.self.invariant.0 in
    let holds = untold_holds (state old.disk) old c.self.invariant.0 c.self.invariant.1 in
    let none = none_of old.log.stopped (sym c.if-is_some.ensures) in
    let runs = running old n none holds.remembers in
    let as_log : c.status-before.result ≡ status_of_log n = c.status-before.ensures.told ∙ same_status old.log.head old.log.walker n runs.2 in
    let comes = trimmed_comes (state old.disk) (state now.disk) old now n c.args.restart c.args.keep c.floor_after-floor.result holds none
    c.status-before.ensures.right (c.floor_after-floor.ensures n as_log) c.in-Ok.ensures.ok c.in-Ok.ensures.breaks c.in-Ok.ensures.comes in
    (comes.next, comes.holds.remembers)

pub returns-in-Err-clause-steps : goal.returns-in-Err-clause-steps
returns-in-Err-clause-steps g c n =
    let state = g.D.Disk.state in
    let old : HeldLog g.row.D.Denot = held_of c.self.inside.store c.self.inside.walker c.self.inside.stopped in
    let now = c.raise_floor.new.self in
    let f = c.in-Err.fault in
    let restart = c.args.restart in
    let keep = c.args.keep in
    let Left : NodeFault → Option StoreStatus → HeldLog g.row.D.Denot → Type 0 = λ e. λ s. λ h. Comes {A = ℕ} (Err e) (state h.disk)
    (state now.disk) (memory_of now old.log.walker s) n (Trims n restart keep (Err e)) (TrimLeaves n restart keep) in
    let Goes : HeldLog g.row.D.Denot → Type 0 = λ h. Holds (state h.disk) h.log n → Left c.stop.result c.stop.new.stopped h in
    let here : Goes old = λ holds.
    let none = none_of old.log.stopped (sym c.if-is_some.ensures) in
    let runs = running old n none holds.remembers in
    let as_log : c.status-before.result ≡ status_of_log n = c.status-before.ensures.told ∙ same_status old.log.head old.log.walker n runs.2 in
    let comes = untrimmed_comes (state old.disk) (state now.disk) old now n restart keep c.floor_after-floor.result f c.status-before.result
    holds none c.status-before.ensures.right (c.floor_after-floor.ensures n as_log) c.status-before.ensures.told c.in-Err.ensures.stays
    c.in-Err.ensures.caused (not_broken f old.log.failed runs.1 c.in-Err.ensures.broken) c.in-Err.ensures.breaks c.in-Err.ensures.comes in
    subst (λ (e : NodeFault). Left e c.stop.new.stopped old) (sym c.stop.ensures.answer) (subst (λ (s : Option StoreStatus). Left (of_store f) s
    old) (sym c.stop.ensures.stopped) comes) in
    subst Goes c.self.view_is here

pub invariant_of-self-in-Err : goal.invariant_of-self-in-Err
invariant_of-self-in-Err g c =
    let state = g.D.Disk.state in
    let old : HeldLog g.row.D.Denot = held_of c.self.inside.store c.self.inside.walker c.self.inside.stopped in
    let now = c.raise_floor.new.self in
    let f = c.in-Err.fault in
    let n = untold c.self.invariant.0 in
    let holds = untold_holds (state old.disk) old c.self.invariant.0 c.self.invariant.1 in
    let none = none_of old.log.stopped (sym c.if-is_some.ensures) in
    let runs = running old n none holds.remembers in
    let as_log : c.status-before.result ≡ status_of_log n = c.status-before.ensures.told ∙ same_status old.log.head old.log.walker n runs.2 in
    let comes = untrimmed_comes (state old.disk) (state now.disk) old now n c.args.restart c.args.keep c.floor_after-floor.result f
    c.status-before.result holds none c.status-before.ensures.right (c.floor_after-floor.ensures n as_log) c.status-before.ensures.told
    c.in-Err.ensures.stays c.in-Err.ensures.caused (not_broken f old.log.failed runs.1 c.in-Err.ensures.broken) c.in-Err.ensures.breaks
    c.in-Err.ensures.comes in
    subst (λ (s : Option StoreStatus). (x : LogState) × Remembers (memory_of now old.log.walker s) x)
    (sym c.stop.ensures.stopped) (comes.next, comes.holds.remembers)
