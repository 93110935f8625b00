-- What is written is flushed under a control of a standby, or the log stays or stops.
use Rattle.std.proofs.Common.{◌≡◌, ℕ, Ok, Err, refl, sym, ◌∙◌, subst, inl, inr}
use Rattle.repl_control.specs.declared.control.Role.TheVariants.{Primary, Standby}
use Rattle.repl_record.specs.Walker.{last_end, last_start}
use Rattle.repl_store.specs.Backing.{CanFlush, Either, flushed}
use Rattle.repl_store.specs.Durable.{Durable}
use Rattle.repl_store.specs.Head.{IsHead}
use Rattle.repl_wal.specs.Holding.{Comes, HeldLog, Holds, Runs, held_of}
use Rattle.repl_wal.specs.State.{EndsLast, LogState, flushed_log, role_of}
use Rattle.repl_wal.specs.Steps.{Never, Old, Only}
use Rattle.repl_wal.specs.Writing.{DemoteLeaves, Demotes, IsDemoteRefusal, IsDemoted}
use Rattle.repl_wal.specs.declared.fault.NodeFault.TheVariants as fault
use Rattle.repl_wal.proofs.Ending.{certain_at, none_of, refused_at, refused_comes, role_told, running, standby_not, untold, untold_holds, untouched}
use Rattle.repl_wal.proofs.Running.{can_flush, walked_last}
use Rattle.repl_wal.proofs.wal.Wal.demote.Goals as goal

-- what a crash in the store's call leaves is what one in the log's may leave
leaves : {D : Type 0} (old : HeldLog D) (n : LogState) (end last : ℕ) → IsHead old.log.head → Runs old.log.head old.log.walker n
    → end ≡ last_end old.log.walker → last ≡ last_start old.log.walker
    → (d : Durable) → Either n.kept.durable (flushed n.kept Standby end last).durable d → DemoteLeaves n d
leaves old n end last is runs end_is last_is d (inl was) = inl was
leaves old n end last is runs end_is last_is d (inr made) =
    let Last : ℕ → ℕ → Type 0 = λ e. λ l. EndsLast n e l in
    let greatest : Last end last = subst (λ (e : ℕ). Last e last) (sym end_is) (subst (Last (last_end old.log.walker)) (sym last_is)
    (walked_last old.log.head old.log.walker n is runs)) in
    inr (tt, flushed_log n Standby end last, (end, last, greatest, refl), made)

pub returns-then-is_standby-clause-steps : goal.returns-then-is_standby-clause-steps
returns-then-is_standby-clause-steps g c n =
    let state = g.D.Disk.state in
    let old : HeldLog g.row.D.Denot = held_of c.self.inside.store c.self.inside.walker c.self.inside.stopped in
    let Goes : HeldLog g.row.D.Denot → Type 0 = λ h. Holds (state h.disk) h.log n → Comes {A = Unit {0}} (Err fault.NotPrimary)
    (state h.disk) (state h.disk) h.log n (Demotes n (Err fault.NotPrimary)) (DemoteLeaves n) in
    let here : Goes old = λ holds.
    let runs = running old n (none_of old.log.stopped (sym c.if-is_some.ensures)) holds.remembers in
    let standby : role_of n ≡ Standby = sym (role_told c.status-before.result old.log.head n c.status-before.ensures.told runs.2.control)
    ∙ c.is_standby.ensures.0 c.if-is_standby.true in
    untouched (Err fault.NotPrimary) (state old.disk) old n (Demotes n (Err fault.NotPrimary)) (DemoteLeaves n)
    (g.met.D.Disk.only_now old.disk) holds (runs.0, standby, refl) (λ d was. inl was) (λ is. absurd cc) in
    subst Goes c.self.view_is here

pub set_role-requires : goal.set_role-requires
set_role-requires g c =
    let held : HeldLog g.row.D.Denot = held_of c.self.inside.store c.self.inside.walker c.self.inside.stopped in
    let head = held.log.head in
    let n = c.self.invariant.0 in
    let runs = running held n (none_of held.log.stopped (sym c.if-is_some.ensures)) c.self.invariant.1 in
    let can = can_flush head held.log.walker n Standby c.status-before.ensures.right runs.2 (λ is. absurd cc) in
    subst (λ (e : ℕ). CanFlush head Standby e c.last_start.result) (sym c.last_end-whole.ensures)
    (subst (CanFlush head Standby (last_end held.log.walker)) (sym c.last_start.ensures) can)

pub returns-in-Ok-clause-steps : goal.returns-in-Ok-clause-steps
returns-in-Ok-clause-steps g c n =
    let state = g.D.Disk.state in
    let old : HeldLog g.row.D.Denot = held_of c.self.inside.store c.self.inside.walker c.self.inside.stopped in
    let now = c.set_role.new.self in
    let head = old.log.head in
    let next : HeldLog g.row.D.Denot = held_of now old.log.walker old.log.stopped in
    let Goes : HeldLog g.row.D.Denot → Type 0 = λ h. Holds (state h.disk) h.log n → Comes {A = Unit {0}} (Ok tt) (state h.disk)
    (state now.disk) next.log n (Demotes n (Ok tt)) (DemoteLeaves n) in
    let here : Goes old = λ holds.
    let none = none_of old.log.stopped (sym c.if-is_some.ensures) in
    let runs = running old n none holds.remembers in
    let not : c.status-before.result.role ≡ Standby → ⊥ = λ is. (let yes = c.is_standby.ensures.1 is in absurd cc) in
    let primary : role_of n ≡ Primary = sym (role_told c.status-before.result head n c.status-before.ensures.told runs.2.control)
    ∙ standby_not c.status-before.result.role not in
    certain_at (IsDemoteRefusal n) (role_of n ≡ Primary) (IsDemoted n) (Only n) (state old.disk) (state now.disk) old now n tt Standby
    c.last_end-whole.result c.last_start.result c.last_end-whole.ensures c.last_start.ensures holds none c.status-before.ensures.right primary
    (λ is. absurd cc) (
      last_end old.log.walker,
      last_start old.log.walker,
      walked_last head old.log.walker n c.status-before.ensures.right runs.2,
      refl,
    )
    c.in-Ok.ensures.ok c.in-Ok.ensures.breaks c.in-Ok.ensures.comes in
    subst Goes c.self.view_is here

pub invariant_of-self : goal.invariant_of-self
invariant_of-self g c =
    let state = g.D.Disk.state in
    let old : HeldLog g.row.D.Denot = held_of c.self.inside.store c.self.inside.walker c.self.inside.stopped in
    let now = c.set_role.new.self in
    let n = untold c.self.invariant.0 in
    let holds = untold_holds (state old.disk) old c.self.invariant.0 c.self.invariant.1 in
    let none = none_of old.log.stopped (sym c.if-is_some.ensures) in
    let comes = certain_at {A = Unit {0}} Never (Unit {0}) (λ a m. Unit {0}) (Only n) (state old.disk) (state now.disk) old now n tt Standby
    c.last_end-whole.result c.last_start.result c.last_end-whole.ensures c.last_start.ensures holds none c.status-before.ensures.right tt
    (λ is. absurd cc) tt c.in-Ok.ensures.ok c.in-Ok.ensures.breaks c.in-Ok.ensures.comes in
    (comes.next, comes.holds.remembers)

pub returns-in-Err-clause-steps : goal.returns-in-Err-clause-steps
returns-in-Err-clause-steps g c n =
    let state = g.D.Disk.state in
    let old : HeldLog g.row.D.Denot = held_of c.self.inside.store c.self.inside.walker c.self.inside.stopped in
    let now = c.set_role.new.self in
    let e = c.stop.result in
    let next : HeldLog g.row.D.Denot = held_of now old.log.walker c.stop.new.stopped in
    let Goes : HeldLog g.row.D.Denot → Type 0 = λ h. Holds (state h.disk) h.log n → Comes {A = Unit {0}} (Err e) (state h.disk)
    (state now.disk) next.log n (Demotes n (Err e)) (DemoteLeaves n) in
    let here : Goes old = λ holds.
    let none = none_of old.log.stopped (sym c.if-is_some.ensures) in
    let runs = running old n none holds.remembers in
    let not : c.status-before.result.role ≡ Standby → ⊥ = λ is. (let yes = c.is_standby.ensures.1 is in absurd cc) in
    let primary : role_of n ≡ Primary = sym (role_told c.status-before.result old.log.head n c.status-before.ensures.told runs.2.control)
    ∙ standby_not c.status-before.result.role not in
    let done = flushed n.kept Standby c.last_end-whole.result c.last_start.result in
    refused_at {A = Unit {0}} (IsDemoteRefusal n) (role_of n ≡ Primary) (IsDemoted n) (Only n) (state old.disk) (state now.disk) old now n
    (DemoteLeaves n) c.in-Err.fault c.status-before.result e c.stop.new.stopped holds none primary refl c.status-before.ensures.told
    c.in-Err.ensures.stays c.in-Err.ensures.caused c.in-Err.ensures.broken c.in-Err.ensures.breaks (λ t b. refused_comes (Either
    n.kept.durable done.durable) (DemoteLeaves n) c.in-Err.fault (state old.disk) (state now.disk) now.head done n
    (c.in-Err.ensures.stays.same_size ∙ runs.2.size) (leaves old n c.last_end-whole.result c.last_start.result c.status-before.ensures.right
    runs.2 c.last_end-whole.ensures c.last_start.ensures) (c.in-Err.ensures.comes n.kept (holds.backs t b))) c.stop.ensures.answer
    c.stop.ensures.stopped in
    subst Goes c.self.view_is here

pub invariant_of-self-in-Err : goal.invariant_of-self-in-Err
invariant_of-self-in-Err g c =
    let state = g.D.Disk.state in
    let old : HeldLog g.row.D.Denot = held_of c.self.inside.store c.self.inside.walker c.self.inside.stopped in
    let now = c.set_role.new.self in
    let n = untold c.self.invariant.0 in
    let holds = untold_holds (state old.disk) old c.self.invariant.0 c.self.invariant.1 in
    let none = none_of old.log.stopped (sym c.if-is_some.ensures) in
    let comes = refused_at {A = Unit {0}} Never (Unit {0}) (λ a m. Unit {0}) (Only n) (state old.disk) (state now.disk) old now n (Old n)
    c.in-Err.fault c.status-before.result c.stop.result c.stop.new.stopped holds none tt refl c.status-before.ensures.told c.in-Err.ensures.stays
    c.in-Err.ensures.caused c.in-Err.ensures.broken c.in-Err.ensures.breaks (λ t b. absurd cc) c.stop.ensures.answer c.stop.ensures.stopped in
    (comes.next, comes.holds.remembers)
