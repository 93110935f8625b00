-- The log goes on with the child, or it stays or stops.
use Rattle.std.proofs.Common.{◌≡◌, Ok, Err, sym, ◌∙◌, subst, inl}
use Rattle.repl_control.specs.declared.control.Role.TheVariants.{Standby}
use Rattle.repl_store.specs.Backing.{CanSwitch}
use Rattle.repl_store.specs.declared.store.StoreStatus.{StoreStatus}
use Rattle.repl_wal.specs.Following.{FollowLeaves, Follows}
use Rattle.repl_wal.specs.Holding.{Comes, HeldLog, Holds, held_of}
use Rattle.repl_wal.specs.State.{status_of_log}
use Rattle.repl_wal.proofs.Ending.{failure, none_of, running, same_status, untold, untold_holds, untouched}
use Rattle.repl_wal.proofs.Following.{can_switch, followed_comes, unfollowed, unfollowed_comes}
use Rattle.repl_wal.proofs.wal.Wal.follow.Goals as goal

pub returns-in-Err-clause-steps : goal.returns-in-Err-clause-steps
returns-in-Err-clause-steps g c n =
    let state = g.D.Disk.state in
    let old : HeldLog g.row.D.Denot = held_of c.self.inside.store c.self.inside.walker c.self.inside.stopped in
    let e = c.in-Err.fault in
    let child = c.args.child.now in
    let Goes : HeldLog g.row.D.Denot → Type 0 = λ h. Holds (state h.disk) h.log n → Comes {A = Unit {0}} (Err e) (state h.disk)
    (state h.disk) h.log n (Follows n child (Err e)) (FollowLeaves n child) in
    let here : Goes old = λ holds.
    let runs = running old n (none_of old.log.stopped (sym c.if-is_some.ensures)) holds.remembers in
    let as_log : c.status-before.result ≡ status_of_log n = c.status-before.ensures.told ∙ same_status old.log.head old.log.walker n runs.2 in
    let said = unfollowed n child e runs.0 (c.in-Err.ensures.refused n as_log (c.path.ensures ∙ runs.2.path)) in
    untouched (Err e) (state old.disk) old n (Follows n child (Err e)) (FollowLeaves n child) (g.met.D.Disk.only_now old.disk) holds
    said.0 (λ d was. inl was) (λ is. said.1 (failure {A = Unit {0}} e is)) in
    subst Goes c.self.view_is here

pub switch-requires : goal.switch-requires
switch-requires g c =
    let old : HeldLog g.row.D.Denot = held_of c.self.inside.store c.self.inside.walker c.self.inside.stopped in
    let head = old.log.head in
    let child = c.args.child.now in
    let n = c.self.invariant.0 in
    let runs = running old n (none_of old.log.stopped (sym c.if-is_some.ensures)) c.self.invariant.1 in
    let as_log : c.status-before.result ≡ status_of_log n = c.status-before.ensures.told ∙ same_status head old.log.walker n runs.2 in
    let can = c.in-Ok.ensures.can n as_log (c.path.ensures ∙ runs.2.path) in
    subst (λ (s : StoreStatus). CanSwitch head child Standby s.whole s.prev) (sym c.status-before.ensures.told) (can_switch head old.log.walker n child
    c.status-before.ensures.right runs.2 can)

pub returns-in-Ok-switch-clause-steps : goal.returns-in-Ok-switch-clause-steps
returns-in-Ok-switch-clause-steps g c n =
    let state = g.D.Disk.state in
    let old : HeldLog g.row.D.Denot = held_of c.self.inside.store c.self.inside.walker c.self.inside.stopped in
    let now = c.switch.new.self in
    let child = c.args.child.now in
    let next : HeldLog g.row.D.Denot = held_of now c.new-self-inside.result old.log.stopped in
    let Goes : HeldLog g.row.D.Denot → Type 0 = λ h. Holds (state h.disk) h.log n → Comes {A = Unit {0}} (Ok tt) (state h.disk)
    (state now.disk) next.log n (Follows n child (Ok tt)) (FollowLeaves n child) in
    let here : Goes old = λ holds.
    let none = none_of old.log.stopped (sym c.if-is_some.ensures) in
    let runs = running old n none holds.remembers in
    let as_log : c.status-before.result ≡ status_of_log n = c.status-before.ensures.told ∙ same_status old.log.head old.log.walker n runs.2 in
    let can = c.in-Ok.ensures.can n as_log (c.path.ensures ∙ runs.2.path) in
    followed_comes (state old.disk) (state now.disk) old now c.new-self-inside.result n child c.status-before.result c.status-after.result holds none
    c.status-before.ensures.right c.status-before.ensures.told can c.in-Ok-switch.ensures.ok c.in-Ok-switch.ensures.breaks
    c.in-Ok-switch.ensures.comes c.status-after.ensures.right c.status-after.ensures.told c.new-self-inside.ensures.stands c.new-self-inside.ensures.ident in
    subst Goes c.self.view_is here

pub invariant_of-self : goal.invariant_of-self
invariant_of-self g c =
    let state = g.D.Disk.state in
    let old : HeldLog g.row.D.Denot = held_of c.self.inside.store c.self.inside.walker c.self.inside.stopped in
    let now = c.switch.new.self in
    let child = c.args.child.now in
    let n = untold c.self.invariant.0 in
    let holds = untold_holds (state old.disk) old c.self.invariant.0 c.self.invariant.1 in
    let none = none_of old.log.stopped (sym c.if-is_some.ensures) in
    let runs = running old n none holds.remembers in
    let as_log : c.status-before.result ≡ status_of_log n = c.status-before.ensures.told ∙ same_status old.log.head old.log.walker n runs.2 in
    let can = c.in-Ok.ensures.can n as_log (c.path.ensures ∙ runs.2.path) in
    let comes = followed_comes (state old.disk) (state now.disk) old now c.new-self-inside.result n child c.status-before.result c.status-after.result
    holds none c.status-before.ensures.right c.status-before.ensures.told can c.in-Ok-switch.ensures.ok c.in-Ok-switch.ensures.breaks
    c.in-Ok-switch.ensures.comes c.status-after.ensures.right c.status-after.ensures.told c.new-self-inside.ensures.stands c.new-self-inside.ensures.ident in
    (comes.next, comes.holds.remembers)

pub returns-in-Err-switch-clause-steps : goal.returns-in-Err-switch-clause-steps
returns-in-Err-switch-clause-steps g c n =
    let state = g.D.Disk.state in
    let old : HeldLog g.row.D.Denot = held_of c.self.inside.store c.self.inside.walker c.self.inside.stopped in
    let now = c.switch.new.self in
    let child = c.args.child.now in
    let e = c.stop.result in
    let next : HeldLog g.row.D.Denot = held_of now old.log.walker c.stop.new.stopped in
    let Goes : HeldLog g.row.D.Denot → Type 0 = λ h. Holds (state h.disk) h.log n → Comes {A = Unit {0}} (Err e) (state h.disk)
    (state now.disk) next.log n (Follows n child (Err e)) (FollowLeaves n child) in
    let here : Goes old = λ holds.
    let none = none_of old.log.stopped (sym c.if-is_some.ensures) in
    let runs = running old n none holds.remembers in
    let as_log : c.status-before.result ≡ status_of_log n = c.status-before.ensures.told ∙ same_status old.log.head old.log.walker n runs.2 in
    let can = c.in-Ok.ensures.can n as_log (c.path.ensures ∙ runs.2.path) in
    unfollowed_comes (state old.disk) (state now.disk) old now n child c.in-Err-switch.fault c.status-before.result e c.stop.new.stopped holds
    none c.status-before.ensures.told can c.in-Err-switch.ensures.stays c.in-Err-switch.ensures.caused c.in-Err-switch.ensures.broken
    c.in-Err-switch.ensures.breaks c.in-Err-switch.ensures.comes c.stop.ensures.answer c.stop.ensures.stopped in
    subst Goes c.self.view_is here

pub invariant_of-self-in-Err-switch : goal.invariant_of-self-in-Err-switch
invariant_of-self-in-Err-switch g c =
    let state = g.D.Disk.state in
    let old : HeldLog g.row.D.Denot = held_of c.self.inside.store c.self.inside.walker c.self.inside.stopped in
    let now = c.switch.new.self in
    let child = c.args.child.now in
    let n = untold c.self.invariant.0 in
    let holds = untold_holds (state old.disk) old c.self.invariant.0 c.self.invariant.1 in
    let none = none_of old.log.stopped (sym c.if-is_some.ensures) in
    let runs = running old n none holds.remembers in
    let as_log : c.status-before.result ≡ status_of_log n = c.status-before.ensures.told ∙ same_status old.log.head old.log.walker n runs.2 in
    let can = c.in-Ok.ensures.can n as_log (c.path.ensures ∙ runs.2.path) in
    let comes = unfollowed_comes (state old.disk) (state now.disk) old now n child c.in-Err-switch.fault c.status-before.result c.stop.result
    c.stop.new.stopped holds none c.status-before.ensures.told can c.in-Err-switch.ensures.stays c.in-Err-switch.ensures.caused
    c.in-Err-switch.ensures.broken c.in-Err-switch.ensures.breaks c.in-Err-switch.ensures.comes c.stop.ensures.answer c.stop.ensures.stopped in
    (comes.next, comes.holds.remembers)
