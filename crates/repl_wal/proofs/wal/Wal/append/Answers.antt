-- The record is appended, or the log stays or stops.
use Rattle.std.proofs.Common.{◌≡◌, ℕ, ◌^◌, ◌≤◌, length, Result, Ok, Err, refl, sym, ap, ◌∙◌, subst}
use Rattle.repl_control.specs.declared.control.Role.TheVariants.{Primary, Standby}
use Rattle.repl_record.specs.Length.{image_end}
use Rattle.repl_store.specs.Backing.{Before, appended}
use Rattle.repl_store.specs.Head.{Head, status_of}
use Rattle.repl_store.specs.declared.fault.StoreFault.{StoreFault}
use Rattle.repl_store.specs.declared.store.StoreStatus.{StoreStatus}
use Rattle.repl_wal.specs.Holding.{Comes, HeldLog, Holds, held_of}
use Rattle.repl_wal.specs.State.{LogState, role_of, status_of_log}
use Rattle.repl_wal.specs.Steps.{Never, Old, Only}
use Rattle.repl_wal.specs.Writing.{Appends, CanAppend, IsAppendRefusal, IsAppended, append_end}
use Rattle.repl_wal.specs.declared.fault.NodeFault.TheVariants as fault
use Rattle.repl_wal.proofs.Ending.{broken_of, failure, none_of, refused_at, refused_comes, role_told, running, same_status, standby_not, untold, untold_holds, untouched}
use Rattle.repl_wal.proofs.Writing.{appended_comes, unlaid}
use Rattle.repl_wal.proofs.wal.Wal.append.Goals as goal

pub returns-then-is_standby-clause-steps : goal.returns-then-is_standby-clause-steps
returns-then-is_standby-clause-steps g c n =
    let state = g.D.Disk.state in
    let old : HeldLog g.row.D.Denot = held_of c.self.inside.store c.self.inside.walker c.self.inside.stopped in
    let item = c.args.item.now in
    let Goes : HeldLog g.row.D.Denot → Type 0 = λ h. Holds (state h.disk) h.log n → Comes {A = ℕ} (Err fault.NotPrimary) (state h.disk)
    (state h.disk) h.log n (Appends n item (Err fault.NotPrimary)) (Old n) in
    let here : Goes old = λ holds.
    let runs = running old n (none_of old.log.stopped (sym c.if-is_some.ensures)) holds.remembers in
    let standby : role_of n ≡ Standby = sym (role_told c.status-before.result old.log.head n c.status-before.ensures.told runs.2.control)
    ∙ c.is_standby.ensures.0 c.if-is_standby.true in
    untouched (Err fault.NotPrimary) (state old.disk) old n (Appends n item (Err fault.NotPrimary)) (Old n)
    (g.met.D.Disk.only_now old.disk) holds (runs.0, standby, refl) (λ d was. was) (λ is. absurd cc) in
    subst Goes c.self.view_is here

-- it is a primary's log
is_primary : (status : StoreStatus) (head : Head) (n : LogState) → status ≡ status_of head → head.control ≡ n.kept.durable.control
    → (status.role ≡ Standby → ⊥) → role_of n ≡ Primary
is_primary status head n told same not = sym (role_told status head n told same) ∙ standby_not status.role not

pub returns-in-Err-clause-steps : goal.returns-in-Err-clause-steps
returns-in-Err-clause-steps g c n =
    let state = g.D.Disk.state in
    let old : HeldLog g.row.D.Denot = held_of c.self.inside.store c.self.inside.walker c.self.inside.stopped in
    let item = c.args.item.now in
    let e = c.in-Err.fault in
    let Goes : HeldLog g.row.D.Denot → Type 0 = λ h. Holds (state h.disk) h.log n → Comes {A = ℕ} (Err e) (state h.disk)
    (state h.disk) h.log n (Appends n item (Err e)) (Old n) in
    let here : Goes old = λ holds.
    let runs = running old n (none_of old.log.stopped (sym c.if-is_some.ensures)) holds.remembers in
    let status = c.status-before.result in
    let not : status.role ≡ Standby → ⊥ = λ is. (let yes = c.is_standby.ensures.1 is in absurd cc) in
    let primary = is_primary status old.log.head n c.status-before.ensures.told runs.2.control not in
    let as_log : status ≡ status_of_log n = c.status-before.ensures.told ∙ same_status old.log.head old.log.walker n runs.2 in
    let said = unlaid n item status e as_log runs.0 primary c.in-Err.ensures.refused in
    untouched (Err e) (state old.disk) old n (Appends n item (Err e)) (Old n) (g.met.D.Disk.only_now old.disk) holds said.0
    (λ d was. was) (λ is. said.1 (failure {A = ℕ} e is)) in
    subst Goes c.self.view_is here

pub returns-in-Ok-write-clause-steps : goal.returns-in-Ok-write-clause-steps
returns-in-Ok-write-clause-steps g c n =
    let state = g.D.Disk.state in
    let old : HeldLog g.row.D.Denot = held_of c.self.inside.store c.self.inside.walker c.self.inside.stopped in
    let now = c.write.new.self in
    let item = c.args.item.now in
    let laid = c.in-Ok.laid in
    let next : HeldLog g.row.D.Denot = held_of now c.new-self-inside.result old.log.stopped in
    let Goes : HeldLog g.row.D.Denot → Type 0 = λ h. Holds (state h.disk) h.log n → Comes {A = ℕ} (Ok laid.end) (state h.disk)
    (state now.disk) next.log n (Appends n item (Ok laid.end)) (Old n) in
    let here : Goes old = λ holds.
    let none = none_of old.log.stopped (sym c.if-is_some.ensures) in
    let runs = running old n none holds.remembers in
    let status = c.status-before.result in
    let not : status.role ≡ Standby → ⊥ = λ is. (let yes = c.is_standby.ensures.1 is in absurd cc) in
    let primary = is_primary status old.log.head n c.status-before.ensures.told runs.2.control not in
    let is = c.in-Ok.ensures in
    appended_comes (state old.disk) (state now.disk) old now c.new-self-inside.result n item status c.last_start.result laid.start laid.end
    laid.bytes c.as_slice.result.now holds none c.status-before.ensures.right c.status-before.ensures.told primary c.last_start.ensures is.image
    is.spelled is.start is.end.0 is.fits.0 is.fits.1 c.new-self-inside.ensures.stands c.new-self-inside.ensures.ident c.as_slice.ensures
    c.in-Ok-write.ensures.ok c.in-Ok-write.ensures.breaks c.in-Ok-write.ensures.comes in
    subst Goes c.self.view_is here

pub invariant_of-self : goal.invariant_of-self
invariant_of-self g c =
    let state = g.D.Disk.state in
    let old : HeldLog g.row.D.Denot = held_of c.self.inside.store c.self.inside.walker c.self.inside.stopped in
    let now = c.write.new.self in
    let laid = c.in-Ok.laid in
    let n = untold c.self.invariant.0 in
    let holds = untold_holds (state old.disk) old c.self.invariant.0 c.self.invariant.1 in
    let none = none_of old.log.stopped (sym c.if-is_some.ensures) in
    let runs = running old n none holds.remembers in
    let status = c.status-before.result in
    let not : status.role ≡ Standby → ⊥ = λ is. (let yes = c.is_standby.ensures.1 is in absurd cc) in
    let primary = is_primary status old.log.head n c.status-before.ensures.told runs.2.control not in
    let is = c.in-Ok.ensures in
    let comes = appended_comes (state old.disk) (state now.disk) old now c.new-self-inside.result n c.args.item.now status c.last_start.result
    laid.start laid.end laid.bytes c.as_slice.result.now holds none c.status-before.ensures.right c.status-before.ensures.told primary
    c.last_start.ensures is.image is.spelled is.start is.end.0 is.fits.0 is.fits.1 c.new-self-inside.ensures.stands c.new-self-inside.ensures.ident
    c.as_slice.ensures c.in-Ok-write.ensures.ok c.in-Ok-write.ensures.breaks c.in-Ok-write.ensures.comes in
    (comes.next, comes.holds.remembers)

pub returns-clause-steps : goal.returns-clause-steps
returns-clause-steps g c n =
    let state = g.D.Disk.state in
    let old : HeldLog g.row.D.Denot = held_of c.self.inside.store c.self.inside.walker c.self.inside.stopped in
    let now = c.write.new.self in
    let item = c.args.item.now in
    let e = c.stop.result in
    let next : HeldLog g.row.D.Denot = held_of now old.log.walker c.stop.new.stopped in
    let Goes : HeldLog g.row.D.Denot → Type 0 = λ h. Holds (state h.disk) h.log n → Comes {A = ℕ} (Err e) (state h.disk) (state now.disk)
    next.log n (Appends n item (Err e)) (Old n) in
    let here : Goes old = λ holds.
    let none = none_of old.log.stopped (sym c.if-is_some.ensures) in
    let runs = running old n none holds.remembers in
    let status = c.status-before.result in
    let not : status.role ≡ Standby → ⊥ = λ is. (let yes = c.is_standby.ensures.1 is in absurd cc) in
    let primary = is_primary status old.log.head n c.status-before.ensures.told runs.2.control not in
    let as_log : status ≡ status_of_log n = c.status-before.ensures.told ∙ same_status old.log.head old.log.walker n runs.2 in
    let fits = c.in-Ok.ensures.fits in
    let room : append_end n item ≤ 2 ^ 62 = subst (λ (s : StoreStatus). image_end s.ident.size s.written (length item.body) ≤ 2 ^ 62) as_log
    fits.1 in
    refused_at {A = ℕ} (IsAppendRefusal n item) (CanAppend n item) (IsAppended n item) (Only n) (state old.disk) (state now.disk) old now n
    (Old n) c.in-Err-write.fault status e c.stop.new.stopped holds none (primary, fits.0, room) refl c.status-before.ensures.told
    c.in-Err-write.ensures.stays c.in-Err-write.ensures.caused c.in-Err-write.ensures.broken c.in-Err-write.ensures.breaks (λ t b.
    refused_comes (Before n.kept) (Old n) c.in-Err-write.fault (state old.disk) (state now.disk) now.head (appended n.kept
    c.as_slice.result.now) n (c.in-Err-write.ensures.stays.same_size ∙ runs.2.size) (λ d was. was) (c.in-Err-write.ensures.comes n.kept
    (holds.backs t b))) c.stop.ensures.answer c.stop.ensures.stopped in
    subst Goes c.self.view_is here

pub invariant_of-self-in-Err-write : goal.invariant_of-self-in-Err-write
invariant_of-self-in-Err-write g c =
    let state = g.D.Disk.state in
    let old : HeldLog g.row.D.Denot = held_of c.self.inside.store c.self.inside.walker c.self.inside.stopped in
    let now = c.write.new.self in
    let n = untold c.self.invariant.0 in
    let holds = untold_holds (state old.disk) old c.self.invariant.0 c.self.invariant.1 in
    let none = none_of old.log.stopped (sym c.if-is_some.ensures) in
    let comes = refused_at {A = Unit {0}} Never (Unit {0}) (λ a m. Unit {0}) (Only n) (state old.disk) (state now.disk) old now n (Old n)
    c.in-Err-write.fault c.status-before.result c.stop.result c.stop.new.stopped holds none tt refl c.status-before.ensures.told
    c.in-Err-write.ensures.stays c.in-Err-write.ensures.caused c.in-Err-write.ensures.broken c.in-Err-write.ensures.breaks (λ t b. absurd cc)
    c.stop.ensures.answer c.stop.ensures.stopped in
    (comes.next, comes.holds.remembers)

pub returns-clause-idle : goal.returns-clause-idle
returns-clause-idle g c is =
    let Fails : StoreFault → Result (Unit {0}) StoreFault = λ f. Err f in
    let broken = broken_of {A = ℕ} c.in-Err-write.fault c.stop.result c.stop.ensures.answer is in
    subst (λ (h : HeldLog g.row.D.Denot). c.write.new.self.disk ≡ h.disk) c.self.view_is (c.in-Err-write.ensures.idle (ap Fails broken))
