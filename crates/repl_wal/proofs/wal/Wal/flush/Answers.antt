-- What is written is flushed, or the log stays or stops.
use Rattle.std.proofs.Common.{◌≡◌, ℕ, Ok, Err, refl, sym, ap, ◌∙◌, subst, inl, inr}
use Rattle.repl_control.specs.declared.control.Control.{Control}
use Rattle.repl_control.specs.declared.control.Role.{Role}
use Rattle.repl_control.specs.declared.control.Role.TheVariants.{Primary}
use Rattle.repl_record.specs.Walker.{last_end, last_start}
use Rattle.repl_record.specs.declared.walker.Walker.{Walker}
use Rattle.repl_store.specs.Backing.{CanFlush, Either, flushed, flushed_control}
use Rattle.repl_store.specs.Durable.{Durable}
use Rattle.repl_store.specs.Head.{Head, IsHead}
use Rattle.repl_wal.specs.Holding.{Comes, HeldLog, Holds, Remembers, Runs, held_of}
use Rattle.repl_wal.specs.State.{EndsLast, LogState, flushed_end, flushed_log, role_of, written_end}
use Rattle.repl_wal.specs.Steps.{Never, Old, Only}
use Rattle.repl_wal.specs.Writing.{FlushLeaves, Flushes, IsFlushed}
use Rattle.repl_wal.proofs.Ending.{certain_at, none_of, refused_at, refused_comes, running, untold, untold_holds}
use Rattle.repl_wal.proofs.Running.{can_flush, nothing_new, walked_last}
use Rattle.repl_wal.proofs.wal.Wal.flush.Goals as goal

-- a primary's whole end is its written end
ends : (head : Head) (n : LogState) (end : ℕ) → head.control ≡ n.kept.durable.control → (role_of n ≡ Primary → end ≡ written_end n)
    → head.control.role ≡ Primary → end ≡ written_end n
ends head n end same primary is = primary (sym (ap (λ (c : Control). c.role) same) ∙ is)

-- what a crash in the store's flush leaves is what one in the log's may leave
leaves : {D : Type 0} (old : HeldLog D) (n : LogState) (end last : ℕ) → IsHead old.log.head → Runs old.log.head old.log.walker n
    → end ≡ last_end old.log.walker → last ≡ last_start old.log.walker
    → (d : Durable) → Either n.kept.durable (flushed n.kept old.log.head.control.role end last).durable d → FlushLeaves n d
leaves old n end last is runs end_is last_is d (inl was) = inl was
leaves old n end last is runs end_is last_is d (inr made) =
    let head = old.log.head in
    let role : head.control.role ≡ role_of n = ap (λ (k : Control). k.role) runs.control in
    let Last : ℕ → ℕ → Type 0 = λ e. λ l. EndsLast n e l in
    let greatest : Last end last = subst (λ (e : ℕ). Last e last) (sym end_is) (subst (Last (last_end old.log.walker)) (sym last_is)
    (walked_last head old.log.walker n is runs)) in
    inr (
      written_end n,
      flushed_log n head.control.role end last,
      (refl, (end, last, greatest, ap (λ (r : Role). flushed_log n r end last) role)),
      made,
    )

-- a flush of what is flushed writes the control that is there
still_control : (head : Head) (w : Walker) (n : LogState) (end last : ℕ) → IsHead head → Runs head w n → end ≡ last_end w → last ≡ last_start w
    → written_end n ≡ flushed_end n → flushed_control head.control head.control.role head.written end last ≡ head.control
still_control head w n end last is runs end_is last_is same =
    let none = nothing_new head w n is runs same in
    let control : Control = head.control in
    let told = sym runs.control in
    let written : head.written ≡ control.flushed = runs.written ∙ same ∙ ap (λ (k : Control). k.flushed) told in
    let whole : end ≡ control.whole = end_is ∙ none.0 ∙ ap (λ (k : Control). k.whole) told in
    let prev : last ≡ control.prev = last_is ∙ none.1 ∙ ap (λ (k : Control). k.prev) told in
    ap (λ (x : ℕ). flushed_control control control.role x end last) written
    ∙ ap (λ (x : ℕ). flushed_control control control.role control.flushed x last) whole
    ∙ ap (flushed_control control control.role control.flushed control.whole) prev

pub flush-requires : goal.flush-requires
flush-requires g c =
    let held : HeldLog g.row.D.Denot = held_of c.self.inside.store c.self.inside.walker c.self.inside.stopped in
    let head = held.log.head in
    let n = c.self.invariant.0 in
    let runs = running held n (none_of held.log.stopped (sym c.if-is_some.ensures)) c.self.invariant.1 in
    let can = can_flush head held.log.walker n head.control.role c.status-before.ensures.right runs.2
    (ends head n (last_end held.log.walker) runs.2.control runs.2.primary) in
    subst (λ (e : ℕ). CanFlush head head.control.role e c.last_start.result) (sym c.last_end.ensures)
    (subst (CanFlush head head.control.role (last_end held.log.walker)) (sym c.last_start.ensures) can)

pub returns-in-Ok-clause-steps : goal.returns-in-Ok-clause-steps
returns-in-Ok-clause-steps g c n =
    let state = g.D.Disk.state in
    let old : HeldLog g.row.D.Denot = held_of c.self.inside.store c.self.inside.walker c.self.inside.stopped in
    let now = c.flush.new.self in
    let head = old.log.head in
    let end = c.status-before.result.written in
    let next : HeldLog g.row.D.Denot = held_of now old.log.walker old.log.stopped in
    let Goes : HeldLog g.row.D.Denot → Type 0 = λ h. Holds (state h.disk) h.log n → Comes {A = ℕ} (Ok end) (state h.disk) (state now.disk)
    next.log n (Flushes n (Ok end)) (FlushLeaves n) in
    let here : Goes old = λ holds.
    let none = none_of old.log.stopped (sym c.if-is_some.ensures) in
    let runs = running old n none holds.remembers in
    let role : head.control.role ≡ role_of n = ap (λ (k : Control). k.role) runs.2.control in
    let written : end ≡ written_end n = ap (λ s. s.written) c.status-before.ensures.told ∙ runs.2.written in
    let whole = last_end old.log.walker in
    let last = last_start old.log.walker in
    certain_at Never (Unit {0}) (IsFlushed n) (Only n) (state old.disk) (state now.disk) old now n end head.control.role c.last_end.result
    c.last_start.result c.last_end.ensures c.last_start.ensures holds none c.status-before.ensures.right tt
    (ends head n whole runs.2.control runs.2.primary) (
      written,
      (
        whole,
        last,
        walked_last head old.log.walker n c.status-before.ensures.right runs.2,
        ap (λ (r : Role). flushed_log n r whole last) role,
      ),
    ) c.in-Ok.ensures.ok c.in-Ok.ensures.breaks c.in-Ok.ensures.comes in
    subst Goes c.self.view_is here

-- the invariant is the same of a log of which nothing is known on the disk
pub invariant_of-self : goal.invariant_of-self
invariant_of-self g c =
    let state = g.D.Disk.state in
    let old : HeldLog g.row.D.Denot = held_of c.self.inside.store c.self.inside.walker c.self.inside.stopped in
    let now = c.flush.new.self in
    let head = old.log.head in
    let n = untold c.self.invariant.0 in
    let holds = untold_holds (state old.disk) old c.self.invariant.0 c.self.invariant.1 in
    let none = none_of old.log.stopped (sym c.if-is_some.ensures) in
    let runs = running old n none holds.remembers in
    let comes = certain_at {A = Unit {0}} Never (Unit {0}) (λ a m. Unit {0}) (Only n) (state old.disk) (state now.disk) old now n tt head.control.role
    c.last_end.result c.last_start.result c.last_end.ensures c.last_start.ensures holds none c.status-before.ensures.right tt
    (ends head n (last_end old.log.walker) runs.2.control runs.2.primary) tt c.in-Ok.ensures.ok c.in-Ok.ensures.breaks c.in-Ok.ensures.comes in
    (comes.next, comes.holds.remembers)

pub returns-in-Err-clause-steps : goal.returns-in-Err-clause-steps
returns-in-Err-clause-steps g c n =
    let state = g.D.Disk.state in
    let old : HeldLog g.row.D.Denot = held_of c.self.inside.store c.self.inside.walker c.self.inside.stopped in
    let now = c.flush.new.self in
    let e = c.stop.result in
    let next : HeldLog g.row.D.Denot = held_of now old.log.walker c.stop.new.stopped in
    let Goes : HeldLog g.row.D.Denot → Type 0 = λ h. Holds (state h.disk) h.log n → Comes {A = ℕ} (Err e) (state h.disk) (state now.disk)
    next.log n (Flushes n (Err e)) (FlushLeaves n) in
    let here : Goes old = λ holds.
    let none = none_of old.log.stopped (sym c.if-is_some.ensures) in
    let runs = running old n none holds.remembers in
    let few : Durable → Type 0 = Either n.kept.durable (flushed n.kept old.log.head.control.role c.last_end.result c.last_start.result).durable in
    refused_at {A = ℕ} Never (Unit {0}) (IsFlushed n) (Only n) (state old.disk) (state now.disk) old now n (FlushLeaves n) c.in-Err.fault
    c.status-before.result e c.stop.new.stopped holds none tt refl c.status-before.ensures.told c.in-Err.ensures.stays c.in-Err.ensures.caused
    c.in-Err.ensures.broken c.in-Err.ensures.breaks (λ t b. refused_comes few (FlushLeaves n) c.in-Err.fault (state old.disk)
    (state now.disk) now.head (flushed n.kept old.log.head.control.role c.last_end.result c.last_start.result) n (c.in-Err.ensures.stays.same_size
    ∙ runs.2.size) (leaves old n c.last_end.result c.last_start.result c.status-before.ensures.right runs.2 c.last_end.ensures
    c.last_start.ensures) (c.in-Err.ensures.comes n.kept (holds.backs t b))) c.stop.ensures.answer c.stop.ensures.stopped in
    subst Goes c.self.view_is here

pub invariant_of-self-in-Err : goal.invariant_of-self-in-Err
invariant_of-self-in-Err g c =
    let state = g.D.Disk.state in
    let old : HeldLog g.row.D.Denot = held_of c.self.inside.store c.self.inside.walker c.self.inside.stopped in
    let now = c.flush.new.self in
    let n = untold c.self.invariant.0 in
    let holds = untold_holds (state old.disk) old c.self.invariant.0 c.self.invariant.1 in
    let none = none_of old.log.stopped (sym c.if-is_some.ensures) in
    let comes = refused_at {A = Unit {0}} Never (Unit {0}) (λ a m. Unit {0}) (Only n) (state old.disk) (state now.disk) old now n (Old n)
    c.in-Err.fault c.status-before.result c.stop.result c.stop.new.stopped holds none tt refl c.status-before.ensures.told c.in-Err.ensures.stays
    c.in-Err.ensures.caused c.in-Err.ensures.broken c.in-Err.ensures.breaks (λ t b. absurd cc) c.stop.ensures.answer c.stop.ensures.stopped in
    (comes.next, comes.holds.remembers)

pub returns-in-Ok-clause-still : goal.returns-in-Ok-clause-still
returns-in-Ok-clause-still g c n =
    let old : HeldLog g.row.D.Denot = held_of c.self.inside.store c.self.inside.walker c.self.inside.stopped in
    let Stays : HeldLog g.row.D.Denot → Type 0 = λ h. Remembers h.log n → written_end n ≡ flushed_end n → c.flush.new.self.disk ≡ h.disk in
    let here : Stays old = λ remembers same.
    let runs = running old n (none_of old.log.stopped (sym c.if-is_some.ensures)) remembers in
    c.in-Ok.ensures.still (still_control old.log.head old.log.walker n c.last_end.result c.last_start.result c.status-before.ensures.right runs.2
    c.last_end.ensures c.last_start.ensures same) in
    subst Stays c.self.view_is here

pub returns-in-Err-clause-still : goal.returns-in-Err-clause-still
returns-in-Err-clause-still g c n =
    let old : HeldLog g.row.D.Denot = held_of c.self.inside.store c.self.inside.walker c.self.inside.stopped in
    let Stays : HeldLog g.row.D.Denot → Type 0 = λ h. Remembers h.log n → written_end n ≡ flushed_end n → c.flush.new.self.disk ≡ h.disk in
    let here : Stays old = λ remembers same.
    let runs = running old n (none_of old.log.stopped (sym c.if-is_some.ensures)) remembers in
    c.in-Err.ensures.still (still_control old.log.head old.log.walker n c.last_end.result c.last_start.result c.status-before.ensures.right runs.2
    c.last_end.ensures c.last_start.ensures same) in
    subst Stays c.self.view_is here
