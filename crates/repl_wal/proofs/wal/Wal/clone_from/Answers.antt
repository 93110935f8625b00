-- The copy is mounted, and the source stays or stops.
use Rattle.std.proofs.Common.{◌≡◌, ◌⊎◌, ℕ, true, None, Some, IsSome, Result, Ok, Err, IfOk, IfErr, sym, ap, subst, inr}
use Rattle.repl_clone.specs.Causes.{IsTooLong}
use Rattle.repl_lsn.specs.History.{Path}
use Rattle.repl_clone.specs.Copied.{IsCopying, copied}
use Rattle.repl_clone.specs.declared.fault.CopyFault.{CopyFault}
use Rattle.repl_control.specs.declared.control.TheConstants.{VERSION_1_SIZE}
use Rattle.repl_effects.specs.Counts.{Rose, Stood}
use Rattle.repl_disk.specs.Crash.{LeavesOnly}
use Rattle.repl_disk.specs.Folder.{Folder, IfTold}
use Rattle.repl_disk.specs.Runs.{told_so, where_told}
use Rattle.repl_store.proofs.Apart.{apart_on}
use Rattle.repl_store.specs.Durable.{StandsFor, control_name}
use Rattle.repl_wal.specs.Cloning.{IsKnownSource, LeavesSource}
use Rattle.repl_wal.specs.Holding.{HeldLog, Holds, Remembers, answer_after, disk_after, held_of}
use Rattle.repl_wal.specs.Making.{IsOfMount, OnlyOpens, mounted_log}
use Rattle.repl_wal.specs.State.{path_of}
use Rattle.repl_wal.specs.declared.fault.NodeFault.{NodeFault}
use Rattle.repl_wal.specs.declared.fault.NodeFault.TheVariants as fault
use Rattle.repl_wal.specs.declared.wal.Wal.{Wal}
use Rattle.repl_wal.proofs.Cloning.{copy_moments, counted, err_of, if_err, if_ok, known_copy, known_moments, left_as_it_was, left_refused, mounted_moments, of_existing, of_long, ok_any, source_failed, uncopied_caused, uncopied_rose}
use Rattle.repl_wal.proofs.Ending.{none_of, running, untold, untold_holds}
use Rattle.repl_wal.proofs.Opening.{opened_on}
use Rattle.repl_wal.proofs.wal.Wal.clone_from.Goals as goal

pub invariant_of-from : goal.invariant_of-from
invariant_of-from g c =
    let state = g.E.Disk.state in
    let old : HeldLog g.row.E.Denot = held_of c.from.inside.store c.from.inside.walker c.from.inside.stopped in
    let now = c.copy_store.new.from in
    let n = untold c.from.invariant.0 in
    let holds = untold_holds (state old.disk) old c.from.invariant.0 c.from.invariant.1 in
    let none = none_of old.log.stopped (sym c.if-is_some.ensures) in
    let left = left_as_it_was {A = Unit {0}} {D = Unit {0}} (state old.disk) (state now.disk) old now n (Ok tt) (Ok tt) (λ e. cc) holds none
    c.in-Ok.ensures.head c.in-Ok.ensures.breaks c.in-Ok.ensures.lasts in
    (left.next, left.holds.remembers)

pub invariant_of-from-in-Err : goal.invariant_of-from-in-Err
invariant_of-from-in-Err g c =
    let state = g.E.Disk.state in
    let old : HeldLog g.row.E.Denot = held_of c.from.inside.store c.from.inside.walker c.from.inside.stopped in
    let now = c.copy_store.new.from in
    let n = untold c.from.invariant.0 in
    let holds = untold_holds (state old.disk) old c.from.invariant.0 c.from.invariant.1 in
    let none = none_of old.log.stopped (sym c.if-is_some.ensures) in
    let left = left_refused {A = Unit {0}} {D = Unit {0}} (state old.disk) (state now.disk) old now n c.in-Err.fault tt
    c.status-before.result c.stop_source.result c.stop_source.new.stopped holds none c.status-before.ensures.told c.in-Err.ensures.head
    c.in-Err.ensures.breaks c.in-Err.ensures.lasts c.stop_source.ensures.answer c.stop_source.ensures.stopped in
    (left.next, left.holds.remembers)

-- ---- the copy is made

pub returns-in-Ok-clause-holds : goal.returns-in-Ok-clause-holds
returns-in-Ok-clause-holds g c n known holds told size files heard =
    let source = g.E.Disk.state in
    let state = g.D.Disk.state in
    let old : HeldLog g.row.E.Denot = held_of c.from.inside.store c.from.inside.walker c.from.inside.stopped in
    let before = c.args.disk in
    let mid = c.copy_store.new.disk in
    let d = copied n.kept.durable known in
    let Mounted : Wal g.row.D.Denot → Type 0 = λ wal. Holds (state wal.disk) wal.log (mounted_log VERSION_1_SIZE d) in
    let Tells : Wal g.row.D.Denot → Type 0 = λ wal. (folder : Folder) (x : _) → (state mid).files ≡ Some folder → StandsFor VERSION_1_SIZE folder x
    → ((image : Folder) → (state mid).may_leave image → StandsFor VERSION_1_SIZE image x)
    → Holds (state wal.disk) wal.log (mounted_log VERSION_1_SIZE x) in
    let Goes : HeldLog g.row.E.Denot → Type 0 = λ h. Holds (source h.disk) h.log n → IfOk c.mount.result Mounted in
    let here : Goes old = λ holds.
    let is : IsKnownSource (source old.disk) old.log (state before) n known = record {
      holds = holds;
      told = told;
      size = size;
      files = files;
      heard = heard;
    } in
    let all = known_copy (source old.disk) old (state before) (state mid) n known is (none_of old.log.stopped (sym c.if-is_some.ensures))
    (g.met.D.Disk.never_falls before mid c.in-Ok.ensures.keeps).tells c.in-Ok.ensures.known in
    if_ok c.mount.result Tells Mounted (λ wal tells. tells all.0 d all.1 all.2.0 all.2.1) c.mount.ensures.holds in
    subst Goes c.from.view_is here holds

pub returns-in-Ok-clause-none : goal.returns-in-Ok-clause-none
returns-in-Ok-clause-none g c =
    let state = g.D.Disk.state in
    let files = (state c.args.disk).files in
    let None_there : Folder → Type 0 = λ folder. folder control_name ≡ None in
    let none : IfTold files None_there = where_told files None_there (λ folder told. (told_so files folder _ told c.in-Ok.ensures.done).0) in
    ok_any c.mount.result (IfTold files None_there) none

-- a mount answers nothing that is the copy's
pub returns-in-Ok-clause-exists : goal.returns-in-Ok-clause-exists
returns-in-Ok-clause-exists g c =
    let files = (g.D.Disk.state c.args.disk).files in
    if_err c.mount.result (λ e. IsOfMount e.0) (λ e. e.0 ≡ fault.Exists → IfTold files (λ folder. IsSome (folder control_name)))
    (λ e is same. absurd (subst IsOfMount same is)) c.mount.ensures.answers

pub returns-in-Ok-clause-too_long : goal.returns-in-Ok-clause-too_long
returns-in-Ok-clause-too_long g c n remembers =
    if_err c.mount.result (λ e. IsOfMount e.0) (λ e. (have : ℕ) → e.0 ≡ fault.HistoryFull have → IsTooLong (path_of n) have)
    (λ e is have same. absurd (subst IsOfMount same is)) c.mount.ensures.answers

pub returns-in-Ok-clause-failed : goal.returns-in-Ok-clause-failed
returns-in-Ok-clause-failed g c n remembers =
    let source = g.E.Disk.state in
    let old = c.args.from.now in
    let new = c.copy_store.new.from.disk in
    let Caused : NodeFault × g.row.D.Denot → Type 0 = λ e. e.0 ≡ fault.SourceFault → (n.broken ≡ true)
    ⊎ Rose (source old.disk).faults (source new).faults ⊎ Rose (source old.disk).lacks (source new).lacks in
    if_err c.mount.result (λ e. IsOfMount e.0) Caused (λ e is same. absurd (subst IsOfMount same is)) c.mount.ensures.answers

pub returns-in-Ok-clause-caused : goal.returns-in-Ok-clause-caused
returns-in-Ok-clause-caused g c =
    let state = g.D.Disk.state in
    let before = c.args.disk in
    let mid = c.copy_store.new.disk in
    let answer = c.mount.result in
    let of = c.in-Ok.ensures.of_disk in
    let lacks = (g.met.D.Disk.never_falls before mid c.in-Ok.ensures.keeps).lacks in
    opened_on (answer_after answer) (state before) (state mid) (state (disk_after answer)) of.ok.0 of.ok.1 lacks c.mount.ensures.caused

pub returns-in-Ok-clause-moments : goal.returns-in-Ok-clause-moments
returns-in-Ok-clause-moments g c n known is =
    let source = g.E.Disk.state in
    let state = g.D.Disk.state in
    let old : HeldLog g.row.E.Denot = held_of c.from.inside.store c.from.inside.walker c.from.inside.stopped in
    let before = c.args.disk in
    let mid = c.copy_store.new.disk in
    let answer = c.mount.result in
    let d = copied n.kept.durable known in
    let Goes : HeldLog g.row.E.Denot → Type 0 = λ h. IsKnownSource (source h.disk) h.log (state before) n known
    → LeavesOnly (state before) (state (disk_after answer)) (IsCopying (state before).may_leave n.size n.kept.durable) in
    let here : Goes old = λ is.
    let none = none_of old.log.stopped (sym c.if-is_some.ensures) in
    let all = known_copy (source old.disk) old (state before) (state mid) n known is none
    (g.met.D.Disk.never_falls before mid c.in-Ok.ensures.keeps).tells c.in-Ok.ensures.known in
    let first = known_moments (source old.disk) old (state before) (state mid) n known is none c.in-Ok.ensures.moments in
    mounted_moments (answer_after answer) (state before) (state mid) (state (disk_after answer)) n known is.size first
    (c.mount.ensures.only all.0 d all.1 all.2.0 all.2.1) in
    subst Goes c.from.view_is here is

pub returns-in-Ok-clause-rose : goal.returns-in-Ok-clause-rose
returns-in-Ok-clause-rose g c n known is =
    let source = g.E.Disk.state in
    let state = g.D.Disk.state in
    let old : HeldLog g.row.E.Denot = held_of c.from.inside.store c.from.inside.walker c.from.inside.stopped in
    let before = c.args.disk in
    let mid = c.copy_store.new.disk in
    let W = Wal g.row.D.Denot in
    let d = copied n.kept.durable known in
    let Opens : Result W NodeFault → g.row.D.Denot → Type 0 = λ answer. λ new. OnlyOpens answer (state mid) (state new) VERSION_1_SIZE d in
    let Rises : NodeFault × g.row.D.Denot → Type 0 = λ e. e.0 ≡ fault.DiskFault → Rose (state before).faults (state e.1).faults in
    let Goes : HeldLog g.row.E.Denot → Type 0 = λ h. IsKnownSource (source h.disk) h.log (state before) n known → IfErr c.mount.result Rises in
    let here : Goes old = λ is.
    let all = known_copy (source old.disk) old (state before) (state mid) n known is (none_of old.log.stopped (sym c.if-is_some.ensures))
    (g.met.D.Disk.never_falls before mid c.in-Ok.ensures.keeps).tells c.in-Ok.ensures.known in
    let Wrong : NodeFault → Result W NodeFault = λ f. Err f in
    err_of c.mount.result Opens Rises
    (λ e opens same. subst (λ (k : ℕ). Rose k (state e.1).faults) c.in-Ok.ensures.of_disk.ok.0 (opens.failed (ap Wrong same)))
    (c.mount.ensures.only all.0 d all.1 all.2.0 all.2.1) in
    subst Goes c.from.view_is here is

pub returns-in-Ok-clause-copying : goal.returns-in-Ok-clause-copying
returns-in-Ok-clause-copying g c n holds told =
    let source = g.E.Disk.state in
    let state = g.D.Disk.state in
    let old : HeldLog g.row.E.Denot = held_of c.from.inside.store c.from.inside.walker c.from.inside.stopped in
    let before = c.args.disk in
    let mid = c.copy_store.new.disk in
    let Made : Folder → Type 0 = λ folder. (made : g.row.D.Denot)
    × LeavesOnly (state before) (state made) (IsCopying (state before).may_leave n.size n.kept.durable)
    × g.D.Disk.keeps made (disk_after c.mount.result) in
    let Goes : HeldLog g.row.E.Denot → Type 0 = λ h. Holds (source h.disk) h.log n → IfTold (state before).files Made in
    let here : Goes old = λ holds. where_told (state before).files Made (λ folder files. (
      mid,
      copy_moments (source old.disk) old (state before) (state mid) folder n holds (none_of old.log.stopped (sym c.if-is_some.ensures)) told files
          c.in-Ok.ensures.moments,
      c.mount.ensures.keeps,
    )) in
    subst Goes c.from.view_is here holds

pub returns-in-Ok-clause-source : goal.returns-in-Ok-clause-source
returns-in-Ok-clause-source g c n holds =
    let state = g.E.Disk.state in
    let old : HeldLog g.row.E.Denot = held_of c.from.inside.store c.from.inside.walker c.from.inside.stopped in
    let now = c.copy_store.new.from in
    let next : HeldLog g.row.E.Denot = held_of now old.log.walker old.log.stopped in
    let Goes : HeldLog g.row.E.Denot → Type 0 = λ h. Holds (state h.disk) h.log n → LeavesSource {A = Wal g.row.D.Denot} {D = g.row.D.Denot}
    c.mount.result (state h.disk) (state now.disk) next.log n in
    let here : Goes old = λ holds. left_as_it_was {A = Wal g.row.D.Denot} {D = g.row.D.Denot} (state old.disk) (state now.disk) old now n
    c.mount.result (Ok tt) (λ e. cc) holds (none_of old.log.stopped (sym c.if-is_some.ensures)) c.in-Ok.ensures.head c.in-Ok.ensures.breaks
    c.in-Ok.ensures.lasts in
    subst Goes c.from.view_is here holds

pub returns-in-Ok-clause-apart : goal.returns-in-Ok-clause-apart
returns-in-Ok-clause-apart g c =
    let state = g.D.Disk.state in
    apart_on (state c.args.disk) (state c.copy_store.new.disk) (state (disk_after c.mount.result)) c.in-Ok.ensures.apart c.mount.ensures.apart

pub returns-in-Ok-clause-keeps : goal.returns-in-Ok-clause-keeps
returns-in-Ok-clause-keeps g c =
    g.met.D.Disk.keeps_on c.args.disk c.copy_store.new.disk (disk_after c.mount.result) c.in-Ok.ensures.keeps c.mount.ensures.keeps

-- ---- it is not made

pub returns-in-Err-clause-exists : goal.returns-in-Err-clause-exists
returns-in-Err-clause-exists g c same =
    let Fails : CopyFault → Result (Unit {0}) CopyFault = λ e. Err e in
    c.in-Err.ensures.exists (ap Fails (of_existing c.in-Err.fault c.stop_source.result c.stop_source.ensures.answer same))

pub returns-in-Err-clause-too_long : goal.returns-in-Err-clause-too_long
returns-in-Err-clause-too_long g c n remembers have same =
    let old : HeldLog g.row.E.Denot = held_of c.from.inside.store c.from.inside.walker c.from.inside.stopped in
    let Fails : CopyFault → Result (Unit {0}) CopyFault = λ e. Err e in
    let Goes : HeldLog g.row.E.Denot → Type 0 = λ h. Remembers h.log n → IsTooLong (path_of n) have in
    let here : Goes old = λ remembers.
    let runs = running old n (none_of old.log.stopped (sym c.if-is_some.ensures)) remembers in
    subst (λ (p : Path). IsTooLong p have) runs.2.path
    (c.in-Err.ensures.too_long have (ap Fails (of_long c.in-Err.fault c.stop_source.result have c.stop_source.ensures.answer same))) in
    subst Goes c.from.view_is here remembers

pub returns-in-Err-clause-caused : goal.returns-in-Err-clause-caused
returns-in-Err-clause-caused g c =
    let state = g.D.Disk.state in
    uncopied_caused {A = Wal g.row.D.Denot} c.in-Err.fault c.stop_source.result (state c.args.disk) (state c.copy_store.new.disk)
    c.stop_source.ensures.answer c.in-Err.ensures.of_disk

pub returns-in-Err-clause-rose : goal.returns-in-Err-clause-rose
returns-in-Err-clause-rose g c n known is =
    let state = g.D.Disk.state in
    uncopied_rose c.in-Err.fault c.stop_source.result (state c.args.disk) (state c.copy_store.new.disk) c.stop_source.ensures.answer is.files
    c.in-Err.ensures.of_disk

pub returns-in-Err-clause-moments : goal.returns-in-Err-clause-moments
returns-in-Err-clause-moments g c n known is =
    let source = g.E.Disk.state in
    let state = g.D.Disk.state in
    let old : HeldLog g.row.E.Denot = held_of c.from.inside.store c.from.inside.walker c.from.inside.stopped in
    let before = state c.args.disk in
    let mid = state c.copy_store.new.disk in
    let Goes : HeldLog g.row.E.Denot → Type 0 = λ h. IsKnownSource (source h.disk) h.log before n known
    → LeavesOnly before mid (IsCopying before.may_leave n.size n.kept.durable) in
    let here : Goes old = λ is.
    known_moments (source old.disk) old before mid n known is (none_of old.log.stopped (sym c.if-is_some.ensures)) c.in-Err.ensures.moments in
    subst Goes c.from.view_is here is

pub returns-in-Err-clause-copying : goal.returns-in-Err-clause-copying
returns-in-Err-clause-copying g c n holds told =
    let source = g.E.Disk.state in
    let state = g.D.Disk.state in
    let old : HeldLog g.row.E.Denot = held_of c.from.inside.store c.from.inside.walker c.from.inside.stopped in
    let before = c.args.disk in
    let mid = c.copy_store.new.disk in
    let Made : Folder → Type 0 = λ folder. (made : g.row.D.Denot)
    × LeavesOnly (state before) (state made) (IsCopying (state before).may_leave n.size n.kept.durable) × g.D.Disk.keeps made mid in
    let Goes : HeldLog g.row.E.Denot → Type 0 = λ h. Holds (source h.disk) h.log n → IfTold (state before).files Made in
    let here : Goes old = λ holds. where_told (state before).files Made (λ folder files. (
      mid,
      copy_moments (source old.disk) old (state before) (state mid) folder n holds (none_of old.log.stopped (sym c.if-is_some.ensures)) told files
          c.in-Err.ensures.moments,
      g.met.D.Disk.keeps_itself mid,
    )) in
    subst Goes c.from.view_is here holds

pub returns-in-Err-clause-source : goal.returns-in-Err-clause-source
returns-in-Err-clause-source g c n holds =
    let state = g.E.Disk.state in
    let old : HeldLog g.row.E.Denot = held_of c.from.inside.store c.from.inside.walker c.from.inside.stopped in
    let now = c.copy_store.new.from in
    let e = c.stop_source.result in
    let next : HeldLog g.row.E.Denot = held_of now old.log.walker c.stop_source.new.stopped in
    let Goes : HeldLog g.row.E.Denot → Type 0 = λ h. Holds (state h.disk) h.log n → LeavesSource {A = Wal g.row.D.Denot} {D = g.row.D.Denot}
    (Err (e, c.copy_store.new.disk)) (state h.disk) (state now.disk) next.log n in
    let here : Goes old = λ holds. left_refused {A = Wal g.row.D.Denot} {D = g.row.D.Denot} (state old.disk) (state now.disk) old now n
    c.in-Err.fault c.copy_store.new.disk c.status-before.result e c.stop_source.new.stopped holds (none_of old.log.stopped (sym c.if-is_some.ensures))
    c.status-before.ensures.told c.in-Err.ensures.head c.in-Err.ensures.breaks c.in-Err.ensures.lasts c.stop_source.ensures.answer
    c.stop_source.ensures.stopped in
    subst Goes c.from.view_is here holds

pub returns-in-Err-clause-counted : goal.returns-in-Err-clause-counted
returns-in-Err-clause-counted g c =
    let state = g.E.Disk.state in
    let old : HeldLog g.row.E.Denot = held_of c.from.inside.store c.from.inside.walker c.from.inside.stopped in
    let new = c.copy_store.new.from.disk in
    let e = c.stop_source.result in
    let Goes : HeldLog g.row.E.Denot → Type 0 = λ h. (e ≡ fault.SourceFault) ⊎ Stood (state h.disk).faults (state new).faults in
    let here : Goes old = counted c.in-Err.fault e (state old.disk) (state new) old.log.failed c.stop_source.ensures.answer
    c.in-Err.ensures.of_source in
    subst Goes c.from.view_is here

pub returns-in-Err-clause-failed : goal.returns-in-Err-clause-failed
returns-in-Err-clause-failed g c n remembers same =
    let source = g.E.Disk.state in
    let old : HeldLog g.row.E.Denot = held_of c.from.inside.store c.from.inside.walker c.from.inside.stopped in
    let new = c.copy_store.new.from.disk in
    let Goes : HeldLog g.row.E.Denot → Type 0 = λ h. Remembers h.log n
    → (n.broken ≡ true) ⊎ Rose (source h.disk).faults (source new).faults ⊎ Rose (source h.disk).lacks (source new).lacks in
    let here : Goes old = λ remembers.
    let runs = running old n (none_of old.log.stopped (sym c.if-is_some.ensures)) remembers in
    inr (source_failed c.in-Err.fault c.stop_source.result (source old.disk) (source new) old.log.failed c.stop_source.ensures.answer same
    runs.1 c.in-Err.ensures.of_source) in
    subst Goes c.from.view_is here remembers
