-- The history, the segments and the control, one after the other.
use Rattle.std.proofs.Common.{rules, ◌≡◌, ℕ, Result, Ok, Err, OnOk, IfErr, sym, ap, ◌∙◌, subst, inl, inr, false}
use Rattle.repl_clone.specs.Causes.{FromSource, IsDiskFailure, IsOfDisk, IsUncopied, IsUnheard}
use Rattle.repl_clone.specs.Copied.{IsCopying}
use Rattle.repl_clone.specs.Copying.{ChangesOnly, HasHistory, HasLog, IsCopyOf, OfControl, OfHistory, OfSegment}
use Rattle.repl_clone.specs.declared.fault.CopyFault.{CopyFault}
use Rattle.repl_clone.specs.declared.fault.CopyFault.TheVariants as fault
use Rattle.repl_clone.proofs.Causing.{any_ok, apart, disk_after, disk_fails, disk_not_of_source, err_map, fails, not_of_source, ok_map, unheard_fails}
use Rattle.repl_clone.proofs.Changing.{apart_of, changes_none, changes_then, changes_wider}
use Rattle.repl_clone.proofs.Copies.{OfLog, control_apart, copied_files, copied_moments, none_apart, quiet}
use Rattle.repl_clone.proofs.Sourcing.{still, then}
use Rattle.repl_control.specs.Control.{control_bytes}
use Rattle.repl_control.specs.declared.control.Control.{Control}
use Rattle.repl_disk.specs.Crash.{LeavesOnly}
use Rattle.repl_disk.specs.Folder.{Folder, IfTold}
use Rattle.repl_disk.specs.Replacing.{IsAfter, IsBeforeOrAfter}
use Rattle.repl_disk.specs.Runs.{told_so, where_told}
use Rattle.repl_lsn.specs.History.{Path}
use Rattle.repl_store.specs.Backing.{Backs, State}
use Rattle.repl_store.specs.Durable.{control_aside, control_name}
use Rattle.repl_store.specs.Head.{Head}
use Rattle.repl_store.proofs.Apart.{apart_itself, apart_on}
use Rattle.repl_clone.proofs.copy.copy_files.Goals as goal

-- ---- nothing is written

pub returns-in_err-read_source-clause-moments : goal.returns-in_err-read_source-clause-moments
returns-in_err-read_source-clause-moments g c =
    let disk = g.D.Disk.state in
    let head = c.args.from.now.head in
    let is_head = c.status-status.ensures.right in
    quiet head is_head (g.E.Disk.state c.args.from.now.disk) (disk c.args.disk.now) (disk c.args.disk.now)
    (changes_none (OfLog head is_head) (disk c.args.disk.now) (g.met.D.Disk.only_now c.args.disk.now))

pub returns-in_err-history-clause-moments : goal.returns-in_err-history-clause-moments
returns-in_err-history-clause-moments g c =
    let disk = g.D.Disk.state in
    let head = c.args.from.now.head in
    let is_head = c.status-status.ensures.right in
    quiet head is_head (g.E.Disk.state c.args.from.now.disk) (disk c.args.disk.now) (disk c.args.disk.now)
    (changes_none (OfLog head is_head) (disk c.args.disk.now) (g.met.D.Disk.only_now c.args.disk.now))

pub returns-in_err-room-clause-moments : goal.returns-in_err-room-clause-moments
returns-in_err-room-clause-moments g c =
    let disk = g.D.Disk.state in
    let head = c.args.from.now.head in
    let is_head = c.status-status.ensures.right in
    quiet head is_head (g.E.Disk.state c.args.from.now.disk) (disk c.args.disk.now) (disk c.args.disk.now)
    (changes_none (OfLog head is_head) (disk c.args.disk.now) (g.met.D.Disk.only_now c.args.disk.now))

pub returns-in_err-history-clause-source : goal.returns-in_err-history-clause-source
returns-in_err-history-clause-source g c =
    let state = g.E.Disk.state in
    let old = c.args.from.now in
    let mid = c.read_source.new.from in
    let on = g.met.E.Disk.never_falls old.disk mid.disk c.in_ok-read_source.ensures.keeps in
    let P : Result (Unit {0}) CopyFault → Type 0 = λ r. FromSource r (state old.disk) (state mid.disk) old.head mid.head old.broken mid.broken in
    let e : CopyFault = fault.Memory in
    let is : c.from_residual-in_err-history.result ≡ Err e = search rules in
    subst P (sym is) (then {A = Unit {0}} {B = Unit {0}} tt (Err e) (state old.disk) (state mid.disk) (state mid.disk) old.head mid.head mid.head
    old.broken mid.broken mid.broken on c.in_ok-read_source.ensures.source
    (still {A = Unit {0}} (Err e) (state mid.disk) mid.head mid.broken (g.met.E.Disk.only_now mid.disk) (apart e fault.SourceFault (λ same. cc))))

pub returns-in_err-room-clause-source : goal.returns-in_err-room-clause-source
returns-in_err-room-clause-source g c =
    let state = g.E.Disk.state in
    let old = c.args.from.now in
    let mid = c.read_source.new.from in
    let on = g.met.E.Disk.never_falls old.disk mid.disk c.in_ok-read_source.ensures.keeps in
    let P : Result (Unit {0}) CopyFault → Type 0 = λ r. FromSource r (state old.disk) (state mid.disk) old.head mid.head old.broken mid.broken in
    let e : CopyFault = fault.Memory in
    let is : c.from_residual-in_err-room.result ≡ Err e = search rules in
    subst P (sym is) (then {A = Unit {0}} {B = Unit {0}} tt (Err e) (state old.disk) (state mid.disk) (state mid.disk) old.head mid.head mid.head
    old.broken mid.broken mid.broken on c.in_ok-read_source.ensures.source
    (still {A = Unit {0}} (Err e) (state mid.disk) mid.head mid.broken (g.met.E.Disk.only_now mid.disk) (apart e fault.SourceFault (λ same. cc))))

-- ---- the history

pub returns-in_err-copy_history-clause-moments : goal.returns-in_err-copy_history-clause-moments
returns-in_err-copy_history-clause-moments g c =
    let disk = g.D.Disk.state in
    let head = c.args.from.now.head in
    let is_head = c.status-status.ensures.right in
    let along : c.in_ok-history.history ≡ head.path = c.in_ok-history.ensures ∙ c.path.ensures
    ∙ ap (λ (h : Head). h.path) c.in_ok-read_source.ensures.source.head_stays in
    let Changes : Path → Type 0 = λ p. IfTold (disk c.args.disk.now).files (λ folder. ChangesOnly (OfHistory p.own) (disk c.args.disk.now)
    (disk c.copy_history.new.disk) folder) in
    let first = subst Changes along c.in_err-copy_history.ensures.changes in
    quiet head is_head (g.E.Disk.state c.args.from.now.disk) (disk c.args.disk.now) (disk c.copy_history.new.disk)
    (changes_wider (OfHistory head.path.own) (OfLog head is_head) (disk c.args.disk.now) (disk c.copy_history.new.disk) (λ n of. inl of) first)

pub returns-in_err-copy_history-clause-source : goal.returns-in_err-copy_history-clause-source
returns-in_err-copy_history-clause-source g c =
    let state = g.E.Disk.state in
    let old = c.args.from.now in
    let mid = c.read_source.new.from in
    let on = g.met.E.Disk.never_falls old.disk mid.disk c.in_ok-read_source.ensures.keeps in
    let P : Result (Unit {0}) CopyFault → Type 0 = λ r. FromSource r (state old.disk) (state mid.disk) old.head mid.head old.broken mid.broken in
    let e : CopyFault = c.in_err-copy_history.field-0.0 in
    let is : c.from_residual-in_err-copy_history.result ≡ Err e = search rules in
    subst P (sym is) (then {A = Unit {0}} {B = Unit {0}} tt (Err e) (state old.disk) (state mid.disk) (state mid.disk) old.head mid.head mid.head
    old.broken mid.broken mid.broken on c.in_ok-read_source.ensures.source
    (still {A = Unit {0}} (Err e) (state mid.disk) mid.head mid.broken (g.met.E.Disk.only_now mid.disk) (apart e fault.SourceFault
    (not_of_source c.in_ok-history.history e c.in_err-copy_history.ensures.answers))))

pub returns-in_err-copy_history-clause-answers : goal.returns-in_err-copy_history-clause-answers
returns-in_err-copy_history-clause-answers g c =
    let path = c.args.from.now.head.path in
    let along : c.in_ok-history.history ≡ path = c.in_ok-history.ensures ∙ c.path.ensures
    ∙ ap (λ (h : Head). h.path) c.in_ok-read_source.ensures.source.head_stays in
    let e : CopyFault = c.in_err-copy_history.field-0.0 in
    let is : c.from_residual-in_err-copy_history.result ≡ Err e = search rules in
    let P : Result (Unit {0}) CopyFault → Type 0 = λ r. IfErr r (IsUncopied path) in
    subst P (sym is) (unheard_fails path e (subst (λ (p : Path). IsUnheard p e) along c.in_err-copy_history.ensures.answers))

-- ---- the segments

pub copy_segments-requires-clause-history : goal.copy_segments-requires-clause-history
copy_segments-requires-clause-history g c = c.in_ok-history.ensures ∙ c.path.ensures

pub returns-in_err-copy_segments-clause-moments : goal.returns-in_err-copy_segments-clause-moments
returns-in_err-copy_segments-clause-moments g c =
    let disk = g.D.Disk.state in
    let head = c.args.from.now.head in
    let is_head = c.status-status.ensures.right in
    let along : c.in_ok-history.history ≡ head.path = c.in_ok-history.ensures ∙ c.path.ensures
    ∙ ap (λ (h : Head). h.path) c.in_ok-read_source.ensures.source.head_stays in
    let Changes : Path → Type 0 = λ p. IfTold (disk c.args.disk.now).files (λ folder. ChangesOnly (OfHistory p.own) (disk c.args.disk.now)
    (disk c.copy_history.new.disk) folder) in
    let first = subst Changes along c.in_ok-copy_history.ensures.changes in
    let More : Head → Type 0 = λ h. IfTold (disk c.copy_history.new.disk).files (λ folder. ChangesOnly (OfSegment h.size h.path)
    (disk c.copy_history.new.disk) (disk c.copy_segments.new.disk) folder) in
    let second = subst More c.in_ok-read_source.ensures.source.head_stays c.in_err-copy_segments.ensures.changes in
    quiet head is_head (g.E.Disk.state c.args.from.now.disk) (disk c.args.disk.now) (disk c.copy_segments.new.disk)
    (changes_then (OfHistory head.path.own) (OfSegment head.size head.path) (OfLog head is_head) (disk c.args.disk.now)
    (disk c.copy_history.new.disk) (disk c.copy_segments.new.disk) (λ n of. inl of) (λ n of. inr of) first second)

pub returns-in_err-copy_segments-clause-source : goal.returns-in_err-copy_segments-clause-source
returns-in_err-copy_segments-clause-source g c =
    let state = g.E.Disk.state in
    let old = c.args.from.now in
    let mid = c.read_source.new.from in
    let on = g.met.E.Disk.never_falls old.disk mid.disk c.in_ok-read_source.ensures.keeps in
    let new = c.copy_segments.new.from in
    let e : CopyFault = c.in_err-copy_segments.field-0.0 in
    let is : c.from_residual-in_err-copy_segments.result ≡ Err e = search rules in
    let P : Result (Unit {0}) CopyFault → Type 0 = λ r. FromSource r (state old.disk) (state new.disk) old.head new.head old.broken new.broken in
    subst P (sym is) (then {A = Unit {0}} {B = Unit {0}} tt (Err e) (state old.disk) (state mid.disk) (state new.disk) old.head mid.head new.head
    old.broken mid.broken new.broken on c.in_ok-read_source.ensures.source c.in_err-copy_segments.ensures.source)

pub returns-in_err-copy_segments-clause-of_disk : goal.returns-in_err-copy_segments-clause-of_disk
returns-in_err-copy_segments-clause-of_disk g c =
    let state = g.D.Disk.state in
    let mid = c.copy_history.new.disk in
    let e : CopyFault = c.in_err-copy_segments.field-0.0 in
    let is : c.from_residual-in_err-copy_segments.result ≡ Err e = search rules in
    let P : Result (Unit {0}) CopyFault → Type 0 = λ r. IsOfDisk r (state c.args.disk.now) (state c.copy_segments.new.disk) in
    subst P (sym is) (disk_after {A = Unit {0}} {B = Unit {0}} tt (Err e) (state c.args.disk.now) (state mid) (state c.copy_segments.new.disk)
    (g.met.D.Disk.never_falls c.args.disk.now mid c.in_ok-copy_history.ensures.keeps) c.in_ok-copy_history.ensures.of_disk
    c.in_err-copy_segments.ensures.of_disk)

pub returns-in_err-copy_segments-clause-answers : goal.returns-in_err-copy_segments-clause-answers
returns-in_err-copy_segments-clause-answers g c =
    let path = c.args.from.now.head.path in
    let e : CopyFault = c.in_err-copy_segments.field-0.0 in
    let is : c.from_residual-in_err-copy_segments.result ≡ Err e = search rules in
    let P : Result (Unit {0}) CopyFault → Type 0 = λ r. IfErr r (IsUncopied path) in
    subst P (sym is) (fails path e c.in_err-copy_segments.ensures.answers)

pub returns-in_err-copy_segments-clause-keeps : goal.returns-in_err-copy_segments-clause-keeps
returns-in_err-copy_segments-clause-keeps g c =
    g.met.D.Disk.keeps_on c.args.disk.now c.copy_history.new.disk c.copy_segments.new.disk c.in_ok-copy_history.ensures.keeps
    c.in_err-copy_segments.ensures.keeps

pub returns-in_err-copy_segments-clause-source_keeps : goal.returns-in_err-copy_segments-clause-source_keeps
returns-in_err-copy_segments-clause-source_keeps g c =
    g.met.E.Disk.keeps_on c.args.from.now.disk c.read_source.new.from.disk c.copy_segments.new.from.disk c.in_ok-read_source.ensures.keeps
    c.in_err-copy_segments.ensures.source_keeps

-- ---- the control

pub returns-clause-copied : goal.returns-clause-copied
returns-clause-copied g c s backs =
    let state = g.E.Disk.state in
    let mid = c.read_source.new.from in
    let disk = g.D.Disk.state in
    let head = c.args.from.now.head in
    let is_head = c.status-status.ensures.right in
    let along : c.in_ok-history.history ≡ head.path = c.in_ok-history.ensures ∙ c.path.ensures
    ∙ ap (λ (h : Head). h.path) c.in_ok-read_source.ensures.source.head_stays in
    let Changes : Path → Type 0 = λ p. IfTold (disk c.args.disk.now).files (λ folder. ChangesOnly (OfHistory p.own) (disk c.args.disk.now)
    (disk c.copy_history.new.disk) folder) in
    let first = subst Changes along c.in_ok-copy_history.ensures.changes in
    let Says : Path → Type 0 = λ p. IfTold (disk c.args.disk.now).files (λ folder. (image : Folder)
    → (disk c.copy_history.new.disk).may_leave image → HasHistory p image) in
    let says = subst Says along c.in_ok-copy_history.ensures.said in
    let More : Head → Type 0 = λ h. IfTold (disk c.copy_history.new.disk).files (λ folder. ChangesOnly (OfSegment h.size h.path)
    (disk c.copy_history.new.disk) (disk c.copy_segments.new.disk) folder) in
    let second = subst More c.in_ok-read_source.ensures.source.head_stays c.in_ok-copy_segments.ensures.changes in
    let was = c.in_ok-read_source.ensures.source in
    let here : Backs (state mid.disk) mid.head s = subst (λ (h : Head). Backs (state mid.disk) h s) (sym was.head_stays)
    ((was.lasts s backs).backs (λ e. absurd cc)) in
    let Logged : Head → Type 0 = λ h. IfTold (disk c.copy_history.new.disk).files (λ folder. (image : Folder)
    → (disk c.copy_segments.new.disk).may_leave image → HasLog h.size h.path h.control.floor s h.control.flushed image) in
    let logged = subst Logged was.head_stays (c.in_ok-copy_segments.ensures.copied s here) in
    let Control_of : Control → Type 0 = λ k. IfTold (disk c.copy_segments.new.disk).files (λ folder. (image : Folder)
    → (disk c.put_control.new.disk).may_leave image → IsAfter (disk c.copy_segments.new.disk).may_leave control_name control_aside (control_bytes k) image) in
    let whole = IfTold (disk c.args.disk.now).files (λ folder. (image : Folder) → (disk c.put_control.new.disk).may_leave image
    → IsCopyOf (disk c.args.disk.now).may_leave head.size s.durable image) in
    ok_map c.put_control.result (Control_of c.standby_control.result) whole
    (λ durable. copied_files head is_head (state c.args.from.now.disk) s backs (g.met.E.Disk.as_it_reads c.args.from.now.disk) (disk c.args.disk.now)
    (disk c.copy_history.new.disk) (disk c.copy_segments.new.disk) (disk c.put_control.new.disk) first says second logged
    (subst Control_of (c.standby_control.ensures head c.status-status.ensures.told) durable)) c.put_control.ensures.durable

pub returns-clause-moments : goal.returns-clause-moments
returns-clause-moments g c =
    let state = g.E.Disk.state in
    let mid = c.read_source.new.from in
    let disk = g.D.Disk.state in
    let head = c.args.from.now.head in
    let is_head = c.status-status.ensures.right in
    let along : c.in_ok-history.history ≡ head.path = c.in_ok-history.ensures ∙ c.path.ensures
    ∙ ap (λ (h : Head). h.path) c.in_ok-read_source.ensures.source.head_stays in
    let Changes : Path → Type 0 = λ p. IfTold (disk c.args.disk.now).files (λ folder. ChangesOnly (OfHistory p.own) (disk c.args.disk.now)
    (disk c.copy_history.new.disk) folder) in
    let first = subst Changes along c.in_ok-copy_history.ensures.changes in
    let Says : Path → Type 0 = λ p. IfTold (disk c.args.disk.now).files (λ folder. (image : Folder)
    → (disk c.copy_history.new.disk).may_leave image → HasHistory p image) in
    let says = subst Says along c.in_ok-copy_history.ensures.said in
    let More : Head → Type 0 = λ h. IfTold (disk c.copy_history.new.disk).files (λ folder. ChangesOnly (OfSegment h.size h.path)
    (disk c.copy_history.new.disk) (disk c.copy_segments.new.disk) folder) in
    let second = subst More c.in_ok-read_source.ensures.source.head_stays c.in_ok-copy_segments.ensures.changes in
    let Control_of : Control → Type 0 = λ k. IfTold (disk c.copy_segments.new.disk).files (λ folder. LeavesOnly (disk c.copy_segments.new.disk)
    (disk c.put_control.new.disk) (IsBeforeOrAfter (disk c.copy_segments.new.disk).may_leave control_name control_aside (control_bytes k))) in
    let control = subst Control_of (c.standby_control.ensures head c.status-status.ensures.told) c.put_control.ensures.any_moment in
    let Goal : Folder → Type 0 = λ folder. (s : State) → Backs (state c.args.from.now.disk) head s
    → LeavesOnly (disk c.args.disk.now) (disk c.put_control.new.disk) (IsCopying (disk c.args.disk.now).may_leave head.size s.durable) in
    where_told (disk c.args.disk.now).files Goal (λ folder told s backs.
    let was = c.in_ok-read_source.ensures.source in
    let here : Backs (state mid.disk) mid.head s = subst (λ (h : Head). Backs (state mid.disk) h s) (sym was.head_stays)
    ((was.lasts s backs).backs (λ e. absurd cc)) in
    let Logged : Head → Type 0 = λ h. IfTold (disk c.copy_history.new.disk).files (λ folder. (image : Folder)
    → (disk c.copy_segments.new.disk).may_leave image → HasLog h.size h.path h.control.floor s h.control.flushed image) in
    let logged = subst Logged was.head_stays (c.in_ok-copy_segments.ensures.copied s here) in
    told_so (disk c.args.disk.now).files folder (λ f. LeavesOnly (disk c.args.disk.now) (disk c.put_control.new.disk)
    (IsCopying (disk c.args.disk.now).may_leave head.size s.durable)) told
    (copied_moments head is_head (state c.args.from.now.disk) s backs (g.met.E.Disk.as_it_reads c.args.from.now.disk) (disk c.args.disk.now)
    (disk c.copy_history.new.disk) (disk c.copy_segments.new.disk) (disk c.put_control.new.disk) first says second logged control))

pub returns-clause-source : goal.returns-clause-source
returns-clause-source g c =
    let state = g.E.Disk.state in
    let old = c.args.from.now in
    let mid = c.read_source.new.from in
    let on = g.met.E.Disk.never_falls old.disk mid.disk c.in_ok-read_source.ensures.keeps in
    let new = c.copy_segments.new.from in
    let result = c.put_control.result in
    let later = g.met.E.Disk.never_falls mid.disk new.disk c.in_ok-copy_segments.ensures.source_keeps in
    then {A = Unit {0}} {B = Unit {0}} tt result (state old.disk) (state mid.disk) (state new.disk) old.head mid.head new.head
    old.broken mid.broken new.broken on c.in_ok-read_source.ensures.source
    (then {A = Unit {0}} {B = Unit {0}} tt result (state mid.disk) (state new.disk) (state new.disk) mid.head new.head new.head
    mid.broken new.broken new.broken later c.in_ok-copy_segments.ensures.source
    (still {A = Unit {0}} result (state new.disk) new.head new.broken (g.met.E.Disk.only_now new.disk)
    (disk_not_of_source result c.put_control.ensures.answers)))

pub returns-clause-sound : goal.returns-clause-sound
returns-clause-sound g c = any_ok c.put_control.result (c.args.from.now.broken ≡ false) c.in_ok-read_source.ensures.sound

pub returns-clause-of_disk : goal.returns-clause-of_disk
returns-clause-of_disk g c =
    let state = g.D.Disk.state in
    let old = c.args.disk.now in
    let mid = c.copy_history.new.disk in
    let ready = c.copy_segments.new.disk in
    let new = c.put_control.new.disk in
    let result = c.put_control.result in
    disk_after {A = Unit {0}} {B = Unit {0}} tt result (state old) (state mid) (state new)
    (g.met.D.Disk.never_falls old mid c.in_ok-copy_history.ensures.keeps) c.in_ok-copy_history.ensures.of_disk
    (disk_after {A = Unit {0}} {B = Unit {0}} tt result (state mid) (state ready) (state new)
    (g.met.D.Disk.never_falls mid ready c.in_ok-copy_segments.ensures.keeps) c.in_ok-copy_segments.ensures.of_disk c.put_control.ensures.of_disk)

pub returns-clause-answers : goal.returns-clause-answers
returns-clause-answers g c =
    let path = c.args.from.now.head.path in
    err_map c.put_control.result IsDiskFailure (IsUncopied path) (disk_fails path) c.put_control.ensures.answers

pub returns-clause-keeps : goal.returns-clause-keeps
returns-clause-keeps g c =
    g.met.D.Disk.keeps_on c.args.disk.now c.copy_history.new.disk c.put_control.new.disk c.in_ok-copy_history.ensures.keeps
    (g.met.D.Disk.keeps_on c.copy_history.new.disk c.copy_segments.new.disk c.put_control.new.disk c.in_ok-copy_segments.ensures.keeps
    c.put_control.ensures.keeps)

pub returns-clause-source_keeps : goal.returns-clause-source_keeps
returns-clause-source_keeps g c =
    g.met.E.Disk.keeps_on c.args.from.now.disk c.read_source.new.from.disk c.copy_segments.new.from.disk c.in_ok-read_source.ensures.keeps
    c.in_ok-copy_segments.ensures.source_keeps

-- ---- files that stay

pub returns-in_err-read_source-clause-apart : goal.returns-in_err-read_source-clause-apart
returns-in_err-read_source-clause-apart g c = apart_itself (g.D.Disk.state c.args.disk.now) (g.met.D.Disk.only_now c.args.disk.now)

pub returns-in_err-history-clause-apart : goal.returns-in_err-history-clause-apart
returns-in_err-history-clause-apart g c = apart_itself (g.D.Disk.state c.args.disk.now) (g.met.D.Disk.only_now c.args.disk.now)

pub returns-in_err-room-clause-apart : goal.returns-in_err-room-clause-apart
returns-in_err-room-clause-apart g c = apart_itself (g.D.Disk.state c.args.disk.now) (g.met.D.Disk.only_now c.args.disk.now)

pub returns-in_err-copy_history-clause-apart : goal.returns-in_err-copy_history-clause-apart
returns-in_err-copy_history-clause-apart g c =
    let disk = g.D.Disk.state in
    let head = c.args.from.now.head in
    let is_head = c.status-status.ensures.right in
    let along : c.in_ok-history.history ≡ head.path = c.in_ok-history.ensures ∙ c.path.ensures
    ∙ ap (λ (h : Head). h.path) c.in_ok-read_source.ensures.source.head_stays in
    let Changes : Path → Type 0 = λ p. IfTold (disk c.args.disk.now).files (λ folder. ChangesOnly (OfHistory p.own) (disk c.args.disk.now)
    (disk c.copy_history.new.disk) folder) in
    let first = subst Changes along c.in_err-copy_history.ensures.changes in
    apart_of (OfLog head is_head) (disk c.args.disk.now) (disk c.copy_history.new.disk) (none_apart head is_head)
    (changes_wider (OfHistory head.path.own) (OfLog head is_head) (disk c.args.disk.now) (disk c.copy_history.new.disk) (λ n of. inl of) first)

pub returns-in_err-copy_segments-clause-apart : goal.returns-in_err-copy_segments-clause-apart
returns-in_err-copy_segments-clause-apart g c =
    let disk = g.D.Disk.state in
    let head = c.args.from.now.head in
    let is_head = c.status-status.ensures.right in
    let along : c.in_ok-history.history ≡ head.path = c.in_ok-history.ensures ∙ c.path.ensures
    ∙ ap (λ (h : Head). h.path) c.in_ok-read_source.ensures.source.head_stays in
    let Changes : Path → Type 0 = λ p. IfTold (disk c.args.disk.now).files (λ folder. ChangesOnly (OfHistory p.own) (disk c.args.disk.now)
    (disk c.copy_history.new.disk) folder) in
    let first = subst Changes along c.in_ok-copy_history.ensures.changes in
    let More : Head → Type 0 = λ h. IfTold (disk c.copy_history.new.disk).files (λ folder. ChangesOnly (OfSegment h.size h.path)
    (disk c.copy_history.new.disk) (disk c.copy_segments.new.disk) folder) in
    let second = subst More c.in_ok-read_source.ensures.source.head_stays c.in_err-copy_segments.ensures.changes in
    apart_of (OfLog head is_head) (disk c.args.disk.now) (disk c.copy_segments.new.disk) (none_apart head is_head)
    (changes_then (OfHistory head.path.own) (OfSegment head.size head.path) (OfLog head is_head) (disk c.args.disk.now)
    (disk c.copy_history.new.disk) (disk c.copy_segments.new.disk) (λ n of. inl of) (λ n of. inr of) first second)

pub returns-clause-apart : goal.returns-clause-apart
returns-clause-apart g c =
    let disk = g.D.Disk.state in
    let head = c.args.from.now.head in
    let is_head = c.status-status.ensures.right in
    let along : c.in_ok-history.history ≡ head.path = c.in_ok-history.ensures ∙ c.path.ensures
    ∙ ap (λ (h : Head). h.path) c.in_ok-read_source.ensures.source.head_stays in
    let Changes : Path → Type 0 = λ p. IfTold (disk c.args.disk.now).files (λ folder. ChangesOnly (OfHistory p.own) (disk c.args.disk.now)
    (disk c.copy_history.new.disk) folder) in
    let first = subst Changes along c.in_ok-copy_history.ensures.changes in
    let More : Head → Type 0 = λ h. IfTold (disk c.copy_history.new.disk).files (λ folder. ChangesOnly (OfSegment h.size h.path)
    (disk c.copy_history.new.disk) (disk c.copy_segments.new.disk) folder) in
    let second = subst More c.in_ok-read_source.ensures.source.head_stays c.in_ok-copy_segments.ensures.changes in
    apart_on (disk c.args.disk.now) (disk c.copy_segments.new.disk) (disk c.put_control.new.disk)
    (apart_of (OfLog head is_head) (disk c.args.disk.now) (disk c.copy_segments.new.disk) (none_apart head is_head)
    (changes_then (OfHistory head.path.own) (OfSegment head.size head.path) (OfLog head is_head) (disk c.args.disk.now)
    (disk c.copy_history.new.disk) (disk c.copy_segments.new.disk) (λ n of. inl of) (λ n of. inr of) first second))
    (apart_of OfControl (disk c.copy_segments.new.disk) (disk c.put_control.new.disk) control_apart c.put_control.ensures.changes)
