-- The bytes are added, or the log stays or stops.
use Rattle.std.proofs.Common.{◌≡◌, ℕ, ◌+◌, ◌++◌, length, List, Ok, Err, refl, sym, ap, ◌∙◌, subst, arith}
use Rattle.repl_walk.specs.Faults.{HasFault, IsFaultPast}
use Rattle.repl_page.specs.declared.ident.Ident.{Ident}
use Rattle.repl_record.specs.declared.answer.WalkReason.{WalkReason}
use Rattle.repl_record.specs.Walker.{identity, last_end, last_start}
use Rattle.repl_store.specs.Backing.{Before, appended}
use Rattle.repl_wal.specs.Holding.{Comes, HeldLog, Holds, held_of}
use Rattle.repl_wal.specs.State.{ident_of, last_start as start_kept, status_of_log, tail_of, timeline_of, whole_end}
use Rattle.repl_wal.specs.Steps.{Never, Old, Only}
use Rattle.repl_wal.specs.Writing.{CanReceive, IsReceiveRefusal, IsReceived, Receives}
use Rattle.repl_wal.specs.declared.fault.NodeFault.TheVariants as fault
use Rattle.repl_wal.proofs.Ending.{failure, none_of, refused_at, refused_comes, running, same_status, says_no, untold, untold_holds, untouched}
use Rattle.repl_wal.proofs.Running.{marks}
use Rattle.repl_wal.proofs.Writing.{on_own, received_comes, still_records}
use Rattle.repl_wal.proofs.wal.Wal.receive.Goals as goal

pub returns-in-Err-clause-steps : goal.returns-in-Err-clause-steps
returns-in-Err-clause-steps g c n =
    let state = g.D.Disk.state in
    let old : HeldLog g.row.D.Denot = held_of c.self.inside.store c.self.inside.walker c.self.inside.stopped in
    let e = c.in-Err.fault in
    let tli = c.args.tli in
    let start = c.args.start in
    let bytes = c.args.bytes.now in
    let Goes : HeldLog g.row.D.Denot → Type 0 = λ h. Holds (state h.disk) h.log n → Comes {A = ℕ} (Err e) (state h.disk)
    (state h.disk) h.log n (Receives n tli start bytes (Err e)) (Old n) in
    let here : Goes old = λ holds.
    let runs = running old n (none_of old.log.stopped (sym c.if-is_some.ensures)) holds.remembers in
    let as_log : c.status-before.result ≡ status_of_log n = c.status-before.ensures.told ∙ same_status old.log.head old.log.walker n runs.2 in
    let said = says_no {A = ℕ} (IsReceiveRefusal n tli start bytes) (CanReceive n tli start bytes) (IsReceived n bytes) (Only n) n e (λ no. no)
    (λ no. no) (λ no. no) runs.0 (c.in-Err.ensures.refused n bytes as_log refl) in
    untouched (Err e) (state old.disk) old n (Receives n tli start bytes (Err e)) (Old n) (g.met.D.Disk.only_now old.disk) holds said.0
    (λ d was. was) (λ is. said.1 (failure {A = ℕ} e is)) in
    subst Goes c.self.view_is here

pub walk-requires : goal.walk-requires
walk-requires g c =
    let old : HeldLog g.row.D.Denot = held_of c.self.inside.store c.self.inside.walker c.self.inside.stopped in
    let n = c.self.invariant.0 in
    let runs = running old n (none_of old.log.stopped (sym c.if-is_some.ensures)) c.self.invariant.1 in
    let as_log : c.status-before.result ≡ status_of_log n = c.status-before.ensures.told ∙ same_status old.log.head old.log.walker n runs.2 in
    let m = marks old.log.head old.log.walker n c.status-before.ensures.right runs.2 in
    let goes = c.in-Ok.ensures.passes n as_log in
    omega (arith, m.position, goes.at_end, c.in-Ok.ensures.room)

-- where a walker met it, there is a fault in the log with the bytes
fault_found : (ident : Ident) (timeline : ℕ → ℕ) (from prev end last at : ℕ) (log : List ℕ) (why : WalkReason) (i : Ident) → i ≡ ident
    → IsFaultPast i timeline from prev log end last at why → HasFault ident timeline from prev log at why
fault_found ident timeline from prev end last at log why i same past =
    record { end = end; last = last; past = subst (λ (j : Ident). IsFaultPast j timeline from prev log end last at why) same past }

pub returns-in-Err-walk-clause-steps : goal.returns-in-Err-walk-clause-steps
returns-in-Err-walk-clause-steps g c n =
    let state = g.D.Disk.state in
    let old : HeldLog g.row.D.Denot = held_of c.self.inside.store c.self.inside.walker c.self.inside.stopped in
    let at = c.in-Err-walk.fault.at in
    let why = c.in-Err-walk.fault.why in
    let e = fault.BadRecord at why in
    let tli = c.args.tli in
    let start = c.args.start in
    let bytes = c.args.bytes.now in
    let Goes : HeldLog g.row.D.Denot → Type 0 = λ h. Holds (state h.disk) h.log n → Comes {A = ℕ} (Err e) (state h.disk)
    (state h.disk) h.log n (Receives n tli start bytes (Err e)) (Old n) in
    let here : Goes old = λ holds.
    let runs = running old n (none_of old.log.stopped (sym c.if-is_some.ensures)) holds.remembers in
    let as_log : c.status-before.result ≡ status_of_log n = c.status-before.ensures.told ∙ same_status old.log.head old.log.walker n runs.2 in
    let goes = c.in-Ok.ensures.passes n as_log in
    let on = on_own old.log.head old.log.walker n tli (length bytes) c.status-before.ensures.right runs.2 goes.own in
    let met = c.in-Err-walk.ensures.refuses (timeline_of n) (whole_end n) (start_kept n) (tail_of n) runs.2.walked on in
    let found = fault_found (ident_of n) (timeline_of n) (whole_end n) (start_kept n) (last_end c.walk.new.walker) (last_start c.walk.new.walker)
    at (tail_of n ++ bytes) why (identity c.walk.new.walker) (c.in-Err-walk.ensures.ident ∙ runs.2.of_log) met.past in
    untouched (Err e) (state old.disk) old n (Receives n tli start bytes (Err e)) (Old n) (g.met.D.Disk.only_now old.disk) holds
    (runs.0, (goes, c.in-Ok.ensures.room, found), refl) (λ d was. was) (λ is. absurd cc) in
    subst Goes c.self.view_is here

pub returns-in-Ok-write-clause-steps : goal.returns-in-Ok-write-clause-steps
returns-in-Ok-write-clause-steps g c n =
    let state = g.D.Disk.state in
    let old : HeldLog g.row.D.Denot = held_of c.self.inside.store c.self.inside.walker c.self.inside.stopped in
    let now = c.write.new.self in
    let tli = c.args.tli in
    let start = c.args.start in
    let bytes = c.args.bytes.now in
    let end = c.start.inside.0 + length bytes in
    let next : HeldLog g.row.D.Denot = held_of now c.walk.new.walker old.log.stopped in
    let Goes : HeldLog g.row.D.Denot → Type 0 = λ h. Holds (state h.disk) h.log n → Comes {A = ℕ} (Ok end) (state h.disk) (state now.disk)
    next.log n (Receives n tli start bytes (Ok end)) (Old n) in
    let here : Goes old = λ holds.
    let none = none_of old.log.stopped (sym c.if-is_some.ensures) in
    let runs = running old n none holds.remembers in
    let as_log : c.status-before.result ≡ status_of_log n = c.status-before.ensures.told ∙ same_status old.log.head old.log.walker n runs.2 in
    let goes = c.in-Ok.ensures.passes n as_log in
    let on = on_own old.log.head old.log.walker n tli (length bytes) c.status-before.ensures.right runs.2 goes.own in
    let walked = c.in-Ok-walk.ensures.goes_on (timeline_of n) (whole_end n) (start_kept n) (tail_of n) runs.2.walked on in
    received_comes (state old.disk) (state now.disk) old now c.walk.new.walker n tli start end bytes holds none c.status-before.ensures.right
    goes c.in-Ok.ensures.room (ap (λ (a : ℕ). a + length bytes) c.start.view_is) c.in-Ok-walk.ensures.ident walked c.in-Ok-write.ensures.ok
    c.in-Ok-write.ensures.breaks c.in-Ok-write.ensures.comes in
    subst Goes c.self.view_is here

pub invariant_of-self : goal.invariant_of-self
invariant_of-self g c =
    let state = g.D.Disk.state in
    let old : HeldLog g.row.D.Denot = held_of c.self.inside.store c.self.inside.walker c.self.inside.stopped in
    let now = c.write.new.self in
    let bytes = c.args.bytes.now in
    let n = untold c.self.invariant.0 in
    let holds = untold_holds (state old.disk) old c.self.invariant.0 c.self.invariant.1 in
    let none = none_of old.log.stopped (sym c.if-is_some.ensures) in
    let runs = running old n none holds.remembers in
    let as_log : c.status-before.result ≡ status_of_log n = c.status-before.ensures.told ∙ same_status old.log.head old.log.walker n runs.2 in
    let goes = c.in-Ok.ensures.passes n as_log in
    let on = on_own old.log.head old.log.walker n c.args.tli (length bytes) c.status-before.ensures.right runs.2 goes.own in
    let walked = c.in-Ok-walk.ensures.goes_on (timeline_of n) (whole_end n) (start_kept n) (tail_of n) runs.2.walked on in
    let comes = received_comes (state old.disk) (state now.disk) old now c.walk.new.walker n c.args.tli c.args.start (c.args.start + length bytes)
    bytes holds none c.status-before.ensures.right goes c.in-Ok.ensures.room refl c.in-Ok-walk.ensures.ident walked c.in-Ok-write.ensures.ok
    c.in-Ok-write.ensures.breaks c.in-Ok-write.ensures.comes in
    (comes.next, comes.holds.remembers)

pub returns-in-Err-write-clause-steps : goal.returns-in-Err-write-clause-steps
returns-in-Err-write-clause-steps g c n =
    let state = g.D.Disk.state in
    let old : HeldLog g.row.D.Denot = held_of c.self.inside.store c.self.inside.walker c.self.inside.stopped in
    let now = c.write.new.self in
    let tli = c.args.tli in
    let start = c.args.start in
    let bytes = c.args.bytes.now in
    let e = c.stop.result in
    let next : HeldLog g.row.D.Denot = held_of now old.log.walker c.stop.new.stopped in
    let Goes : HeldLog g.row.D.Denot → Type 0 = λ h. Holds (state h.disk) h.log n → Comes {A = ℕ} (Err e) (state h.disk) (state now.disk)
    next.log n (Receives n tli start bytes (Err e)) (Old n) in
    let here : Goes old = λ holds.
    let none = none_of old.log.stopped (sym c.if-is_some.ensures) in
    let runs = running old n none holds.remembers in
    let as_log : c.status-before.result ≡ status_of_log n = c.status-before.ensures.told ∙ same_status old.log.head old.log.walker n runs.2 in
    let goes = c.in-Ok.ensures.passes n as_log in
    let on = on_own old.log.head old.log.walker n tli (length bytes) c.status-before.ensures.right runs.2 goes.own in
    let walked = c.in-Ok-walk.ensures.goes_on (timeline_of n) (whole_end n) (start_kept n) (tail_of n) runs.2.walked on in
    let records = still_records old.log.walker c.walk.new.walker n bytes (c.in-Ok-walk.ensures.ident ∙ runs.2.of_log) walked in
    refused_at {A = ℕ} (IsReceiveRefusal n tli start bytes) (CanReceive n tli start bytes) (IsReceived n bytes) (Only n) (state old.disk)
    (state now.disk) old now n (Old n) c.in-Err-write.fault c.status-before.result e c.stop.new.stopped holds none (
      goes,
      c.in-Ok.ensures.room,
      records,
    ) refl c.status-before.ensures.told c.in-Err-write.ensures.stays c.in-Err-write.ensures.caused c.in-Err-write.ensures.broken
    c.in-Err-write.ensures.breaks (λ t b. refused_comes (Before n.kept) (Old n) c.in-Err-write.fault (state old.disk) (state now.disk)
    now.head (appended n.kept bytes) n (c.in-Err-write.ensures.stays.same_size ∙ runs.2.size) (λ d was. was) (c.in-Err-write.ensures.comes n.kept
    (holds.backs t b))) c.stop.ensures.answer c.stop.ensures.stopped in
    subst Goes c.self.view_is here

pub invariant_of-self-in-Err-write : goal.invariant_of-self-in-Err-write
invariant_of-self-in-Err-write g c =
    let state = g.D.Disk.state in
    let old : HeldLog g.row.D.Denot = held_of c.self.inside.store c.self.inside.walker c.self.inside.stopped in
    let now = c.write.new.self in
    let n = untold c.self.invariant.0 in
    let holds = untold_holds (state old.disk) old c.self.invariant.0 c.self.invariant.1 in
    let none = none_of old.log.stopped (sym c.if-is_some.ensures) in
    let comes = refused_at {A = Unit {0}} Never (Unit {0}) (λ a m. Unit {0}) (Only n) (state old.disk) (state now.disk) old now n (Old n)
    c.in-Err-write.fault c.status-before.result c.stop.result c.stop.new.stopped holds none tt refl c.status-before.ensures.told
    c.in-Err-write.ensures.stays c.in-Err-write.ensures.caused c.in-Err-write.ensures.broken c.in-Err-write.ensures.breaks (λ t b. absurd cc)
    c.stop.ensures.answer c.stop.ensures.stopped in
    (comes.next, comes.holds.remembers)
