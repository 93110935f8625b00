-- What was read is the log's, and the log stays, or stops.
use Rattle.std.proofs.Common.{◌≡◌, ℕ, ◌+◌, ◌-◌, ◌≤◌, ◌++◌, length, take, drop, List, Result, Ok, Err, refl, sym, ap, ◌∙◌, subst, arith, length-append, length-drop, length-take}
use Rattle.repl_control.specs.declared.control.Control.{Control}
use Rattle.repl_record.specs.declared.walker.Walker.{Walker}
use Rattle.repl_store.specs.Backing.{Before, log}
use Rattle.repl_store.specs.Head.{Head}
use Rattle.repl_store.specs.declared.fault.StoreFault.{StoreFault}
use Rattle.repl_wal.specs.Holding.{Comes, HeldLog, Holds, Runs, held_of}
use Rattle.repl_wal.specs.Reading.{CanRead, IsRange, IsRead, IsReadRefusal, Reads}
use Rattle.repl_wal.specs.State.{LogState, floor_of, flushed_end, status_of_log}
use Rattle.repl_wal.specs.Steps.{Never, Old, Only}
use Rattle.repl_wal.specs.declared.read.Range.TheVariants as range
use Rattle.repl_wal.specs.declared.read.ReadOut.{ReadOut}
use Rattle.repl_wal.specs.declared.read.ReadOut.TheVariants as out
use Rattle.repl_wal.proofs.Ending.{broken_of, failure, none_of, refused_at, refused_comes, running, same_status, says_no, untold, untold_holds, untouched}
use Rattle.repl_wal.proofs.Reading.{at_same, kept_comes, read_front, reads_low}
use Rattle.repl_wal.proofs.Running.{marks}
use Rattle.repl_wal.proofs.wal.Wal.read.Goals as goal

-- a read of the log, as a rule
abbrev DoneRead : LogState → ℕ → ℕ → List ℕ → List ℕ → ReadOut → LogState → Type 0
DoneRead n tli at before after read m = IsRead n tli at before after read × (m ≡ n)

pub returns-in-Err-clause-steps : goal.returns-in-Err-clause-steps
returns-in-Err-clause-steps g c n =
    let state = g.D.Disk.state in
    let old : HeldLog g.row.D.Denot = held_of c.self.inside.store c.self.inside.walker c.self.inside.stopped in
    let e = c.in-Err.fault in
    let tli = c.args.tli in
    let at = c.args.at in
    let room = c.args.room.now in
    let Goes : HeldLog g.row.D.Denot → Type 0 = λ h. Holds (state h.disk) h.log n → Comes {A = ReadOut} (Err e) (state h.disk)
    (state h.disk) h.log n (Reads n tli at room room (Err e)) (Old n) in
    let here : Goes old = λ holds.
    let runs = running old n (none_of old.log.stopped (sym c.if-is_some.ensures)) holds.remembers in
    let as_log : c.status-before.result ≡ status_of_log n = c.status-before.ensures.told ∙ same_status old.log.head old.log.walker n runs.2 in
    let said = says_no {A = ReadOut} (IsReadRefusal n tli at) (CanRead n tli at) (DoneRead n tli at room room) (Only n) n e (λ no. no) (λ no. no)
    (λ no. no) runs.0 (c.in-Err.ensures.refused n (c.path.ensures ∙ runs.2.path) as_log) in
    untouched (Err e) (state old.disk) old n (Reads n tli at room room (Err e)) (Old n) (g.met.D.Disk.only_now old.disk) holds said.0
    (λ d was. was) (λ is. said.1 (failure {A = ReadOut} e is)) in
    subst Goes c.self.view_is here

pub returns-in-Nothing-clause-steps : goal.returns-in-Nothing-clause-steps
returns-in-Nothing-clause-steps g c n =
    let state = g.D.Disk.state in
    let old : HeldLog g.row.D.Denot = held_of c.self.inside.store c.self.inside.walker c.self.inside.stopped in
    let read = c.in-Nothing.answer in
    let tli = c.args.tli in
    let at = c.args.at in
    let room = c.args.room.now in
    let Goes : HeldLog g.row.D.Denot → Type 0 = λ h. Holds (state h.disk) h.log n → Comes {A = ReadOut} (Ok read) (state h.disk)
    (state h.disk) h.log n (Reads n tli at room room (Ok read)) (Old n) in
    let here : Goes old = λ holds.
    let runs = running old n (none_of old.log.stopped (sym c.if-is_some.ensures)) holds.remembers in
    let as_log : c.status-before.result ≡ status_of_log n = c.status-before.ensures.told ∙ same_status old.log.head old.log.walker n runs.2 in
    let found = c.in-Ok.ensures.range n (c.path.ensures ∙ runs.2.path) as_log in
    let is : IsRange n tli at (range.Nothing read) = subst (IsRange n tli at) c.in-Nothing.is found.1 in
    untouched (Ok read) (state old.disk) old n (Reads n tli at room room (Ok read)) (Old n) (g.met.D.Disk.only_now old.disk) holds
    (runs.0, found.0, (nothing n tli at room room read is, refl)) (λ d was. was) (λ is. absurd cc) in
    subst Goes c.self.view_is here
  where
    nothing : (n : LogState) (tli at : ℕ) (before after : List ℕ) (read : ReadOut) → IsRange n tli at (range.Nothing read)
        → IsRead n tli at before after read
    nothing n tli at before after (out.Bytes count) is = absurd is
    nothing n tli at before after out.AtEnd is = is
    nothing n tli at before after (out.Ended next switch) is = is

pub read_count-count-requires-clause-limit : goal.read_count-count-requires-clause-limit
read_count-count-requires-clause-limit g c =
    let old : HeldLog g.row.D.Denot = held_of c.self.inside.store c.self.inside.walker c.self.inside.stopped in
    let n = c.self.invariant.0 in
    let runs = running old n (none_of old.log.stopped (sym c.if-is_some.ensures)) c.self.invariant.1 in
    let as_log : c.status-before.result ≡ status_of_log n = c.status-before.ensures.told ∙ same_status old.log.head old.log.walker n runs.2 in
    let found = c.in-Ok.ensures.range n (c.path.ensures ∙ runs.2.path) as_log in
    let is : IsRange n c.args.tli c.args.at (range.UpTo c.in-UpTo.end) = subst (IsRange n c.args.tli c.args.at) c.in-UpTo.is found.1 in
    let right = c.status-before.ensures.right in
    let m = marks old.log.head old.log.walker n right runs.2 in
    omega (arith, reads_low old.log.head old.log.walker n c.args.tli c.in-UpTo.end right runs.2 is.0, m.limit)

pub read_into-requires-clause-end : goal.read_into-requires-clause-end
read_into-requires-clause-end g c =
    let old : HeldLog g.row.D.Denot = held_of c.self.inside.store c.self.inside.walker c.self.inside.stopped in
    let n = c.self.invariant.0 in
    let runs = running old n (none_of old.log.stopped (sym c.if-is_some.ensures)) c.self.invariant.1 in
    let as_log : c.status-before.result ≡ status_of_log n = c.status-before.ensures.told ∙ same_status old.log.head old.log.walker n runs.2 in
    let found = c.in-Ok.ensures.range n (c.path.ensures ∙ runs.2.path) as_log in
    let is : IsRange n c.args.tli c.args.at (range.UpTo c.in-UpTo.end) = subst (IsRange n c.args.tli c.args.at) c.in-UpTo.is found.1 in
    let right = c.status-before.ensures.right in
    omega (
      arith,
      reads_low old.log.head old.log.walker n c.args.tli c.in-UpTo.end right runs.2 is.0,
      runs.2.written,
      c.read_count-count.ensures.within.0,
      c.read_count-count.ensures.within.1,
      length-take c.read_count-count.result c.args.room.now,
    )

-- what the store read is what the log has there
got : (n : LogState) (head : Head) (w : Walker) (at count end : ℕ) (room into rest : List ℕ) → Runs head w n → floor_of n ≤ at
    → count ≤ length room → at + count ≤ end → end ≤ flushed_end n
    → into ≡ take (length (take count room)) (drop (at - head.control.floor) (log n.kept))
    → take count (into ++ rest) ≡ take count (drop (at - floor_of n) (log n.kept))
got n head w at count end room into rest runs floor fits within flushed is =
    let long : length (take count room) ≡ count = omega (arith, length-take count room, fits) in
    let low : head.control.floor ≡ floor_of n = ap (λ (k : Control). k.floor) runs.control in
    let from = drop (at - floor_of n) (log n.kept) in
    let same : into ≡ take count from = is ∙ ap (λ (k : ℕ). take k (drop (at - head.control.floor) (log n.kept))) long
    ∙ ap (λ (f : ℕ). take count (drop (at - f) (log n.kept))) low in
    read_front from rest into count same (omega (
      arith,
      length-drop (at - floor_of n) (log n.kept),
      length-append n.kept.durable.bytes n.kept.unflushed,
      runs.counted,
      floor,
      within,
      flushed,
    ))

pub returns-in-Ok-read_into-clause-steps : goal.returns-in-Ok-read_into-clause-steps
returns-in-Ok-read_into-clause-steps g c n =
    let state = g.D.Disk.state in
    let old : HeldLog g.row.D.Denot = held_of c.self.inside.store c.self.inside.walker c.self.inside.stopped in
    let now = c.read_into.new.self in
    let tli = c.args.tli in
    let at = c.args.at in
    let room = c.args.room.now in
    let count = c.read_count-count.result in
    let into = c.read_into.new.room in
    let after = into ++ drop count room in
    let read = out.Bytes count in
    let next : HeldLog g.row.D.Denot = held_of now old.log.walker old.log.stopped in
    let Goes : HeldLog g.row.D.Denot → Type 0 = λ h. Holds (state h.disk) h.log n → Comes {A = ReadOut} (Ok read) (state h.disk)
    (state now.disk) next.log n (Reads n tli at room after (Ok read)) (Old n) in
    let here : Goes old = λ holds.
    let none = none_of old.log.stopped (sym c.if-is_some.ensures) in
    let runs = running old n none holds.remembers in
    let as_log : c.status-before.result ≡ status_of_log n = c.status-before.ensures.told ∙ same_status old.log.head old.log.walker n runs.2 in
    let found = c.in-Ok.ensures.range n (c.path.ensures ∙ runs.2.path) as_log in
    let is : IsRange n tli at (range.UpTo c.in-UpTo.end) = subst (IsRange n tli at) c.in-UpTo.is found.1 in
    let low = reads_low old.log.head old.log.walker n tli c.in-UpTo.end c.status-before.ensures.right runs.2 is.0 in
    let done : DoneRead n tli at room after read n = (
      (
        (c.in-UpTo.end, is.0, is.1, c.read_count-count.ensures.value),
        λ t. got n old.log.head old.log.walker at count c.in-UpTo.end room into (drop count room) runs.2 is.2 c.read_count-count.ensures.within.0
            c.read_count-count.ensures.within.1 low (c.in-Ok-read_into.ensures.read n.kept (holds.backs t runs.0)),
      ),
      refl,
    ) in
    kept_comes (IsReadRefusal n tli at) (CanRead n tli at) (DoneRead n tli at room after) (Only n) read (state old.disk) (state now.disk) old
    now n holds none found.0 done c.in-Ok-read_into.ensures.head c.in-Ok-read_into.ensures.breaks c.in-Ok-read_into.ensures.comes in
    subst Goes c.self.view_is here

pub invariant_of-self : goal.invariant_of-self
invariant_of-self g c =
    let state = g.D.Disk.state in
    let old : HeldLog g.row.D.Denot = held_of c.self.inside.store c.self.inside.walker c.self.inside.stopped in
    let now = c.read_into.new.self in
    let n = untold c.self.invariant.0 in
    let holds = untold_holds (state old.disk) old c.self.invariant.0 c.self.invariant.1 in
    let none = none_of old.log.stopped (sym c.if-is_some.ensures) in
    let comes = kept_comes {A = Unit {0}} Never (Unit {0}) (λ a m. Unit {0}) (Only n) tt (state old.disk) (state now.disk) old now n holds none tt
    tt c.in-Ok-read_into.ensures.head c.in-Ok-read_into.ensures.breaks c.in-Ok-read_into.ensures.comes in
    (comes.next, comes.holds.remembers)

pub returns-in-Err-read_into-clause-steps : goal.returns-in-Err-read_into-clause-steps
returns-in-Err-read_into-clause-steps g c n =
    let state = g.D.Disk.state in
    let old : HeldLog g.row.D.Denot = held_of c.self.inside.store c.self.inside.walker c.self.inside.stopped in
    let now = c.read_into.new.self in
    let tli = c.args.tli in
    let at = c.args.at in
    let room = c.args.room.now in
    let after = c.read_into.new.room ++ drop c.read_count-count.result room in
    let e = c.stop.result in
    let next : HeldLog g.row.D.Denot = held_of now old.log.walker c.stop.new.stopped in
    let Goes : HeldLog g.row.D.Denot → Type 0 = λ h. Holds (state h.disk) h.log n → Comes {A = ReadOut} (Err e) (state h.disk)
    (state now.disk) next.log n (Reads n tli at room after (Err e)) (Old n) in
    let here : Goes old = λ holds.
    let none = none_of old.log.stopped (sym c.if-is_some.ensures) in
    let runs = running old n none holds.remembers in
    let as_log : c.status-before.result ≡ status_of_log n = c.status-before.ensures.told ∙ same_status old.log.head old.log.walker n runs.2 in
    let found = c.in-Ok.ensures.range n (c.path.ensures ∙ runs.2.path) as_log in
    let stays = at_same old.log.head now.head c.in-Err-read_into.ensures.head in
    refused_at {A = ReadOut} (IsReadRefusal n tli at) (CanRead n tli at) (DoneRead n tli at room after) (Only n) (state old.disk)
    (state now.disk) old now n (Old n) c.in-Err-read_into.fault c.status-before.result e c.stop.new.stopped holds none found.0 refl
    c.status-before.ensures.told stays c.in-Err-read_into.ensures.caused c.in-Err-read_into.ensures.broken c.in-Err-read_into.ensures.breaks
    (λ t b. refused_comes (Before n.kept) (Old n) c.in-Err-read_into.fault (state old.disk) (state now.disk) now.head n.kept n
    (stays.same_size ∙ runs.2.size) (λ d was. was) (c.in-Err-read_into.ensures.comes n.kept (holds.backs t b))) c.stop.ensures.answer
    c.stop.ensures.stopped in
    subst Goes c.self.view_is here

pub invariant_of-self-in-Err-read_into : goal.invariant_of-self-in-Err-read_into
invariant_of-self-in-Err-read_into g c =
    let state = g.D.Disk.state in
    let old : HeldLog g.row.D.Denot = held_of c.self.inside.store c.self.inside.walker c.self.inside.stopped in
    let now = c.read_into.new.self in
    let n = untold c.self.invariant.0 in
    let holds = untold_holds (state old.disk) old c.self.invariant.0 c.self.invariant.1 in
    let none = none_of old.log.stopped (sym c.if-is_some.ensures) in
    let comes = refused_at {A = Unit {0}} Never (Unit {0}) (λ a m. Unit {0}) (Only n) (state old.disk) (state now.disk) old now n (Old n)
    c.in-Err-read_into.fault c.status-before.result c.stop.result c.stop.new.stopped holds none tt refl c.status-before.ensures.told
    (at_same old.log.head now.head c.in-Err-read_into.ensures.head) c.in-Err-read_into.ensures.caused c.in-Err-read_into.ensures.broken
    c.in-Err-read_into.ensures.breaks (λ t b. absurd cc) c.stop.ensures.answer c.stop.ensures.stopped in
    (comes.next, comes.holds.remembers)

pub returns-in-Err-read_into-clause-idle : goal.returns-in-Err-read_into-clause-idle
returns-in-Err-read_into-clause-idle g c is =
    let Fails : StoreFault → Result (Unit {0}) StoreFault = λ f. Err f in
    let broken = broken_of {A = ReadOut} c.in-Err-read_into.fault c.stop.result c.stop.ensures.answer is in
    subst (λ (h : HeldLog g.row.D.Denot). c.read_into.new.self.disk ≡ h.disk) c.self.view_is (c.in-Err-read_into.ensures.idle (ap Fails broken))
