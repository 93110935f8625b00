-- A sync of the file that has bytes which are not certain.
use Rattle.std.proofs.Common.{◌≡◌, ◌/◌, sym, ◌∙◌, ap, subst}
use Rattle.std.specs.Option.{option_map}
use Rattle.std.specs.String.{string_bytes}
use Rattle.repl_store.specs.Durable.{segment_file}
use Rattle.repl_store.specs.Head.{Head, IsHead}
use Rattle.repl_store.proofs.Apart.{apart_sync, file_is_own}
use Rattle.repl_store.proofs.Backed.{apart_by, below_by, some_same, tail_of}
use Rattle.repl_store.proofs.Pieces.{idle}
use Rattle.repl_store.proofs.Turns.{done_comes, sync_ok, sync_err}
use Rattle.repl_store.proofs.flush.sync_tail.Goals as goal

pub returns-then-eq-clause-comes : goal.returns-then-eq-clause-comes
returns-then-eq-clause-comes g c = λ s backs.
    let disk = g.D.Disk.state c.args.disk.now in
    done_comes tt disk disk c.args.head.now _ s (λ t. t ≡ s)
    (idle disk c.args.head.now s (g.met.D.Disk.only_now c.args.disk.now) backs) backs

pub returns-in-Ok-clause-comes : goal.returns-in-Ok-clause-comes
returns-in-Ok-clause-comes g c = λ s backs.
    let head = c.args.head.now in
    let state = g.D.Disk.state in
    let v = c.head.view_is in
    let is = subst IsHead v c.head.invariant in
    let apart = apart_by c.head.inside.synced c.head.inside.written head.synced head.written (ap (λ (h : Head). h.synced) v)
    (ap (λ (h : Head). h.written) v) c.if-eq.ensures in
    let tail = tail_of head is apart in
    let named = c.deref.ensures
    ∙ some_same (string_bytes c.in-Some.name) (segment_file head.size head.path (head.synced / head.size))
    (sym (ap (option_map string_bytes) c.in-Some.is) ∙ ap (λ (h : Head). h.unsynced) v ∙ tail.0) in
    sync_ok (state c.args.disk.now) head s is backs (g.met.D.Disk.only_now c.args.disk.now) (state c.sync.new.self) tail.1
    (below_by head.synced head.written is.synced apart) c.sync.ensures.ends.time c.sync.ensures.files _ c.deref.result.now (
      record {
        same_size = ap (λ (h : Head). h.size) v;
        same_control = ap (λ (h : Head). h.control) v;
        same_path = ap (λ (h : Head). h.path) v;
        same_end = ap (λ (h : Head). h.written) v;
      },
      ap (λ (h : Head). h.written) v,
    ) named c.in-Ok.ensures.crash

pub returns-in-Err-clause-comes : goal.returns-in-Err-clause-comes
returns-in-Err-clause-comes g c = λ s backs.
    let head = c.args.head.now in
    let state = g.D.Disk.state in
    let v = c.head.view_is in
    let is = subst IsHead v c.head.invariant in
    let apart = apart_by c.head.inside.synced c.head.inside.written head.synced head.written (ap (λ (h : Head). h.synced) v)
    (ap (λ (h : Head). h.written) v) c.if-eq.ensures in
    let tail = tail_of head is apart in
    let named = c.deref.ensures
    ∙ some_same (string_bytes c.in-Some.name) (segment_file head.size head.path (head.synced / head.size))
    (sym (ap (option_map string_bytes) c.in-Some.is) ∙ ap (λ (h : Head). h.unsynced) v ∙ tail.0) in
    sync_err (state c.args.disk.now) head s is backs (g.met.D.Disk.only_now c.args.disk.now) (state c.sync.new.self) tail.1
    (below_by head.synced head.written is.synced apart) c.sync.ensures.ends.time c.sync.ensures.files c.in-Err.error c.fault_of.result
    c.deref.result.now c.fault_of.ensures named c.in-Err.ensures.there c.in-Err.ensures.crash c.in-Err.ensures.ends.faults

pub returns-in-Ok-clause-apart : goal.returns-in-Ok-clause-apart
returns-in-Ok-clause-apart g c =
    let head = c.args.head.now in
    let state = g.D.Disk.state in
    let v = c.head.view_is in
    let is = subst IsHead v c.head.invariant in
    let apart = apart_by c.head.inside.synced c.head.inside.written head.synced head.written (ap (λ (h : Head). h.synced) v)
    (ap (λ (h : Head). h.written) v) c.if-eq.ensures in
    let named = c.deref.ensures
    ∙ some_same (string_bytes c.in-Some.name) (segment_file head.size head.path (head.synced / head.size))
    (sym (ap (option_map string_bytes) c.in-Some.is) ∙ ap (λ (h : Head). h.unsynced) v ∙ (tail_of head is apart).0) in
    apart_sync c.sync.result (state c.args.disk.now) (state c.sync.new.self) (g.met.D.Disk.only_now c.args.disk.now)
    c.sync.ensures.ends.time c.deref.result.now (file_is_own c.deref.result.now head.size head.path (head.synced / head.size) named)
    c.sync.ensures.files c.sync.ensures.crash

pub returns-in-Err-clause-apart : goal.returns-in-Err-clause-apart
returns-in-Err-clause-apart g c =
    let head = c.args.head.now in
    let state = g.D.Disk.state in
    let v = c.head.view_is in
    let is = subst IsHead v c.head.invariant in
    let apart = apart_by c.head.inside.synced c.head.inside.written head.synced head.written (ap (λ (h : Head). h.synced) v)
    (ap (λ (h : Head). h.written) v) c.if-eq.ensures in
    let named = c.deref.ensures
    ∙ some_same (string_bytes c.in-Some.name) (segment_file head.size head.path (head.synced / head.size))
    (sym (ap (option_map string_bytes) c.in-Some.is) ∙ ap (λ (h : Head). h.unsynced) v ∙ (tail_of head is apart).0) in
    apart_sync c.sync.result (state c.args.disk.now) (state c.sync.new.self) (g.met.D.Disk.only_now c.args.disk.now)
    c.sync.ensures.ends.time c.deref.result.now (file_is_own c.deref.result.now head.size head.path (head.synced / head.size) named)
    c.sync.ensures.files c.sync.ensures.crash
