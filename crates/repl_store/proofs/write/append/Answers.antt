-- A write past the written end.
use Rattle.std.proofs.Common.{◌≡◌, ◌+◌, ◌/◌, ◌%◌, ℕ, length, sym, ◌∙◌, ap, subst}
use Rattle.std.specs.Option.{option_map}
use Rattle.std.specs.String.{string_bytes}
use Rattle.repl_store.specs.Head.{Head, IsHead}
use Rattle.repl_store.specs.Tail.{end_file}
use Rattle.repl_store.specs.declared.head.Head.TheInside.{Inside}
use Rattle.repl_store.proofs.Apart.{apart_write, file_is_own}
use Rattle.repl_store.proofs.Backed.{some_same}
use Rattle.repl_store.proofs.Turns.{append_ok, append_err}
use Rattle.repl_store.proofs.write.append.Goals as goal

pub returns-in-Ok-clause-comes : goal.returns-in-Ok-clause-comes
returns-in-Ok-clause-comes g c = λ s backs.
    let head = c.args.head.now in
    let state = g.D.Disk.state in
    let v = c.head.view_is in
    let w = c.head-inside.view_is in
    let named : c.deref.result.now ≡ end_file head = c.deref.ensures
    ∙ some_same (string_bytes c.in-Some.name) (end_file head)
    (sym (ap (option_map string_bytes) c.in-Some.is) ∙ ap (λ (r : Inside). option_map string_bytes r.unsynced) w
    ∙ ap (λ (h : Head). h.unsynced) v ∙ c.requires.ready.named) in
    let end = ap (λ (r : Inside). r.written) w ∙ ap (λ (h : Head). h.written) v in
    let size = c.from.ensures ∙ c.bytes.ensures.value ∙ ap (λ (r : Inside). r.size) w ∙ ap (λ (h : Head). h.size) v in
    append_ok (state c.args.disk.now) head s (subst IsHead v c.head.invariant) backs (g.met.D.Disk.only_now c.args.disk.now)
    (state c.write_at.new.self) c.args.piece.now c.write_at.ensures.ends.time _ c.deref.result.now _ (
      record {
        same_size = ap (λ (h : Head). h.size) v;
        same_control = ap (λ (h : Head). h.control) v;
        same_path = ap (λ (h : Head). h.path) v;
        same_end = ap (λ (n : ℕ). n + length c.args.piece.now) end;
      },
      ap (λ (h : Head). h.synced) v,
    ) named
    (ap (λ (n : ℕ). n % c.from.result) end ∙ ap (λ (n : ℕ). head.written % n) size) c.requires.inside c.in-Ok.ensures.written
    c.in-Ok.ensures.crash

pub returns-in-Err-clause-comes : goal.returns-in-Err-clause-comes
returns-in-Err-clause-comes g c = λ s backs.
    let head = c.args.head.now in
    let state = g.D.Disk.state in
    let v = c.head.view_is in
    let w = c.head-inside.view_is in
    let named : c.deref.result.now ≡ end_file head = c.deref.ensures
    ∙ some_same (string_bytes c.in-Some.name) (end_file head)
    (sym (ap (option_map string_bytes) c.in-Some.is) ∙ ap (λ (r : Inside). option_map string_bytes r.unsynced) w
    ∙ ap (λ (h : Head). h.unsynced) v ∙ c.requires.ready.named) in
    let end = ap (λ (r : Inside). r.written) w ∙ ap (λ (h : Head). h.written) v in
    let size = c.from.ensures ∙ c.bytes.ensures.value ∙ ap (λ (r : Inside). r.size) w ∙ ap (λ (h : Head). h.size) v in
    append_err (state c.args.disk.now) head s (subst IsHead v c.head.invariant) backs (g.met.D.Disk.only_now c.args.disk.now)
    (state c.write_at.new.self) c.args.piece.now c.write_at.ensures.ends.time c.in-Err.error c.fault_of.result c.deref.result.now _
    c.fault_of.ensures named (ap (λ (n : ℕ). n % c.from.result) end ∙ ap (λ (n : ℕ). head.written % n) size)
    c.in-Err.ensures.never_missing c.in-Err.ensures.written c.in-Err.ensures.crash c.in-Err.ensures.ends.faults

pub returns-in-Ok-clause-apart : goal.returns-in-Ok-clause-apart
returns-in-Ok-clause-apart g c =
    let head = c.args.head.now in
    let state = g.D.Disk.state in
    let named : c.deref.result.now ≡ end_file head = c.deref.ensures
    ∙ some_same (string_bytes c.in-Some.name) (end_file head)
    (sym (ap (option_map string_bytes) c.in-Some.is) ∙ ap (λ (r : Inside). option_map string_bytes r.unsynced) c.head-inside.view_is
    ∙ ap (λ (h : Head). h.unsynced) c.head.view_is ∙ c.requires.ready.named) in
    apart_write c.write_at.result (state c.args.disk.now) (state c.write_at.new.self) (g.met.D.Disk.only_now c.args.disk.now)
    c.write_at.ensures.ends.time c.deref.result.now
    (file_is_own c.deref.result.now head.size head.path (head.written / head.size) named) _ c.args.piece.now c.write_at.ensures.written
    c.write_at.ensures.crash

pub returns-in-Err-clause-apart : goal.returns-in-Err-clause-apart
returns-in-Err-clause-apart g c =
    let head = c.args.head.now in
    let state = g.D.Disk.state in
    let named : c.deref.result.now ≡ end_file head = c.deref.ensures
    ∙ some_same (string_bytes c.in-Some.name) (end_file head)
    (sym (ap (option_map string_bytes) c.in-Some.is) ∙ ap (λ (r : Inside). option_map string_bytes r.unsynced) c.head-inside.view_is
    ∙ ap (λ (h : Head). h.unsynced) c.head.view_is ∙ c.requires.ready.named) in
    apart_write c.write_at.result (state c.args.disk.now) (state c.write_at.new.self) (g.met.D.Disk.only_now c.args.disk.now)
    c.write_at.ensures.ends.time c.deref.result.now
    (file_is_own c.deref.result.now head.size head.path (head.written / head.size) named) _ c.args.piece.now c.write_at.ensures.written
    c.write_at.ensures.crash
