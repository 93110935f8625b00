-- One more value is read, or the first that is not is told.
use Rattle.std.proofs.Common.{◌≡◌, ◌++◌, ◌∷◌, [], length, arith}
use Rattle.std.proofs.lemmas.Result.{err_from_is_err_and}
use Rattle.repl_wire.specs.Judging.{entries_at, column_at}
use Rattle.repl_wire.proofs.ServerFields.{entry_read, entry_fails, all_read, length-entries}
use Rattle.repl_wire.proofs.server_fields.columns_of.Goals as goal

pub returns-in_err-column : goal.returns-in_err-column
returns-in_err-column c =
    let p = err_from_is_err_and c.from_residual.result c.from_residual.ensures.1 in
    rw (p.1, p.2) (entry_fails column_at c.in_err-column.field-0.0 c.loop.columns.items c.args.count c.loop.counter c.loop.rest.now
    (entries_at column_at c.args.count c.args.bytes.now) c.loop-test.true c.in_err-column.ensures c.loop.invariant)

pub loop-preserved : goal.loop-preserved
loop-preserved c =
    let e : c.push.new.self.items ≡ c.loop.columns.items ++ c.in_ok-column.column ∷ [] = c.in_ok-push.ensures.items in
    rw e (entry_read column_at c.loop.columns.items c.args.count c.loop.counter c.loop.rest.now c.in_ok-column.column
    c.in_ok-column.after.now (entries_at column_at c.args.count c.args.bytes.now) c.loop-test.true c.in_ok-column.ensures
    c.loop.invariant)

pub unreachable-requires : goal.unreachable-requires
unreachable-requires c =
    let read = all_read column_at c.loop.columns.items c.args.count c.loop.counter c.loop.rest.now
    (entries_at column_at c.args.count c.args.bytes.now) c.loop-test.false c.loop.invariant in
    let len : length c.loop.columns.items ≡ c.args.count = length-entries column_at c.args.count c.args.bytes.now
    (c.loop.columns.items, c.loop.rest.now) read in
    absurd (let e = c.in-None.ensures.taken.1 (omega arith) in cc)

pub returns : goal.returns
returns c =
    let read = all_read column_at c.loop.columns.items c.args.count c.loop.counter c.loop.rest.now
    (entries_at column_at c.args.count c.args.bytes.now) c.loop-test.false c.loop.invariant in
    rw c.in-Some.ensures.made read
