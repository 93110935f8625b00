-- What is taken of a buffer is what judging gives, whatever its head says.
use Rattle.std.proofs.Common.{sym, arith}
use Rattle.repl_wire.specs.declared.taking.Taken.TheVariants as taken
use Rattle.repl_wire.proofs.Heads.{head_short, head_wrong, head_part}
use Rattle.repl_wire.proofs.Messages.{is_found, is_only}
use Rattle.repl_wire.proofs.PlaceLaws.{is_place}
use Rattle.repl_wire.proofs.taking.take.Goals as goal

pub returns-in-Short-clause-only : goal.returns-in-Short-clause-only
returns-in-Short-clause-only c = is_only c.args.phase c.args.bytes.now taken.Short
    (head_short c.args.phase c.args.bytes.now (sym c.in-Short.ensures.exact))

pub returns-in-Short-clause-exact : goal.returns-in-Short-clause-exact
returns-in-Short-clause-exact c = head_short c.args.phase c.args.bytes.now (sym c.in-Short.ensures.exact)

pub returns-in-Wrong-clause-only : goal.returns-in-Wrong-clause-only
returns-in-Wrong-clause-only c = is_only c.args.phase c.args.bytes.now (taken.Wrong c.in-Wrong.fault)
    (head_wrong c.args.phase c.args.bytes.now c.in-Wrong.fault (sym c.in-Wrong.ensures.exact))

pub returns-in-Wrong-clause-exact : goal.returns-in-Wrong-clause-exact
returns-in-Wrong-clause-exact c = head_wrong c.args.phase c.args.bytes.now c.in-Wrong.fault (sym c.in-Wrong.ensures.exact)

pub returns-then-bytes-size-clause-only : goal.returns-then-bytes-size-clause-only
returns-then-bytes-size-clause-only c = is_only c.args.phase c.args.bytes.now taken.Short
    (head_part c.args.phase c.args.bytes.now c.in-Frame.size (sym c.in-Frame.ensures.exact) c.if-bytes-size.true)

pub returns-then-bytes-size-clause-exact : goal.returns-then-bytes-size-clause-exact
returns-then-bytes-size-clause-exact c =
    head_part c.args.phase c.args.bytes.now c.in-Frame.size (sym c.in-Frame.ensures.exact) c.if-bytes-size.true

pub returns-clause-found : goal.returns-clause-found
returns-clause-found c = is_found c.args.phase c.args.bytes.now c.take_frame.result (λ i. omega (arith, c.type_inv.bytes i))
    c.take_frame.ensures

pub returns-clause-only : goal.returns-clause-only
returns-clause-only c = is_only c.args.phase c.args.bytes.now c.take_frame.result c.take_frame.ensures

pub returns-clause-place : goal.returns-clause-place
returns-clause-place c = is_place c.args.phase c.args.bytes.now c.take_frame.result (λ i. omega (arith, c.type_inv.bytes i))
    c.take_frame.ensures
