-- The whole control is read.
use Rattle.std.proofs.Common.{arith}
use Rattle.repl_store.specs.Durable.{control_name}
use Rattle.repl_store.proofs.Mounting.{front_is_all, told_along, told_both}
use Rattle.repl_store.proofs.mount.read_control_bytes.Goals as goal

pub returns-clause-read : goal.returns-clause-read
returns-clause-read g c =
    let state = g.D.Disk.state in
    let files = (state c.args.disk.now).files in
    let stayed = c.in_ok-length.ensures.asks.only.stayed in
    let front = told_along files (state c.length_of.new.disk).files _ stayed c.in_ok-read_front.ensures.read in
    told_both files _ _ _ (λ folder whole front. front_is_all (folder control_name) 56 c.read_front.new.room
    (whole.0, whole.1, omega (arith, c.if-length.false, whole.2)) front) c.in_ok-length.ensures.read front
