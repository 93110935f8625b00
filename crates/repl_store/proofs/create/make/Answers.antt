-- A replacement after a look whether the control is there.
use Rattle.std.proofs.Common.{◌∙◌}
use Rattle.repl_disk.specs.Runs.{where_told}
use Rattle.repl_store.specs.Durable.{control_aside, control_name}
use Rattle.repl_control.specs.Control.{control_bytes}
use Rattle.repl_store.proofs.Apart.{apart_on, apart_query}
use Rattle.repl_store.proofs.Making.{replaced_later}
use Rattle.repl_store.proofs.create.make.Goals as goal

pub returns-in-Ok-put_control-clause-moments : goal.returns-in-Ok-put_control-clause-moments
returns-in-Ok-put_control-clause-moments g c =
    let state = g.D.Disk.state in
    where_told _ _ (λ folder told. replaced_later (state c.args.disk.now) (state c.size.new.self) (state c.put_control.new.disk) folder control_name
    control_aside (control_bytes c.args.control.now) (g.met.D.Disk.only_now c.args.disk.now) c.size.ensures.crash c.size.ensures.ends.time
    (c.size.ensures.files ∙ told) c.put_control.ensures.any_moment)

pub returns-in-Err-put_control-clause-moments : goal.returns-in-Err-put_control-clause-moments
returns-in-Err-put_control-clause-moments g c =
    let state = g.D.Disk.state in
    where_told _ _ (λ folder told. replaced_later (state c.args.disk.now) (state c.size.new.self) (state c.put_control.new.disk) folder control_name
    control_aside (control_bytes c.args.control.now) (g.met.D.Disk.only_now c.args.disk.now) c.size.ensures.crash c.size.ensures.ends.time
    (c.size.ensures.files ∙ told) c.put_control.ensures.any_moment)

pub returns-in-Ok-put_control-clause-apart : goal.returns-in-Ok-put_control-clause-apart
returns-in-Ok-put_control-clause-apart g c =
    let state = g.D.Disk.state in
    apart_on (state c.args.disk.now) (state c.size.new.self) (state c.put_control.new.disk)
    (apart_query (state c.args.disk.now) (state c.size.new.self) (g.met.D.Disk.only_now c.args.disk.now) c.size.ensures.files
    c.size.ensures.crash c.size.ensures.ends.time) c.put_control.ensures.apart

pub returns-in-Err-put_control-clause-apart : goal.returns-in-Err-put_control-clause-apart
returns-in-Err-put_control-clause-apart g c =
    let state = g.D.Disk.state in
    apart_on (state c.args.disk.now) (state c.size.new.self) (state c.put_control.new.disk)
    (apart_query (state c.args.disk.now) (state c.size.new.self) (g.met.D.Disk.only_now c.args.disk.now) c.size.ensures.files
    c.size.ensures.crash c.size.ensures.ends.time) c.put_control.ensures.apart

pub returns-in-Ok-clause-apart : goal.returns-in-Ok-clause-apart
returns-in-Ok-clause-apart g c =
    apart_query (g.D.Disk.state c.args.disk.now) (g.D.Disk.state c.size.new.self) (g.met.D.Disk.only_now c.args.disk.now)
    c.size.ensures.files c.size.ensures.crash c.size.ensures.ends.time

pub returns-in-Err-clause-apart : goal.returns-in-Err-clause-apart
returns-in-Err-clause-apart g c =
    apart_query (g.D.Disk.state c.args.disk.now) (g.D.Disk.state c.size.new.self) (g.met.D.Disk.only_now c.args.disk.now)
    c.size.ensures.files c.size.ensures.crash c.size.ensures.ends.time
