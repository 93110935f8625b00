-- What has room begins within the limit.
use Rattle.std.proofs.Common.{rules, ◌≤◌, ◌^◌, length, arith}
use Rattle.repl_record.proofs.ImageLength.{end_least}
use Rattle.repl_record.specs.Length.{image_end}
use Rattle.repl_wal.proofs.append.lay_past.Goals as goal

pub lay_out-requires-clause-below : goal.lay_out-requires-clause-below
lay_out-requires-clause-below c =
    let ends : image_end c.args.status.now.ident.size c.args.status.now.written (length c.args.item.now.body) ≤ 2 ^ 62 = search rules in
    omega (arith, ends, end_least c.args.status.now.ident.size c.args.status.now.written (length c.args.item.now.body))
