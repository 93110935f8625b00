-- Past the limit no record ends within it.
use Rattle.std.proofs.Common.{◌≡◌, true, false, arith}
use Rattle.repl_record.proofs.ImageLength.{end_least}
use Rattle.repl_wal.proofs.append.has_room.Goals as goal

pub returns-then-at-gt-LOG_LIMIT : goal.returns-then-at-gt-LOG_LIMIT
returns-then-at-gt-LOG_LIMIT c =
    let at : c.at.inside.0 ≡ c.args.at = c.at.view_is in (
      λ yes. (let no : false ≡ true = yes in absurd cc),
      λ within. absurd (omega (arith, within, at, end_least c.args.size c.args.at c.args.length, c.if-at-gt-LOG_LIMIT.true)),
    )
