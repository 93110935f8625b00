-- A power of two in the range is a size.
use Rattle.std.proofs.Common.{◌≤◌, ◌*◌, ◌%◌, ◌^◌, refl, rules}
use Rattle.repl_lsn.proofs.SizeTexts.{log2_found}
use Rattle.repl_lsn.proofs.segment.SegSize.from_log2.Goals as goal

pub returns-then-contains : goal.returns-then-contains
returns-then-contains c =
    let least : 20 ≤ c.args.log2 = search rules in
    let most : c.args.log2 ≤ 30 = search rules in
    log2_found c.args.log2 (1 * 2 ^ c.args.log2 % 4294967296) c.new-then-contains.result refl c.new-then-contains.ensures least most
