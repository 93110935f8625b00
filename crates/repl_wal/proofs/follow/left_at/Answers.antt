-- With one parent more a history goes on from the path, or a parent differs.
use Rattle.repl_wal.proofs.Children.{apart_within, leaves_unless}
use Rattle.repl_wal.proofs.follow.left_at.Goals as goal

pub differing-requires-clause-within : goal.differing-requires-clause-within
differing-requires-clause-within c =
    let apart = c.in-Apart.ensures in
    apart_within c.args.path.now c.args.child.now c.in-Apart.at c.in-Some.ensures.0 apart.0 apart.2

pub returns-in_default-relation_to : goal.returns-in_default-relation_to
returns-in_default-relation_to c =
    let one = c.in-Some.ensures in
    let not = c.in_default-relation_to.not-Apart in
    record {
      leaves = (leaves_unless c.args.path.now c.args.child.now c.relation_to.result one.0 c.relation_to.ensures not, one.1);
      refused = tt;
    }
