-- What `put_start` needs and ensures.
use Rattle.std.proofs.Common.{codes}
use Rattle.repl_lsn.specs.Position.{position_text}
use Rattle.repl_cmd.specs.Printing.{slot_words, timeline_words}
use Rattle.repl_cmd.proofs.Appending.{and_more, and_last}
use Rattle.repl_cmd.proofs.print.put_start.Goals as goal

pub returns-clause-exact : goal.returns-clause-exact
returns-clause-exact c =
    let old = c.args.out.now.items in
    let slot = and_more old (codes "START_REPLICATION ") _
    (slot_words c.args.slot.now) _ c.in_ok-extend_from_slice.ensures.items c.in_ok-put_slot.ensures.exact in
    let physical = and_more old _ _ (codes "PHYSICAL ") _ slot c.in_ok-extend_from_slice-2.ensures.items in
    let position = and_more old _ _ (position_text c.args.at) _ physical c.in_ok-put_position.ensures in
    and_last c.put_timeline.result old _ _ (timeline_words c.args.timeline) _ position c.put_timeline.ensures.exact
