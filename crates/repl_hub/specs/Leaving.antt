-- What a crash leaves of a hub, while an event is made on it: of its sessions and tickets nothing, and of its node what a crash
-- of the node leaves.
use Rattle.repl_hub.specs.State.{HubView}
use Rattle.repl_hub.specs.declared.event.HubEvent.{HubEvent}
use Rattle.repl_hub.specs.declared.event.HubEvent.TheVariants as event
use Rattle.repl_node.specs.Keeping.{TrimLeavesNode}
use Rattle.repl_node.specs.State.{Left, LeftOf}
use Rattle.repl_node.specs.Steps.{SameLeft, SaveLeaves}
use Rattle.repl_wal.specs.Following.{FollowLeaves}
use Rattle.repl_wal.specs.Promoting.{PromoteLeaves}
use Rattle.repl_wal.specs.Writing.{DemoteLeaves, FlushLeaves}

abbrev pub HubLeaves : HubView → HubEvent → Left
HubLeaves h event.Flush = LeftOf h.node (FlushLeaves h.node.log)
HubLeaves h (event.Follow child) = LeftOf h.node (FollowLeaves h.node.log child)
HubLeaves h (event.Promote at_least) = LeftOf h.node (PromoteLeaves h.node.log at_least)
HubLeaves h event.Demote = LeftOf h.node (DemoteLeaves h.node.log)
HubLeaves h (event.Trim keep) = TrimLeavesNode h.node keep
HubLeaves h event.SlotSave = SaveLeaves h.node
HubLeaves h other = SameLeft h.node
