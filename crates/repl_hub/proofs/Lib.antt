-- calls of the node
pub mod Nodes
-- events that leave the node alone
pub mod Resting
-- the numbers of sessions
pub mod Numbers
-- replies to reads
pub mod Reading
-- waits
pub mod Waiting
-- sessions that begin and end
pub mod Connecting
-- tickets in a step of sessions and tickets: all of them, one that waits, and all where no wait is due
pub mod Fates
pub mod Ticketing
pub mod Settling
-- what calls make of a log's role and ends
pub mod Logs
-- what events come to for waits and the flushed end
pub mod Coming
pub mod Events
-- waits are certain, and so is what is released
pub mod Lasting
-- quiet events
pub mod Quieting
-- the flushed end
pub mod Falling
-- calls of a pass
pub mod Calling
-- which of them complete a commit
pub mod Completing
