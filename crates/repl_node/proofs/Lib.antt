-- how a call on a log ended
pub mod Sorting
-- a call of the log is a call of the node
pub mod Passing
-- what slots hold back stays
pub mod Kept
-- calls on the slots
pub mod Listing
-- saving them
pub mod Saving
-- a mount only reads
pub mod Opening
-- what calls on a log keep of it
pub mod Taming
-- removing slots
pub mod Clearing
-- a new node
pub mod Begun
-- what a copy leaves of its source
pub mod Copied
-- and of its disk
pub mod Copying
