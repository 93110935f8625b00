-- how a command ends where it was refused, or its lines were written
pub mod Ending
-- right slots and wrong ones
pub mod Slotting
-- files that stand for a store
pub mod Standing
-- what is flushed past the whole end
pub mod Past
-- the file in which that is wrong
pub mod Named
-- a node is made
pub mod Made
-- a node is told
pub mod Stating
-- none is
pub mod Refused
-- the whole store is judged
pub mod Judged
