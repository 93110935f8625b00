pub mod Slot
pub mod SlotFile
pub mod Stored
