pub mod Frames
pub mod Printing
pub mod Names
pub mod Histories
pub mod Apart
