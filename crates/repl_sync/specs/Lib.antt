pub mod State
pub mod Sync
pub mod Inside
