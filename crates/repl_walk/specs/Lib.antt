pub mod Anywhere
pub mod Faults
pub mod Rest
pub mod Timelines
pub mod Walks
