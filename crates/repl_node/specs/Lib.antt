pub mod State
pub mod Keeping
pub mod Holding
pub mod Steps
pub mod Making
pub mod Cloning
