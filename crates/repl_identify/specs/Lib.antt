pub mod Session
pub mod Apart
pub mod Answer
pub mod Stages
pub mod Identify
