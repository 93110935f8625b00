pub mod Lengths
pub mod Replication
pub mod Stages
pub mod Sessions
pub mod Messages
pub mod Ends
