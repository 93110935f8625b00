pub mod Causing
pub mod Sourcing
pub mod Changing
pub mod Filling
pub mod Copies
