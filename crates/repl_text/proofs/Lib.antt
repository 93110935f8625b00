pub mod Stops
pub mod Literals
