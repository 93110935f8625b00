pub mod Lines
pub mod Files
pub mod Tending
pub mod Damages
pub mod Printing
pub mod Checking
