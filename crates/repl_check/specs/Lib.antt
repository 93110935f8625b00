pub mod Fits
pub mod Flaws
pub mod Machine
pub mod Found
