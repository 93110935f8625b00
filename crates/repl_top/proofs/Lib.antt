pub mod Digits
pub mod Folders
pub mod Lines
pub mod Tails
