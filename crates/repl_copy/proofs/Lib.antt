pub mod Appending
pub mod Causes
pub mod Numbers
pub mod OneValue
