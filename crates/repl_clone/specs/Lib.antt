pub mod Copied
pub mod Causes
pub mod Copying
