pub mod Bytes
pub mod Spelling
pub mod First
pub mod Fresh
pub mod Spelled
pub mod Judged
