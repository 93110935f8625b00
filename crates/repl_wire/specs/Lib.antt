pub mod Judging
pub mod Head
pub mod Places
pub mod Reader
