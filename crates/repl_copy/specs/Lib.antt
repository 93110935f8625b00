pub mod Payload
pub mod Fields
