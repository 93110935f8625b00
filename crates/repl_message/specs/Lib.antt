pub mod Lists
pub mod Message
pub mod Decoding
pub mod Encoding
