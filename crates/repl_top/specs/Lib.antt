pub mod Words
pub mod Witness
pub mod Tool
