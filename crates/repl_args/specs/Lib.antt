pub mod Words
pub mod Forms
pub mod Options
pub mod Lines
pub mod Rests
pub mod Example
