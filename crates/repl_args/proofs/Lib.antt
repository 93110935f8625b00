pub mod Stops
pub mod Names
pub mod Lines
pub mod OptionWords
pub mod WordLists
pub mod LinesRead
pub mod Examples
