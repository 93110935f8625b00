pub mod Name
pub mod Token
pub mod Command
pub mod Refusal
pub mod Walk
pub mod Printing
pub mod Wanted
