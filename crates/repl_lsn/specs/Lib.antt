pub mod Position
pub mod Segment
pub mod FileName
pub mod Line
pub mod History
pub mod Between
pub mod Path
pub mod Equality
