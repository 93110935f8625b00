pub mod FrameLines
pub mod FrameProgress
pub mod FrameEnds
pub mod NamesEnds
