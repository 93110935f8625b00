pub mod Source
pub mod Sink
pub mod Steady
pub mod Step
pub mod Script
pub mod Streams
