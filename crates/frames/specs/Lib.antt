pub mod Frames
pub mod BaseReader
