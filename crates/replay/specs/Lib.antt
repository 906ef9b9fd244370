pub mod Replay
pub mod Areas
pub mod Line
pub mod Cases
