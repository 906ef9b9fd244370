pub mod Honest
pub mod Night
