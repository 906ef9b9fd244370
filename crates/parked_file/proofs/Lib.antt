pub mod Lies
pub mod Heads
pub mod Stands
