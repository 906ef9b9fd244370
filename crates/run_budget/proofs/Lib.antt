pub mod Counters
pub mod Turns
pub mod Keeps
pub mod Spends
pub mod Lends
