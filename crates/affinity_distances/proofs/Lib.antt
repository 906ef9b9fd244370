pub mod Finite
pub mod Fours
