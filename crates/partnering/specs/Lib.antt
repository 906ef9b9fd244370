pub mod Begun
pub mod Own
