pub mod Values
pub mod Shown
