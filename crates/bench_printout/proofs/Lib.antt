mod Lines
pub mod Shown
