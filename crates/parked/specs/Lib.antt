pub mod Layout
pub mod Parked
pub mod Fine
