pub mod Narrow
pub mod Steps
pub mod Nearness
pub mod Cases
