pub mod Exact
pub mod Neighbours
pub mod Steps
