pub mod Links
pub mod Exact
