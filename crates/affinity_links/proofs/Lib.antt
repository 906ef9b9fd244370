pub mod Linked
pub mod Search
