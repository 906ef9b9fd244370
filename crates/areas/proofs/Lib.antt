pub mod Front
pub mod Fetched
