pub mod Unpark
pub mod Steps
