pub mod Rows
pub mod Gradients
pub mod Steps
pub mod Finish
