pub mod Plain
pub mod Rowing
