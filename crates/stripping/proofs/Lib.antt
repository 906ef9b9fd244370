pub mod Gap
pub mod Rule
pub mod Theorems
