pub mod Theorems
pub mod Calls
pub mod Numbers
