pub mod Units
pub mod Calls
pub mod Theorems
pub mod Runs
