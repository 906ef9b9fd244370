pub mod Writes
pub mod Points
pub mod Trees
pub mod Forced
pub mod Finish
pub mod Beside
pub mod Untouched
pub mod Theorems
