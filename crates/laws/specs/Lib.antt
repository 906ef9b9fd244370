pub mod Loops
pub mod Area
pub mod Sums
pub mod Joined
pub mod Domain
