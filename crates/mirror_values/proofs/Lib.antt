pub mod Rounded
pub mod Alikes
pub mod Opposites
pub mod Shows
pub mod Areas
pub mod Starts
pub mod Sums
