pub mod Descent
pub mod Honest
pub mod Longer
