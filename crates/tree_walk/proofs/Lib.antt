pub mod Shift
pub mod Turned
pub mod Fuel
pub mod Longer
pub mod Walked
pub mod Pending
pub mod Going
