pub mod Prepare
pub mod Room
