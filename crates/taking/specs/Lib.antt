pub mod Room
pub mod Stretches
pub mod Union
