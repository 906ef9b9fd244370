pub mod Faults
pub mod Blind
pub mod Room
