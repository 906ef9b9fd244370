pub mod Patterns
pub mod Rounds
pub mod Laws
pub mod Near
pub mod Theorems
