pub mod Calls
pub mod Grown
pub mod Lawful
pub mod Framed
pub mod Theorems
pub mod Longer
pub mod Lent
