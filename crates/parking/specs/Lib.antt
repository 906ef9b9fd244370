pub mod Held
pub mod Again
