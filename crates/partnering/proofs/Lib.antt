pub mod Loaded
pub mod Honest
pub mod Written
pub mod Positive
pub mod Own
pub mod Prepared
pub mod Words
pub mod Called
