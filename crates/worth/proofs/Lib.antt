pub mod Reached
pub mod Words
pub mod Thinned
pub mod Imported
