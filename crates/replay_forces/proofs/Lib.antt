pub mod Below
pub mod Told
