pub mod Foremost
pub mod Sifted
