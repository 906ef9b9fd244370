pub mod Laws
pub mod Lends
