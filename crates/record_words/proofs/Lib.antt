pub mod Laws
pub mod Roundtrip
