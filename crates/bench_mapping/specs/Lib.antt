pub mod Mapping
pub mod Cases
