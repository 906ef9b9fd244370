pub mod Sigma
pub mod Affinity
