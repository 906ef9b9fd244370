-- The definitions that the contracts cite, and their cases.
pub mod Scatter
pub mod Cases
