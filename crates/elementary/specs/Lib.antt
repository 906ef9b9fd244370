pub mod Exp
pub mod Ln
pub mod Limits
pub mod Cases
