pub mod Shares
pub mod Symmetric
pub mod Named
pub mod Listed
pub mod Kept
pub mod Finite
