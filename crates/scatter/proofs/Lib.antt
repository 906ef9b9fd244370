-- The laws that the proofs cite, and that the contract allows one outcome.
pub mod Tight
