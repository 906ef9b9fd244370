pub mod Fetched
pub mod Settled
pub mod Spans
pub mod Outcomes
