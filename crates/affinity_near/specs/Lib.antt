pub mod Near
pub mod Cases
