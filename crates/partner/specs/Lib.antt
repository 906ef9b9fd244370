pub mod Partner
pub mod Rules
