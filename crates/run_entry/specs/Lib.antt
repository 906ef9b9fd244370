pub mod State
pub mod Entry
