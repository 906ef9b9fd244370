pub mod Reader
pub mod Fields
