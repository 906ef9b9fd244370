pub mod Units
pub mod Room
