pub mod Fronts
pub mod Search
pub mod Next
pub mod Left
