pub mod Fronts
pub mod Marks
