pub mod Fronting
pub mod OneList
pub mod Bounds
pub mod AllLists
pub mod Counting
pub mod Theorems
