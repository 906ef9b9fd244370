pub mod Picked
pub mod Linked
pub mod Topping
pub mod Listing
pub mod Filled
pub mod Frames
pub mod Made
pub mod Theorems
