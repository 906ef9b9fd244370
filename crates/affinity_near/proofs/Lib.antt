pub mod Moving
pub mod Entering
pub mod Gathering
pub mod Rows
pub mod Order
pub mod Apart
