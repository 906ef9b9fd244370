pub mod Turned
pub mod Rooms
pub mod One
pub mod Lends
