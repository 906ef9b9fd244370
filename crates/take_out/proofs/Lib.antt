pub mod Rooms
pub mod Tested
pub mod Calls
