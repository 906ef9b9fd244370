pub mod Tests
pub mod Watches
pub mod Laws
pub mod Theorems
