pub mod Picks
pub mod Alike
pub mod Rules
pub mod Output
pub mod Theorems
