pub mod Rounds
pub mod Alone
pub mod Watched
pub mod Finite
pub mod Blocks
pub mod Shares
pub mod Whole
