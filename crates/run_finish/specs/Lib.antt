pub mod Finish
pub mod FinishRoom
