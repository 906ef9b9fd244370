pub mod Repel
pub mod Turn
