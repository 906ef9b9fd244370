pub mod Fine
pub mod Mirrors
pub mod Judged
pub mod Accepted
