pub mod Records
pub mod WriteTold
pub mod ReadTold
pub mod Written
pub mod Returned
pub mod Host
