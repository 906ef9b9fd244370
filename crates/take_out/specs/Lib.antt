pub mod TakeOut
