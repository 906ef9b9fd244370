pub mod Whole
mod Made
