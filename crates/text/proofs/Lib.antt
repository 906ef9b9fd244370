pub mod Puts
mod Fewest
