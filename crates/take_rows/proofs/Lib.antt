pub mod Packing
pub mod Brought
pub mod Survive
