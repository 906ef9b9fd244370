pub mod Forces
pub mod Exact
pub mod Element
pub mod Cases
