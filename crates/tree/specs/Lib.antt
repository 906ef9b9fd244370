pub mod Insert
pub mod Ways
pub mod Box
pub mod Contents
