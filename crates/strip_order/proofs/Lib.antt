pub mod Signed
pub mod Before
pub mod Places
