pub mod Lending
