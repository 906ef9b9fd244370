pub mod HostUnpark
