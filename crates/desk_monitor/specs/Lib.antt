pub mod HostWrite
pub mod HostRead
