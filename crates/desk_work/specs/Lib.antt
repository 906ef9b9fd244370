pub mod HostWork
