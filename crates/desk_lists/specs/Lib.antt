pub mod HostLists
