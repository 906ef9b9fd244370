pub mod HostPrepare
