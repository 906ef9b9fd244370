pub mod HostPark
