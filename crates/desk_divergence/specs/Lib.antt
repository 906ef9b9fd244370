pub mod HostDivergence
