pub mod HostStrip
