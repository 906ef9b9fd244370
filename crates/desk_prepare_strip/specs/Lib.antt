pub mod HostPrepareStrip
