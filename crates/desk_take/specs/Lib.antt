pub mod HostTake
