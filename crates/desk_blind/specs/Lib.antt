pub mod HostBlind
