pub mod HostSalvage
