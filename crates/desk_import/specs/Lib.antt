pub mod HostImport
