pub mod MonitorWrite
