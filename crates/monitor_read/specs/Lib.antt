pub mod MonitorRead
