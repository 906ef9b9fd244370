pub mod MonitorReasons
