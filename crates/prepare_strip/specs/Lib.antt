pub mod PrepareStrip
