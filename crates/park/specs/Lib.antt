pub mod Park
