pub mod CalmLeft
