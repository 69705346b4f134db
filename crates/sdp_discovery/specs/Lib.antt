pub mod Discovery
