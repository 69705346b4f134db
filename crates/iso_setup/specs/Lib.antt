pub mod Session
pub mod Services
pub mod Selection
pub use Rattle.iso_parts.specs.Frame
