pub mod Session
pub mod Services
pub mod Selection
pub use Rattle.din_parts.specs.Frame
