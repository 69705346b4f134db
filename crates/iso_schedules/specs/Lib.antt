pub mod Schedules
pub use Rattle.iso_parts.specs.Values
pub use Rattle.iso_parts.specs.Codes
