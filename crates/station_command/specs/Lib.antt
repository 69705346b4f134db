pub use Rattle.site_laws.specs.Ending
pub use Rattle.site_laws.specs.Ended
pub mod Ports
pub mod Lines
pub mod Served
pub mod Refused
