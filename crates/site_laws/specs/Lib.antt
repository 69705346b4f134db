pub use Rattle.site_core.specs.Ending
pub use Rattle.site_core.specs.Ended
pub mod Limits
pub mod Reading
pub mod Posts
pub mod Whole
pub mod Lawful
