pub mod Brief
pub use Rattle.iso_parameters.specs.Discovery
pub use Rattle.iso_setup.specs.Services
pub use Rattle.iso_details.specs.Details
pub use Rattle.iso_setup.specs.Frame
