pub mod Codes
pub mod Enumerations
pub mod Values
pub mod Frame
pub use Rattle.message_fields.specs.Contents
pub use Rattle.message_fields.specs.Particles
pub use Rattle.message_fields.specs.Texts
