pub mod Named
pub mod Leaves
pub mod Attributes
pub use Rattle.message_parts.specs.Contents
pub use Rattle.message_parts.specs.Particles
