pub use Rattle.message_parts.specs.Values
pub use Rattle.message_parts.specs.Contents
pub use Rattle.message_parts.specs.Texts
pub use Rattle.message_parts.specs.Writing
pub use Rattle.message_parts.specs.Particles
