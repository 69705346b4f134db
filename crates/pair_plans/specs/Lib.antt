pub mod Drawn
pub mod Generated
pub mod Lines
pub use Rattle.pipe_spec.specs.Counts
pub use Rattle.pipe_spec.specs.Numbers
