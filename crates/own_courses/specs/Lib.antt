pub use Rattle.own_traces.specs.Weighing
pub use Rattle.own_traces.specs.Owning
pub mod Writing
pub mod Faultless
