pub mod Decided
pub mod Itself
pub mod Lines
pub mod Replays
pub use Rattle.planned_traces.specs.Files
pub use Rattle.station_command.specs.Served
pub use Rattle.station_command.specs.Refused
