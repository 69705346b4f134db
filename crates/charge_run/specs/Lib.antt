pub use Rattle.message_trees.specs.Texts
pub use Rattle.replay_command.specs.Served
pub mod Runs
pub mod Talks
pub mod Stations
pub mod Cars
pub mod Completing
