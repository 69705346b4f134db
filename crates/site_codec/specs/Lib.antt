pub use Rattle.secc_machine.specs.Resting
pub use Rattle.secc_machine.specs.Views
pub mod Judging
pub mod Replies
