pub mod Lawful
pub use Rattle.car_turns.specs.declared.ending.Ended
pub use Rattle.car_turns.specs.Ending
pub use Rattle.car_turns.specs.Made
