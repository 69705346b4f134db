pub use Rattle.read_agendas.specs.Left
pub use Rattle.served_sessions.specs.Serving
pub use Rattle.caused_ends.specs.Opening
pub use Rattle.caused_ends.specs.Ending
pub use Rattle.opens_have_reasons.specs.Reasons
pub mod Applied
