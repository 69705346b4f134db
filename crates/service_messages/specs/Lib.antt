pub use Rattle.schedule_answers.specs.Answers
pub use Rattle.schedule_answers.specs.declared.answer.Answer
pub use Rattle.schedule_answers.specs.declared.choosing.ScheduleFault
pub mod Held
pub mod Messages
pub mod Offers
pub mod Payloads
