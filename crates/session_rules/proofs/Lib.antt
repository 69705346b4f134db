pub mod ClosingLemmas
pub mod ScheduleLemmas
pub mod Targets
pub mod TimeoutLemmas
pub mod VerdictLemmas
