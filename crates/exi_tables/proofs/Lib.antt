pub mod Offered
pub mod OptionalSequenced
pub mod Tables
pub mod Counted
pub mod Reading
pub mod Sequenced
