pub mod Answering
pub mod Quiet
pub mod Words
