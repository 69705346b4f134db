pub mod Outside
pub mod Fakes
pub mod Logs
pub mod NamedFiles
pub mod Scripting
pub mod Scripts
