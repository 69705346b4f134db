pub mod TraceText
pub mod Reading
pub mod Pasts
pub mod Noted
