pub mod Entries
mod Streaming
mod Reading
mod Passing
mod Writing
