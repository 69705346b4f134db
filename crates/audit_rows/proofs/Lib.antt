pub mod Behind
mod Told
