pub mod Choosing
mod Blank
mod Digits
mod OneChoice
mod OneWant
mod Pairs
mod Pieces
mod Reading
