mod Lists
mod Levels
mod Posts
mod Entries
mod Passing
mod Failing
mod Seating
mod Deciding
