pub mod Courses
pub mod Facts
