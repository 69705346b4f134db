pub mod Agendas
pub mod Arrivals
pub mod Counting
pub mod Courses
pub mod Facts
