pub mod OneMessage
pub mod Words
pub mod Determined
pub mod Losing
pub mod PipePasts
