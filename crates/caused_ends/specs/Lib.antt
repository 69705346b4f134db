pub mod Applying
pub mod Ending
pub mod Opening
pub mod WrongEnds
