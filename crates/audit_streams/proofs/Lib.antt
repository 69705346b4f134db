pub mod Fronts
pub mod Left
pub mod Taken
pub mod Past
pub mod Told
