pub mod WrongPasts
pub mod OldClose
pub mod LiveResponse
