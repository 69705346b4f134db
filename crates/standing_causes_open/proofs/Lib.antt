pub mod Again
pub mod Coming
