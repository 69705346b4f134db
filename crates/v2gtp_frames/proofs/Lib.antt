pub mod Again
pub mod Ends
pub mod Fronts
pub mod Growing
pub mod Pieces
pub mod Same
pub mod Taking
