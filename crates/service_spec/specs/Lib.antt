pub mod Pieces
pub mod Services
pub mod Sets
pub mod Texts
pub mod Wants
