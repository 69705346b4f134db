pub mod Due
pub mod Law
