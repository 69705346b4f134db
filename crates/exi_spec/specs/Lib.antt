pub mod Bits
pub mod Items
pub mod Plain
pub mod Laws
