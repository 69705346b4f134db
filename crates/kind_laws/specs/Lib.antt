pub mod Kinds
pub mod Texts
pub mod Laws
pub mod Order
