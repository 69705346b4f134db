pub mod Amounts
pub mod Items
