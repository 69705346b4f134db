pub mod Dues
pub mod Quiet
pub mod Onward
