pub mod Values
pub mod Iso
pub mod Din
pub mod Replies
pub mod Watts
