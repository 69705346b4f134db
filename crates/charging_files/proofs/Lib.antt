mod Lists
pub mod Rising
pub mod Told
