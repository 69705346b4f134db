pub mod Leaves
pub mod Entered
pub mod Matched
pub mod Told
