pub mod Frame
pub mod Next
