pub mod CloseLaws
pub mod PauseLaws
pub mod Steps
