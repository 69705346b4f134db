pub mod Ok
