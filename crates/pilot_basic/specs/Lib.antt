pub mod Contactor
pub mod Duty
pub mod Machine
