pub mod Spelling
pub mod Injective
pub mod WholeLines
pub mod Traces
