pub mod Consistency
pub mod Decided
pub mod Encodings
pub mod Printed
pub mod Roots
pub mod Scanned
pub mod Winners
pub mod Named
