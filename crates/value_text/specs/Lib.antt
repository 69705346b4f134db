pub mod Faults
pub mod ValueText
pub mod Fronts
pub mod Scanning
pub mod Forms
