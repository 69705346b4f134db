pub mod CatalogueKeys
pub mod Catalogues
pub mod FileLines
pub mod ScheduleFiles
pub mod ScheduleKeys
