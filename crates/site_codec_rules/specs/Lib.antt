pub mod Negotiating
pub mod Iso
pub mod Din
pub mod Codecs
pub mod Given
pub use Rattle.iso_table_laws.specs.Laws as IsoPayloads
pub use Rattle.din_table_laws.specs.Laws as DinPayloads
