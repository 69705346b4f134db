pub use Rattle.iso_table_laws.proofs.Words as IsoReadBack
pub use Rattle.din_table_laws.proofs.Words as DinReadBack
pub mod Spoken
pub mod Given
pub mod Read
pub use Rattle.iso_table_laws.proofs.Payloads as IsoPayloads
pub use Rattle.din_table_laws.proofs.Payloads as DinPayloads
