pub mod Table
pub mod Texts
pub use Rattle.exi_spec.specs.Bits
pub use Rattle.exi_spec.specs.Items
pub use Rattle.exi_spec.specs.declared.BitCause
