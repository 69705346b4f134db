pub use Rattle.exi_strings.specs.Table
pub use Rattle.exi_strings.specs.Texts
pub mod Trees
pub mod Values
pub mod Documents
pub mod Grammar
pub mod Refusals
