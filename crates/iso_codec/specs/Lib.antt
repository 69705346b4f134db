pub use Rattle.iso_message.specs.declared.message.IsoMessage
pub use Rattle.iso_message.specs.Documents
