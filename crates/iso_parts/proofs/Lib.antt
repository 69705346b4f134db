pub use Rattle.message_fields.proofs.Chosen
