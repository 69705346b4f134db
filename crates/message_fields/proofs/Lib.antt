pub use Rattle.message_parts.proofs.Chosen
