use Rattle.std.proofs.Common.{ℕ, arith, refl, sym, subst}
use Rattle.std.specs.Result.{IsErr}
use Rattle.iso_message.specs.Documents.{PassesBytes}
use Rattle.service_messages.proofs.Bytes.{front_bytes}
use Rattle.service_messages.proofs.payloads.write_detail.Goals as goal

-- it holds what is declared
pub write_iso-requires-clause-message : goal.write_iso-requires-clause-message
write_iso-requires-clause-message c = c.messages_are_written.ensures.within c.message_of-message.result c.message_of-message.ensures.within

pub returns-in-Ok : goal.returns-in-Ok
returns-in-Ok c = record {
  message = c.message_of-message.result;
  detail = c.message_of-message.ensures.message;
  bytes = front_bytes c.in-Ok.count c.write_iso.new.room (λ i. omega (arith, c.type_inv.room i));
  encoded = c.in-Ok.ensures.written;
}

pub returns-in-Err : goal.returns-in-Err
returns-in-Err c = record {
  message = c.message_of-message.result;
  detail = c.message_of-message.ensures.message;
  passes = subst (λ (n : ℕ). PassesBytes c.message_of-message.result n) c.requires.room (c.write_iso.ensures.full.0 (subst (λ r. IsErr r) (sym c.in-Err.is) refl));
}
