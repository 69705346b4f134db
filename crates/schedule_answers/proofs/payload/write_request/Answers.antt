use Rattle.std.proofs.Common.{ℕ, rules, arith, subst}
use Rattle.iso_message.specs.Documents.{PassesBytes}
use Rattle.schedule_answers.proofs.Payloads.{is_ok, front_bytes}
use Rattle.schedule_answers.proofs.payload.write_request.Goals as goal

-- it holds what is declared
pub write_iso-requires-clause-message : goal.write_iso-requires-clause-message
write_iso-requires-clause-message c = c.messages_are_written.ensures.within c.request_of.result c.request_of.ensures.within

-- the room holds it
pub unwrap-requires : goal.unwrap-requires
unwrap-requires c =
    is_ok c.write_iso.result
    (λ full. c.request_of.ensures.small (subst (λ (n : ℕ). PassesBytes c.request_of.result n) c.requires.room (c.write_iso.ensures.full.0 full)))

pub returns-clause-written : goal.returns-clause-written
returns-clause-written c = record {
  message = c.request_of.result;
  request = c.request_of.ensures.message;
  bytes = front_bytes c.unwrap.result c.write_iso.new.room (λ i. omega (arith, c.type_inv.room i));
  encoded = search rules;
}
