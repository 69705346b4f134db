use Rattle.app_protocol.proofs.Decided.{apart, one_refusal}
use Rattle.app_protocol.proofs.laws.messages_and_refusals.Goals as goal

pub returns : goal.returns
returns c = record { apart = apart; one_refusal = one_refusal }
