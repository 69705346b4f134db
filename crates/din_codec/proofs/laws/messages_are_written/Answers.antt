use Rattle.din_codec.proofs.Again.{of_parts, of_payload}
use Rattle.din_codec.proofs.laws.messages_are_written.Goals as goal

pub returns-clause-read : goal.returns-clause-read
returns-clause-read c m payload document = of_payload m payload document

pub returns-clause-within : goal.returns-clause-within
returns-clause-within c m is = of_parts m is
