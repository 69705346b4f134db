use Rattle.app_protocol.proofs.Encodings.{response_bytes, response_fits}
use Rattle.app_protocol.proofs.laws.responses_fit_four_bytes.Goals as goal

pub returns-clause-bytes : goal.returns-clause-bytes
returns-clause-bytes c code schema payload encoded = response_bytes code schema payload encoded

pub returns-clause-room : goal.returns-clause-room
returns-clause-room c code schema passes = response_fits code schema passes
