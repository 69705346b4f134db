use Rattle.v2gtp_frames.proofs.Ends.{fault_is, is_fault, none_rest, none_right, rest_waits}
use Rattle.v2gtp_frames.proofs.Same.{next_word, last_rest}
use Rattle.v2gtp_frames.proofs.words_of_a_stream.Goals as goal

pub returns-clause-word : goal.returns-clause-word
returns-clause-word c = next_word

pub returns-clause-rest : goal.returns-clause-rest
returns-clause-rest c = last_rest

pub returns-clause-fault : goal.returns-clause-fault
returns-clause-fault c rest fault = (fault_is rest fault, is_fault rest fault)

pub returns-clause-waits : goal.returns-clause-waits
returns-clause-waits c rest bytes = (λ h. (none_rest rest h, none_right rest h), rest_waits rest bytes)
