-- The numbers of causes.
use Rattle.std.proofs.Common.{◌<◌, arith}
use Rattle.session_words.specs.declared.cause.EndCause.{EndCause}
use Rattle.session_words.specs.declared.cause.EndCause.TheVariants.{Stopped, Refused, BadFrame, WrongSide, NoNegotiation, FailedReply, SetupTimeout, SequenceTimeout, FeedbackTimeout, PilotLost, Emergency, IsolationLost, FeedbackWrong, OverPower, Gone, SendFailed, OrderFailed, RunOver, Impatient, CodeFailed, MessageTimeout, CableCheckTimeout, PreChargeTimeout, OngoingTimeout, WrongReply, NoOffer, Paused}
use Rattle.session_words.specs.Causes.{number_of}

pub number_small : (cause : EndCause) → number_of cause < 32
number_small Stopped = omega arith
number_small Refused = omega arith
number_small BadFrame = omega arith
number_small WrongSide = omega arith
number_small NoNegotiation = omega arith
number_small FailedReply = omega arith
number_small SetupTimeout = omega arith
number_small SequenceTimeout = omega arith
number_small FeedbackTimeout = omega arith
number_small PilotLost = omega arith
number_small Emergency = omega arith
number_small IsolationLost = omega arith
number_small FeedbackWrong = omega arith
number_small OverPower = omega arith
number_small Gone = omega arith
number_small SendFailed = omega arith
number_small OrderFailed = omega arith
number_small RunOver = omega arith
number_small Impatient = omega arith
number_small CodeFailed = omega arith
number_small MessageTimeout = omega arith
number_small CableCheckTimeout = omega arith
number_small PreChargeTimeout = omega arith
number_small OngoingTimeout = omega arith
number_small WrongReply = omega arith
number_small NoOffer = omega arith
number_small Paused = omega arith
