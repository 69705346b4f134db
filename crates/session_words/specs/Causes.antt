-- Own: the numbers of the causes by which a session ends.
use Rattle.std.specs.Prelude.{ℕ}
use Rattle.session_words.specs.declared.cause.EndCause.{EndCause}
use Rattle.session_words.specs.declared.cause.EndCause.TheVariants.{Stopped, Refused, BadFrame, WrongSide, NoNegotiation, FailedReply, SetupTimeout, SequenceTimeout, FeedbackTimeout, PilotLost, Emergency, IsolationLost, FeedbackWrong, OverPower, Gone, SendFailed, OrderFailed, RunOver, Impatient, CodeFailed, MessageTimeout, CableCheckTimeout, PreChargeTimeout, OngoingTimeout, WrongReply, NoOffer, Paused}
use Rattle.session_words.specs.declared.cause.Timeout.{Timeout}
use Rattle.session_words.specs.declared.cause.Timeout.TheVariants.{Setup, Sequence, Feedback}

abbrev pub number_of : EndCause → ℕ
number_of Stopped = 1
number_of Refused = 2
number_of BadFrame = 3
number_of WrongSide = 4
number_of NoNegotiation = 5
number_of FailedReply = 6
number_of SetupTimeout = 7
number_of SequenceTimeout = 8
number_of FeedbackTimeout = 9
number_of PilotLost = 10
number_of Emergency = 11
number_of IsolationLost = 12
number_of FeedbackWrong = 13
number_of OverPower = 14
number_of Gone = 15
number_of SendFailed = 16
number_of OrderFailed = 17
number_of RunOver = 18
number_of Impatient = 19
number_of CodeFailed = 22
number_of MessageTimeout = 23
number_of CableCheckTimeout = 24
number_of PreChargeTimeout = 25
number_of OngoingTimeout = 26
number_of WrongReply = 27
number_of NoOffer = 28
number_of Paused = 29

-- the cause that a deadline is
abbrev pub cause_of : Timeout → EndCause
cause_of Setup = SetupTimeout
cause_of Sequence = SequenceTimeout
cause_of Feedback = FeedbackTimeout
