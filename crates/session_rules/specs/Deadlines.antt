-- ISO 15118-2:2014, 8.7 (the timers of the post): which deadline runs in a row. How long each is, and how it is reached, stands with
-- the deadlines themselves.
use Rattle.session_words.specs.declared.cause.Timeout.{Timeout}
use Rattle.session_words.specs.declared.cause.Timeout.TheVariants.{Setup, Sequence, Feedback}
use Rattle.session_words.specs.declared.phase.Phase.{Phase}
use Rattle.session_words.specs.declared.phase.Phase.TheVariants as row

-- until SessionSetup is accepted that of the connection, while a reply waits that of the feedback, else that of the last reply
abbrev pub timeout_of : Phase → Timeout
timeout_of row.Connected = Setup
timeout_of row.Negotiated = Setup
timeout_of row.DcClosing = Feedback
timeout_of row.AcClosing = Feedback
timeout_of other = Sequence
