-- ISO 15118-2:2014, 8.7, the timers of the post (V2G_SECC_CommunicationSetup_Timeout, V2G_SECC_Sequence_Timeout); that of
-- the contactor's feedback, and all that is said of large moments, is own.
use Rattle.std.specs.Prelude.{ℕ, ◌+◌, Bool, true, false, cond, ◌&&◌, nat_le, nat_lt, min, List, [], ◌∷◌, Option, Some, None}
use Rattle.session_words.specs.declared.cause.Timeout.{Timeout}
use Rattle.session_words.specs.declared.cause.Timeout.TheVariants.{Setup, Sequence, Feedback}
use Rattle.session_timers.specs.declared.deadlines.Last.{Last}
use Rattle.session_timers.specs.declared.deadlines.Last.TheVariants.{Nothing, Replied, Closing}
use Rattle.session_timers.specs.declared.deadlines.Deadline.{Deadline}

-- the calls that a post makes on its deadlines, most with their moments in milliseconds
pub data Call : Type 0 where
  came : ℕ → Call
  set_up : Call
  replied : ℕ → Call
  closing : ℕ → Call
  stop : Call

-- when the connection of the session came, where a session stands. The newest call comes first
abbrev pub came_at : List Call → Option ℕ
came_at [] = None
came_at (came now ∷ before) = Some now
came_at (set_up ∷ before) = came_at before
came_at (replied now ∷ before) = came_at before
came_at (closing now ∷ before) = came_at before
came_at (stop ∷ before) = None

-- whether SessionSetup was accepted since
abbrev pub was_set_up : List Call → Bool
was_set_up [] = false
was_set_up (came now ∷ before) = false
was_set_up (set_up ∷ before) = true
was_set_up (replied now ∷ before) = was_set_up before
was_set_up (closing now ∷ before) = was_set_up before
was_set_up (stop ∷ before) = false

-- the last reply since, or the Close whose reply waits
abbrev pub last_of : List Call → Last
last_of [] = Nothing
last_of (came now ∷ before) = Nothing
last_of (set_up ∷ before) = last_of before
last_of (replied now ∷ before) = Replied now
last_of (closing now ∷ before) = Closing now
last_of (stop ∷ before) = Nothing

-- the moments from which the deadlines count
pub record Moments : Type 0 where
  pub came : Option ℕ
  pub set_up : Bool
  pub last : Last

abbrev pub moments_of : List Call → Moments
moments_of calls = record { came = came_at calls; set_up = was_set_up calls; last = last_of calls }

-- the deadline that counts from the last reply, or from the Close whose reply waits
abbrev pub due_after : Last → Option Deadline
due_after Nothing = None
due_after (Replied at) = Some (record { timeout = Sequence; moment = at + 60000 })
due_after (Closing at) = Some (record { timeout = Feedback; moment = at + 3000 })

-- the deadline that runs: none without a session, and until SessionSetup is accepted that for it
abbrev pub due_in : Option ℕ → Bool → Last → Option Deadline
due_in None accepted last = None
due_in (Some at) false last = Some (record { timeout = Setup; moment = at + 18000 })
due_in (Some at) true last = due_after last

abbrev pub due_of : Moments → Option Deadline
due_of m = due_in m.came m.set_up m.last

-- the moment that is never reached
abbrev pub never : ℕ
never = 18446744073709551615

abbrev pub capped : Option Deadline → Option Deadline
capped None = None
capped (Some due) = Some (record due { moment = min due.moment never })

-- the timeout where its moment is reached
abbrev pub reached : Option Deadline → ℕ → Option Timeout
reached None now = None
reached (Some due) now = cond (nat_le due.moment now && nat_lt due.moment never) (Some due.timeout) None

abbrev pub hit_of : Moments → ℕ → Option Timeout
hit_of m = reached (due_of m)

-- the moment to wait for
abbrev pub next_after : Option Deadline → ℕ
next_after None = never
next_after (Some due) = min due.moment never

abbrev pub next_of : Moments → ℕ
next_of m = next_after (due_of m)
