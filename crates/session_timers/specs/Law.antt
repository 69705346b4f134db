-- ISO 15118-2:2014, 8.7: which deadline of a post runs after any calls, said of the calls alone. Large moments are own.
use Rattle.std.specs.Prelude.{◌≡◌, ◌↔◌, ℕ, ◌+◌, ◌<◌, ◌≤◌, Bool, true, false, min, List, Some, find, [], ◌∷◌}
use Rattle.session_words.specs.declared.cause.Timeout.{Timeout}
use Rattle.session_words.specs.declared.cause.Timeout.TheVariants.{Setup, Sequence, Feedback}
use Rattle.session_timers.specs.Due.{Call, came, set_up, replied, closing, stop, was_set_up, never, moments_of, hit_of, next_of}

-- a call that begins or ends a session
abbrev pub is_border : Call → Bool
is_border (came now) = true
is_border set_up = false
is_border (replied now) = false
is_border (closing now) = false
is_border stop = true

-- a call that tells whether SessionSetup is awaited
abbrev pub is_of_setup : Call → Bool
is_of_setup (came now) = true
is_of_setup set_up = true
is_of_setup (replied now) = false
is_of_setup (closing now) = false
is_of_setup stop = true

-- a call that tells whether a reply waits
abbrev pub is_of_reply : Call → Bool
is_of_reply (came now) = true
is_of_reply set_up = false
is_of_reply (replied now) = true
is_of_reply (closing now) = true
is_of_reply stop = true

-- a session stands: the newest call that begins or ends one begins it
abbrev pub HasSession : List Call → Type 0
HasSession calls = (now : ℕ) × (find is_border calls ≡ Some (came now))

-- the deadline counts from that moment: from Came until SessionSetup is accepted, from the last reply while none waits, from
-- Close while its reply waits. The newest call comes first in the list
abbrev pub CountsFrom : List Call → Timeout → ℕ → Type 0
CountsFrom calls Setup from = find is_of_setup calls ≡ Some (came from)
CountsFrom calls Sequence from = HasSession calls × (find is_of_reply calls ≡ Some (replied from))
CountsFrom calls Feedback from = HasSession calls × (find is_of_reply calls ≡ Some (closing from))

-- no deadline that is named before this one counts
abbrev pub IsFirst : List Call → Timeout → Type 0
IsFirst calls Setup = Unit {0}
IsFirst calls Sequence = (from : ℕ) → CountsFrom calls Setup from → ⊥
IsFirst calls Feedback = (from : ℕ) → CountsFrom calls Setup from → ⊥

abbrev pub span_of : Timeout → ℕ
span_of Setup = 18000
span_of Sequence = 60000
span_of Feedback = 3000

-- the deadline that runs, and the moment at which it is due
pub record IsDue (calls : List Call) (timeout : Timeout) (moment : ℕ) : Type 0 where
  pub from : ℕ
  pub counts : CountsFrom calls timeout from
  pub first : IsFirst calls timeout
  pub sum : moment ≡ from + span_of timeout

-- the deadline was reached: its moment isn't past now. One at or above the greatest moment never is
pub record IsHit (calls : List Call) (now : ℕ) (timeout : Timeout) : Type 0 where
  pub moment : ℕ
  pub due : IsDue calls timeout moment
  pub reached : moment ≤ now
  pub can_come : moment < never

-- what is answered after any calls
abbrev pub AnswersHit : Type 0
AnswersHit = (calls : List Call) (now : ℕ) (timeout : Timeout) → (hit_of (moments_of calls) now ≡ Some timeout) ↔ IsHit calls now timeout

abbrev pub AnswersNext : Type 0
AnswersNext = (calls : List Call) (timeout : Timeout) (moment : ℕ) → IsDue calls timeout moment → next_of (moments_of calls) ≡ min moment never

-- where no deadline runs there is nothing to wait for
abbrev pub AnswersNever : Type 0
AnswersNever = (calls : List Call) → ((timeout : Timeout) (moment : ℕ) → IsDue calls timeout moment → ⊥) → next_of (moments_of calls) ≡ never

-- calls as a session makes them, up to a moment: their moments never fall, and Close is ordered only once SessionSetup was
-- accepted
abbrev pub IsInOrder : ℕ → List Call → Type 0
IsInOrder now [] = Unit {0}
IsInOrder now (came at ∷ before) = (at ≤ now) × IsInOrder at before
IsInOrder now (set_up ∷ before) = IsInOrder now before
IsInOrder now (replied at ∷ before) = (at ≤ now) × IsInOrder at before
IsInOrder now (closing at ∷ before) = (at ≤ now) × (was_set_up before ≡ true) × IsInOrder at before
IsInOrder now (stop ∷ before) = IsInOrder now before

-- a deadline that counts was reached, whichever others count
pub record IsReached (calls : List Call) (now : ℕ) (timeout : Timeout) : Type 0 where
  pub from : ℕ
  pub counts : CountsFrom calls timeout from
  pub reached : from + span_of timeout ≤ now
  pub can_come : from + span_of timeout < never

-- none that is named earlier was reached
abbrev pub IsNoneBefore : List Call → ℕ → Timeout → Type 0
IsNoneBefore calls now Setup = Unit {0}
IsNoneBefore calls now Sequence = IsReached calls now Setup → ⊥
IsNoneBefore calls now Feedback = (IsReached calls now Setup → ⊥) × (IsReached calls now Sequence → ⊥)

-- of several deadlines that are reached, the one that is named first is told
abbrev pub TellsFirst : Type 0
TellsFirst = (calls : List Call) (now : ℕ) (timeout : Timeout) → IsInOrder now calls → (hit_of (moments_of calls) now ≡ Some timeout) ↔ (IsReached calls now timeout × IsNoneBefore calls now timeout)

-- the moment to wait for is not past that of any deadline that counts
abbrev pub WaitsForLeast : Type 0
WaitsForLeast = (calls : List Call) (now : ℕ) (timeout : Timeout) (from : ℕ) → IsInOrder now calls → CountsFrom calls timeout from → next_of (moments_of calls) ≤ from + span_of timeout
