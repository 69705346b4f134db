-- Own: basic charging as a machine over a past. A past is a list of steps, the newest first.
use Rattle.std.specs.Prelude.{◌≡◌, ℕ, ◌+◌, ◌≤◌, nat_le, max, fold, if◌then◌else◌, MatchBool, Bool, true, false, List, [], ◌∷◌, ◌++◌}
use Rattle.charge_world.specs.declared.heard.PilotState.{PilotState}
use Rattle.charge_world.specs.declared.heard.PilotState.TheVariants as pilot
use Rattle.pilot_basic.specs.declared.words.BasicEvent.{BasicEvent}
use Rattle.pilot_basic.specs.declared.words.BasicEvent.TheVariants.{Offer, GoDigital, DigitalEnded, Pilot, Feedback, Tick}
use Rattle.pilot_basic.specs.declared.words.BasicOrder.{BasicOrder}
use Rattle.pilot_basic.specs.declared.words.BasicOrder.TheVariants.{Open, Close, Duty}
use Rattle.pilot_basic.specs.declared.words.Mode.{Mode}
use Rattle.pilot_basic.specs.declared.words.Mode.TheVariants.{Off, Basic, Digital, Pause}
use Rattle.session_words.specs.declared.phase.Standing.{Standing}
use Rattle.session_words.specs.declared.phase.Standing.TheVariants as contactor
use Rattle.contactor.specs.Standing.{standing_of, is_live}
use Rattle.contactor.specs.Calls.{Call, close, release, hears, acts_of, Kept, kept_after}
use Rattle.contactor.specs.Rights.{is_ready}
use Rattle.pilot_basic.specs.Duty.{IsDuty}

-- one event, the moment at which it was heard, and the orders that it led to
pub record Step : Type 0 where
  pub at : ℕ
  pub event : BasicEvent
  pub orders : List BasicOrder

-- an offer is from 6 to 80 A
abbrev pub IsInRange : BasicEvent → Type 0
IsInRange (Offer amps) = (60 ≤ amps) × (amps ≤ 800)
IsInRange GoDigital = Unit {0}
IsInRange DigitalEnded = Unit {0}
IsInRange (Pilot state) = Unit {0}
IsInRange (Feedback closed) = Unit {0}
IsInRange Tick = Unit {0}

-- the moment as it counts: the greatest heard so far
abbrev pub now_of : List Step → ℕ
now_of [] = 0
now_of (step ∷ past) = max (now_of past) step.at

-- the pilot after an event
abbrev pub pilot_after : BasicEvent → PilotState → PilotState
pilot_after (Pilot state) before = state
pilot_after (Offer amps) before = before
pilot_after GoDigital before = before
pilot_after DigitalEnded before = before
pilot_after (Feedback closed) before = before
pilot_after Tick before = before

-- the pilot heard last, A at first
abbrev pub pilot_of : List Step → PilotState
pilot_of [] = pilot.A
pilot_of (step ∷ past) = pilot_after step.event (pilot_of past)

-- a pause is over 3,000 ms after it began
abbrev pub mode_at : Mode → ℕ → Mode
mode_at (Pause since) now = if nat_le (since + 3000) now then Off else Pause since
mode_at Off now = Off
mode_at Basic now = Basic
mode_at Digital now = Digital

-- basic and digital charging may begin
abbrev pub is_free : Mode → Bool
is_free Off = true
is_free Basic = true
is_free Digital = false
is_free (Pause since) = false

abbrev pub is_digital : Mode → Bool
is_digital Digital = true
is_digital Off = false
is_digital Basic = false
is_digital (Pause since) = false

-- the mode that an event leads to
abbrev pub mode_after : Mode → BasicEvent → ℕ → Mode
mode_after mode (Offer amps) now = if is_free mode then Basic else mode
mode_after mode GoDigital now = if is_free mode then Digital else mode
mode_after mode DigitalEnded now = if is_digital mode then Pause now else mode
mode_after mode (Pilot state) now = mode
mode_after mode (Feedback closed) now = mode
mode_after mode Tick now = mode

abbrev pub mode_of : List Step → Mode
mode_of [] = Off
mode_of (step ∷ past) = let now = max (now_of past) step.at in mode_after (mode_at (mode_of past) now) step.event now

-- what an event tells the contactor
abbrev pub told_by : BasicEvent → List Call → List Call
told_by (Feedback closed) calls = hears closed ∷ calls
told_by (Offer amps) calls = calls
told_by GoDigital calls = calls
told_by DigitalEnded calls = calls
told_by (Pilot state) calls = calls
told_by Tick calls = calls

-- the call that an order makes on the contactor
abbrev pub ordered_by : List Call → BasicOrder → List Call
ordered_by calls Open = release ∷ calls
ordered_by calls Close = close ∷ calls
ordered_by calls (Duty d) = calls

-- the calls on the contactor in a past, the newest first; every order counts as taken
abbrev pub calls_of : List Step → List Call
calls_of [] = []
calls_of (step ∷ past) = fold ordered_by (told_by step.event (calls_of past)) step.orders

-- how the contactor stands, and whether it is live
abbrev pub standing_at : List Step → Standing
standing_at past = standing_of (acts_of (calls_of past))

abbrev pub live_at : List Step → Bool
live_at past = is_live (acts_of (calls_of past))

-- what an event itself leads to, in a mode and with a live contactor or not
abbrev pub Acts : Mode → Bool → BasicEvent → List BasicOrder → Type 0
Acts mode live (Offer amps) orders =
    MatchBool (is_free mode) ((d : ℕ) × IsDuty amps d × (orders ≡ Duty d ∷ [])) (orders ≡ [])
Acts mode live GoDigital orders =
    orders ≡ (if is_free mode then (if live then Open ∷ Duty 50 ∷ [] else Duty 50 ∷ []) else [])
Acts mode live DigitalEnded orders = orders ≡ (if is_digital mode then Duty 1000 ∷ [] else [])
Acts mode live (Pilot state) orders = orders ≡ []
Acts mode live (Feedback closed) orders = orders ≡ []
Acts mode live Tick orders = orders ≡ []

abbrev pub is_opened : Standing → Bool
is_opened contactor.Opened = true
is_opened contactor.Closing = false
is_opened contactor.Closed = false
is_opened contactor.Opening = false
is_opened contactor.MustOpen = false

-- after each event, in basic charging alone: close for a ready vehicle, open for another
abbrev pub follows : Mode → PilotState → Bool → Standing → List BasicOrder
follows Basic state live standing =
    if is_ready state then (if is_opened standing then Close ∷ [] else []) else (if live then Open ∷ [] else [])
follows Off state live standing = []
follows Digital state live standing = []
follows (Pause since) state live standing = []

-- the past with an event that has led to these orders so far
abbrev pub with_step : List Step → ℕ → BasicEvent → List BasicOrder → List Step
with_step past at event orders = record { at = at; event = event; orders = orders } ∷ past

-- an event leads to these orders: those of the event itself, and then that to the contactor
pub record LeadsTo (past : List Step) (at : ℕ) (event : BasicEvent) (orders : List BasicOrder) : Type 0 where
  pub acted : List BasicOrder
  pub acts : Acts (mode_at (mode_of past) (now_of (with_step past at event []))) (live_at (with_step past at event [])) event acted
  pub whole : orders ≡ acted ++ follows (mode_of (with_step past at event acted)) (pilot_of (with_step past at event acted)) (live_at (with_step past at event acted)) (standing_at (with_step past at event acted))

-- a past of which each step was the machine's
abbrev pub IsRun : List Step → Type 0
IsRun [] = Unit {0}
IsRun (step ∷ past) = IsRun past × LeadsTo past step.at step.event step.orders

-- what a machine keeps of its past
pub record State : Type 0 where
  pub now : ℕ
  pub mode : Mode
  pub pilot : PilotState
  pub contactor : Kept

abbrev pub state_of : List Step → State
state_of past = record { now = now_of past; mode = mode_of past; pilot = pilot_of past; contactor = kept_after (calls_of past) }
