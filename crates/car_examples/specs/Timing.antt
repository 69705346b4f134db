-- ISO 15118-2:2014, section 8.7: examples of a car's deadlines, each one millisecond before its moment and at it.
use Rattle.std.specs.Prelude.{◌≡◌, ℕ, true, false, [], ◌∷◌, Some}
use Rattle.charge_world.specs.declared.heard.PlantEvent.TheVariants as plant
use Rattle.charge_world.specs.declared.ports.Order.TheVariants as order
use Rattle.session_words.specs.declared.cause.EndCause.TheVariants as cause
use Rattle.session_words.specs.declared.word.Tell.TheVariants as tell
use Rattle.car_rules.specs.declared.stage.CarPhase.{CarPhase}
use Rattle.car_rules.specs.declared.stage.CarPhase.TheVariants as phase
use Rattle.post_spec.specs.Steps.{Came}
use Rattle.car_spec.specs.Until.{until}
use Rattle.car_examples.specs.Playing.{Play, unplayed, hear}
use Rattle.car_examples.specs.Fixtures.{dc_car, ac_car, told, delivery}
use Rattle.car_examples.specs.Sessions.{Ordered, Ended, shown, reply, tells, tick, open_in, live_in, keeping, session_in}

-- the request was sent at 1,000: its reply is awaited for 2,000 ms, of PowerDelivery for 5,000 ms, of CurrentDemand for 250 ms
abbrev pub AwaitsReply : Type 0
AwaitsReply = shown (tick dc_car 2999 (open_in phase.Discovering)) ≡ []

abbrev pub EndsWithoutReply : Type 0
EndsWithoutReply = shown (tick dc_car 3000 (open_in phase.Discovering)) ≡ Ended cause.MessageTimeout ∷ []

abbrev pub AwaitsDelivery : Type 0
AwaitsDelivery = shown (tick dc_car 5999 (live_in phase.Starting)) ≡ []

abbrev pub EndsWithoutDelivery : Type 0
EndsWithoutDelivery = shown (tick dc_car 6000 (live_in phase.Starting)) ≡ Ordered order.Open ∷ Ended cause.MessageTimeout ∷ []

abbrev pub AwaitsDemand : Type 0
AwaitsDemand = shown (tick dc_car 1249 (live_in phase.Charging)) ≡ []

abbrev pub EndsWithoutDemand : Type 0
EndsWithoutDemand = shown (tick dc_car 1250 (live_in phase.Charging)) ≡ Ordered order.Open ∷ Ended cause.MessageTimeout ∷ []

abbrev pub AwaitsChargingStatus : Type 0
AwaitsChargingStatus = shown (tick ac_car 2999 (live_in phase.Charging)) ≡ []

-- a reply that comes with the deadline comes too late, and so does an event
abbrev pub DeadlineGoesFirst : Type 0
DeadlineGoesFirst = shown (reply dc_car 3000 (told tell.PaymentSelection) (open_in phase.Selecting)) ≡ Ended cause.MessageTimeout ∷ []

abbrev pub DeadlineGoesBeforeEvent : Type 0
DeadlineGoesBeforeEvent = shown (tells dc_car 3000 plant.Emergency (open_in phase.Selecting)) ≡ Ended cause.MessageTimeout ∷ []

-- a step that began at 1,000, and whose last request was sent at this moment
abbrev pub asked_again : CarPhase → ℕ → Play
asked_again phase at = keeping (record (session_in phase) { moments = record { came = 0; sent = Some at; begun = 1000 } }) false

abbrev pub EndsUnfinished : Type 0
EndsUnfinished = shown (tick dc_car 61000 (asked_again phase.Authorizing 60900)) ≡ Ended cause.OngoingTimeout ∷ []

abbrev pub AwaitsFinished : Type 0
AwaitsFinished = shown (tick dc_car 60999 (asked_again phase.Asking 60900)) ≡ []

abbrev pub EndsUnchecked : Type 0
EndsUnchecked = shown (tick dc_car 41000 (asked_again phase.CableChecking 40900)) ≡ Ended cause.CableCheckTimeout ∷ []

abbrev pub AwaitsChecked : Type 0
AwaitsChecked = shown (tick dc_car 40999 (asked_again phase.CableChecking 40900)) ≡ []

abbrev pub EndsUncharged : Type 0
EndsUncharged = shown (tick dc_car 8000 (asked_again phase.PreCharging 7900)) ≡ Ended cause.PreChargeTimeout ∷ []

abbrev pub AwaitsCharged : Type 0
AwaitsCharged = shown (tick dc_car 7999 (asked_again phase.PreCharging 7900)) ≡ []

-- behind a renegotiation that began at 70,000 the parameters are awaited for 60,000 ms anew
abbrev pub renegotiated : Play
renegotiated = reply ac_car 70000 (told delivery)
    (keeping (record (session_in phase.Renegotiating) { moments = record { came = 0; sent = Some 69000; begun = 69000 } }) true)

abbrev pub RenewsItsSpan : Type 0
RenewsItsSpan = until ac_car renegotiated.keeps ≡ 72000

-- SessionSetup is awaited for 20,000 ms from the connection on; of several deadlines the least number decides
abbrev pub comes_at : ℕ → Play
comes_at at = hear dc_car at (Came 1) [] [] unplayed

abbrev pub LeastNumberDecides : Type 0
LeastNumberDecides = shown (tick dc_car 20000 (comes_at 0)) ≡ Ended cause.SetupTimeout ∷ []

abbrev pub OtherBeforeIt : Type 0
OtherBeforeIt = shown (tick dc_car 19999 (comes_at 0)) ≡ Ended cause.MessageTimeout ∷ []

-- a deadline of exactly 2^64 - 1 is reached at that moment, and one past it never
abbrev pub LastMomentIsReached : Type 0
LastMomentIsReached = shown (tick dc_car 18446744073709551615 (comes_at 18446744073709549615)) ≡ Ended cause.MessageTimeout ∷ []

abbrev pub PastItIsNever : Type 0
PastItIsNever = shown (tick dc_car 18446744073709551615 (comes_at 18446744073709549616)) ≡ []
