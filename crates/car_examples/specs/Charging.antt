-- ISO 15118-2:2014, section 8.4.5, and IEC 61851-23: examples of when a car closes and opens its contactor, and of its pace.
use Rattle.std.specs.Prelude.{◌≡◌, ℕ, pos, false, List, [], ◌∷◌, Some, None}
use Rattle.charge_world.specs.declared.heard.PlantEvent.TheVariants as plant
use Rattle.charge_world.specs.declared.ports.Order.TheVariants as order
use Rattle.session_words.specs.declared.cause.EndCause.TheVariants as cause
use Rattle.session_words.specs.declared.code.Notify.TheVariants as notify
use Rattle.session_words.specs.declared.code.Processing.TheVariants as processing
use Rattle.session_words.specs.declared.code.Progress.{Progress}
use Rattle.session_words.specs.declared.code.Progress.TheVariants as progress
use Rattle.session_words.specs.declared.plan.CarPlan.{CarPlan}
use Rattle.session_words.specs.declared.word.Ask.TheVariants as ask
use Rattle.session_words.specs.declared.word.Tell.TheVariants as tell
use Rattle.car_rules.specs.declared.stage.CarPhase.TheVariants as phase
use Rattle.car_spec.specs.Codecs.{Judged}
use Rattle.car_examples.specs.Playing.{Play, hear}
use Rattle.car_examples.specs.Fixtures.{dc_car, ac_car, told, authorization, parameters, pre_charge, demand, delivery, dc_status}
use Rattle.car_examples.specs.Sessions.{Shown, Ordered, Asks, Ended, shown, reply, a_frame, tells, tick, session_in, keeping, open_in, live_in, waiting_in}

abbrev pub delivers : Progress → Shown
delivers progress = Asks (ask.PowerDelivery progress (Some (pos 1)) None)

-- the voltage is 20.0 V, and 20.1 V, off its target of 400.0 V
abbrev pub starts : List Shown
starts = Ordered order.Close ∷ delivers progress.Start ∷ []

abbrev pub ClosesNear : Type 0
ClosesNear = shown (reply dc_car 1100 (told (pre_charge 3800)) (open_in phase.PreCharging)) ≡ starts

abbrev pub ClosesNearAbove : Type 0
ClosesNearAbove = shown (reply dc_car 1100 (told (pre_charge 4200)) (open_in phase.PreCharging)) ≡ starts

abbrev pub WaitsFar : Type 0
WaitsFar = shown (reply dc_car 1100 (told (pre_charge 3799)) (open_in phase.PreCharging)) ≡ []

abbrev pub WaitsFarAbove : Type 0
WaitsFarAbove = shown (reply dc_car 1100 (told (pre_charge 4201)) (open_in phase.PreCharging)) ≡ []

-- units in replies decide nothing
abbrev pub in_wrong_unit : Judged
in_wrong_unit = told (tell.PreCharge (dc_status notify.None) (record { size = 4000; right = false }))

abbrev pub ClosesInWrongUnit : Type 0
ClosesInWrongUnit = shown (reply dc_car 1100 in_wrong_unit (open_in phase.PreCharging)) ≡ starts

-- in AC the contactor closes once PowerDelivery is accepted
abbrev pub AcCloses : Type 0
AcCloses = shown (reply ac_car 1100 (told delivery) (open_in phase.Starting)) ≡ Ordered order.Close ∷ Asks ask.ChargingStatus ∷ []

-- an order that fails ends the session, by an order to open
abbrev pub FailedCloseEnds : Type 0
FailedCloseEnds = shown (hear ac_car 1100 a_frame (told delivery ∷ []) (false ∷ []) (open_in phase.Starting))
    ≡ Ordered order.Close ∷ Ordered order.Open ∷ Ended cause.OrderFailed ∷ []

abbrev pub FailedOpenEnds : Type 0
FailedOpenEnds = shown (hear ac_car 1100 a_frame (told delivery ∷ []) (false ∷ false ∷ []) (live_in phase.Stopping))
    ≡ Ordered order.Open ∷ Ordered order.Open ∷ Ended cause.OrderFailed ∷ []

-- the request is asked once more 100 ms behind the reply, and not before
abbrev pub WaitsForItsPace : Type 0
WaitsForItsPace = shown (tick dc_car 1199 (reply dc_car 1100 (told (parameters processing.Ongoing)) (open_in phase.Asking))) ≡ []

abbrev pub AsksAtItsPace : Type 0
AsksAtItsPace = shown (tick dc_car 1200 (reply dc_car 1100 (told (authorization processing.Ongoing)) (open_in phase.Authorizing)))
    ≡ Asks ask.Authorization ∷ []

-- at 2^64 - 1 where that is the moment, and never where the moment is past that
abbrev pub authorizing_at : ℕ → Play
authorizing_at at = reply dc_car at (told (authorization processing.Ongoing))
    (keeping (record (session_in phase.Authorizing) { moments = record { came = at; sent = Some at; begun = at } }) false)

abbrev pub AsksAtTheLastMoment : Type 0
AsksAtTheLastMoment = shown (tick dc_car 18446744073709551615 (authorizing_at 18446744073709551515)) ≡ Asks ask.Authorization ∷ []

abbrev pub AsksNeverPastIt : Type 0
AsksNeverPastIt = shown (tick dc_car 18446744073709551615 (authorizing_at 18446744073709551516)) ≡ []

-- behind the event of the hearing
abbrev pub AsksBehindTheEvent : Type 0
AsksBehindTheEvent = shown (tells dc_car 1100 plant.StopAsked (waiting_in phase.Authorizing false)) ≡ Asks ask.Authorization ∷ []

-- charging stops with the last reply, where the post asks for it, and where somebody asked for it
abbrev pub long_car : CarPlan
long_car = record dc_car { cycles = 3 }

abbrev pub ChargesOn : Type 0
ChargesOn = shown (reply long_car 1100 (told (demand notify.None)) (live_in phase.Charging)) ≡ []

abbrev pub StopsAtTheLast : Type 0
StopsAtTheLast = shown (reply dc_car 1100 (told (demand notify.None)) (live_in phase.Charging)) ≡ delivers progress.Stop ∷ []

abbrev pub StopsForThePost : Type 0
StopsForThePost = shown (reply long_car 1100 (told (demand notify.StopCharging)) (live_in phase.Charging)) ≡ delivers progress.Stop ∷ []

abbrev pub StopsForTheDriver : Type 0
StopsForTheDriver =
    shown (reply long_car 1100 (told (demand notify.ReNegotiation)) (tells long_car 1050 plant.StopAsked (live_in phase.Charging)))
    ≡ delivers progress.Stop ∷ []

abbrev pub Renegotiates : Type 0
Renegotiates = shown (reply long_car 1100 (told (demand notify.ReNegotiation)) (live_in phase.Charging))
    ≡ delivers progress.Renegotiate ∷ []
