-- Own: examples of what ends a car from outside. Open goes first, where the contactor is live.
use Rattle.std.specs.Prelude.{◌≡◌, false, [], ◌∷◌}
use Rattle.charge_world.specs.declared.heard.PilotState.TheVariants as pilot
use Rattle.charge_world.specs.declared.heard.PlantEvent.TheVariants as plant
use Rattle.charge_world.specs.declared.ports.Order.TheVariants as order
use Rattle.session_words.specs.declared.cause.EndCause.TheVariants as cause
use Rattle.session_words.specs.declared.word.Ask.TheVariants as ask
use Rattle.session_words.specs.declared.word.Tell.TheVariants as tell
use Rattle.car_rules.specs.declared.stage.CarPhase.TheVariants as phase
use Rattle.post_spec.specs.Steps.{Came, Gone, Clock, Over}
use Rattle.car_examples.specs.Playing.{hear}
use Rattle.car_examples.specs.Fixtures.{dc_car, pausing_car, told}
use Rattle.car_examples.specs.Sessions.{Ordered, Asks, Ended, shown, reply, tells, open_in, live_in, waiting_in}

abbrev pub EmergencyOpens : Type 0
EmergencyOpens = shown (tells dc_car 1100 plant.Emergency (live_in phase.Charging)) ≡ Ordered order.Open ∷ Ended cause.Emergency ∷ []

-- other events of the charger end nothing
abbrev pub PilotEndsNothing : Type 0
PilotEndsNothing = shown (tells dc_car 1100 (plant.Pilot pilot.E) (live_in phase.Charging)) ≡ []

abbrev pub GoneOpens : Type 0
GoneOpens = shown (hear dc_car 1100 Gone [] [] (live_in phase.Charging)) ≡ Ordered order.Open ∷ Ended cause.Gone ∷ []

abbrev pub SecondConnectionEnds : Type 0
SecondConnectionEnds = shown (hear dc_car 1100 (Came 2) [] [] (open_in phase.Selecting)) ≡ Ended cause.Gone ∷ []

abbrev pub OverOpens : Type 0
OverOpens = shown (hear dc_car 1100 Over [] [] (live_in phase.Charging)) ≡ Ordered order.Open ∷ Ended cause.RunOver ∷ []

-- a request that can't be sent
abbrev pub FailedSendEnds : Type 0
FailedSendEnds = shown (hear dc_car 1100 Clock [] (false ∷ []) (waiting_in phase.Authorizing false))
    ≡ Asks ask.Authorization ∷ Ended cause.SendFailed ∷ []

-- an Open that fails at an end changes nothing of it, and the car gives no order more
abbrev pub FailedOpenEnds : Type 0
FailedOpenEnds = shown (hear dc_car 1100 Gone [] (false ∷ []) (live_in phase.Charging)) ≡ Ordered order.Open ∷ Ended cause.Gone ∷ []

abbrev pub EndedIsSilent : Type 0
EndedIsSilent = shown (hear dc_car 1200 (Came 2) [] [] (hear dc_car 1100 Gone [] (false ∷ []) (live_in phase.Charging))) ≡ []

-- SessionStop ends the session, by a pause where one was meant
abbrev pub StopEnds : Type 0
StopEnds = shown (reply dc_car 1100 (told tell.SessionStop) (open_in phase.Ending)) ≡ Ended cause.Stopped ∷ []

abbrev pub PauseEnds : Type 0
PauseEnds = shown (reply pausing_car 1100 (told tell.SessionStop) (open_in phase.Ending)) ≡ Ended cause.Paused ∷ []
