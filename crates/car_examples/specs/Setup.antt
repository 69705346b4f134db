-- ISO 15118-2:2014, sections 8.2 and 8.3.3: examples of how a car begins its session and names it.
use Rattle.std.specs.Prelude.{◌≡◌, pos, true, false, List, [], ◌∷◌, Some, None}
use Rattle.charge_world.specs.declared.heard.PlantEvent.TheVariants as plant
use Rattle.charge_world.specs.declared.offer.Dialect.TheVariants as dialect
use Rattle.session_words.specs.declared.cause.EndCause.TheVariants as cause
use Rattle.session_words.specs.declared.code.Code.TheVariants as code
use Rattle.session_words.specs.declared.code.Progress.TheVariants as progress
use Rattle.session_words.specs.declared.plan.CarPlan.{CarPlan}
use Rattle.session_words.specs.declared.session.SessionId.{SessionId}
use Rattle.session_words.specs.declared.word.Ask.TheVariants as ask
use Rattle.session_rules.specs.Stages.{id_of}
use Rattle.car_rules.specs.declared.stage.CarPhase.TheVariants as phase
use Rattle.car_rules.specs.Requests.{ask_of}
use Rattle.post_spec.specs.Steps.{Came, Bytes, Gone, Over}
use Rattle.car_spec.specs.Codecs.{Chosen}
use Rattle.car_spec.specs.Steps.{Asked}
use Rattle.car_spec.specs.States.{Todo, Speak, Finish}
use Rattle.car_examples.specs.Playing.{Play, unplayed, hear}
use Rattle.car_examples.specs.Fixtures.{dc_car, pausing_car, other_name, unnamed, told_as, setup}
use Rattle.car_examples.specs.Sessions.{reply, tells, open_in}

abbrev pub come : CarPlan → Play
come plan = hear plan 0 (Came 1) [] [] unplayed

-- SessionSetup names no session, or the one to come back to
abbrev pub sets_up : SessionId → List Todo
sets_up session = Speak (Asked dialect.Iso (record { session = session; ask = ask_of dc_car dialect.Iso phase.SettingUp })) ∷ []

abbrev pub NamesNone : Type 0
NamesNone = (reply dc_car 100 (Chosen (Some dialect.Iso)) (come dc_car)).did ≡ sets_up unnamed

abbrev pub NamesThePaused : Type 0
NamesThePaused = (reply pausing_car 100 (Chosen (Some dialect.Iso)) (come pausing_car)).did ≡ sets_up (id_of (7 ∷ 7 ∷ []))

-- the reply to it gives the identifier, whatever it is
abbrev pub TakesTheGiven : Type 0
TakesTheGiven = (reply dc_car 1100 (told_as other_name code.OkNewSessionEstablished setup) (open_in phase.SettingUp)).did
    ≡ Speak (Asked dialect.Iso (record { session = other_name; ask = ask.ServiceDiscovery })) ∷ []

-- nothing that was offered is chosen
abbrev pub EndsUnmatched : Type 0
EndsUnmatched = (reply dc_car 100 (Chosen None) (come dc_car)).did ≡ Finish cause.NoNegotiation ∷ []

-- DIN names no schedule without a profile
abbrev pub DinNamesNoSchedule : Type 0
DinNamesNoSchedule = ask_of dc_car dialect.Din phase.Starting ≡ ask.PowerDelivery progress.Start None None

abbrev pub IsoNamesTheFirst : Type 0
IsoNamesTheFirst = ask_of dc_car dialect.Iso phase.Starting ≡ ask.PowerDelivery progress.Start (Some (pos 1)) None

-- DIN has no pause
abbrev pub IsoPauses : Type 0
IsoPauses = ask_of pausing_car dialect.Iso phase.Ending ≡ ask.SessionStop true

abbrev pub DinEnds : Type 0
DinEnds = ask_of pausing_car dialect.Din phase.Ending ≡ ask.SessionStop false

-- before a connection came, bytes, its end and the charger decide nothing, but Over does
abbrev pub UnconnectedWaits : Type 0
UnconnectedWaits = (hear dc_car 5 Gone [] [] (tells dc_car 4 plant.Emergency (hear dc_car 3 (Bytes (2 ∷ 2 ∷ [])) [] [] unplayed))).did ≡ []

abbrev pub UnconnectedEndsByOver : Type 0
UnconnectedEndsByOver = (hear dc_car 5 Over [] [] unplayed).did ≡ Finish cause.RunOver ∷ []
