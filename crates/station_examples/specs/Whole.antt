-- ISO 15118-2:2014, section 8.8.4: whole sessions, from the connection to SessionStop. Each reply is of the OK class,
-- and the
-- contactor is ordered closed once.
use Rattle.std.specs.Prelude.{◌≡◌, ℕ, true, false, List, [], ◌∷◌, ◌++◌, Some}
use Rattle.charge_world.specs.declared.heard.IsolationLevel.TheVariants as isolation
use Rattle.charge_world.specs.declared.heard.PilotState.TheVariants as pilot
use Rattle.charge_world.specs.declared.heard.PlantEvent.TheVariants as plant
use Rattle.charge_world.specs.declared.offer.Dialect.TheVariants as dialect
use Rattle.charge_world.specs.declared.ports.Order.{Order}
use Rattle.charge_world.specs.declared.ports.Order.TheVariants as order
use Rattle.session_words.specs.declared.cause.EndCause.{EndCause}
use Rattle.session_words.specs.declared.cause.EndCause.TheVariants as cause
use Rattle.session_words.specs.declared.code.Code.{Code}
use Rattle.session_words.specs.declared.code.Code.TheVariants as code
use Rattle.session_words.specs.declared.code.Progress.TheVariants as progress
use Rattle.session_words.specs.declared.plan.PostPlan.{PostPlan}
use Rattle.session_words.specs.declared.word.Ask.TheVariants as ask
use Rattle.post_spec.specs.Codecs.{Negotiated}
use Rattle.post_spec.specs.Steps.{Event, Came, Plant, Reading}
use Rattle.station_spec.specs.States.{Todo, Tell, Give, Say, Finish, Response, Said}
use Rattle.station_examples.specs.Playing.{Play, unplayed, hear}
use Rattle.station_examples.specs.Fixtures.{dc_post, ac_post, token, unnamed, word, asks_as, asks, asks_shown, a_frame}
use Rattle.station_examples.specs.Words.{setup, payment, delivery, dc_parameters, ac_parameters, cable_check, pre_charge, demand}

-- what a session shows: its orders, the codes of its replies, and its cause
pub data Shown : Type 0 where
  Responded : Shown
  Ordered : (order : Order) → Shown
  Coded : (code : Code) → Shown
  Ended : (cause : EndCause) → Shown

abbrev pub shown_by : Todo → List Shown → List Shown
shown_by (Tell datagram) others = others
shown_by (Give order) others = Ordered order ∷ others
shown_by (Say (Response payload)) others = Responded ∷ others
shown_by (Say (Said dialect reply)) others = Coded reply.code ∷ others
shown_by (Finish cause) others = Ended cause ∷ others

abbrev pub shown_of : List Todo → List Shown
shown_of [] = []
shown_of (todo ∷ todos) = shown_by todo (shown_of todos)

-- a hearing, and the words that come with it
pub record Hearing : Type 0 where
  pub at : ℕ
  pub event : Event
  pub words : List Reading

abbrev pub heard : ℕ → Event → Hearing
heard at event = record { at = at; event = event; words = [] }

abbrev pub asked : ℕ → Reading → Hearing
asked at word = record { at = at; event = a_frame; words = word ∷ [] }

-- what is shown in these hearings, in order
abbrev pub shown_in : PostPlan → List Hearing → Play → List Shown
shown_in plan [] p = []
shown_in plan (h ∷ hs) p =
    let later = hear plan h.at h.event h.words [] p in shown_of later.did ++ shown_in plan hs later

-- up to the authorization
abbrev pub authorizes : List Hearing
authorizes =
    heard 0 (Came token) ∷
    heard 10 (Plant (plant.Pilot pilot.C)) ∷
    asked 100 (word (Negotiated (Some dialect.Iso) [])) ∷
    asked 200 (asks_as unnamed setup) ∷
    asked 300 (asks ask.ServiceDiscovery) ∷
    asked 400 (asks payment) ∷
    asked 500 (asks ask.Authorization) ∷ []

abbrev pub authorized : List Shown
authorized =
    Responded ∷ Coded code.OkNewSessionEstablished ∷ Coded code.Ok ∷ Coded code.Ok ∷ Coded code.Ok ∷ []

abbrev pub checks : List Hearing
checks =
    asked 600 (asks_shown dc_parameters 40000) ∷
    asked 700 (asks cable_check) ∷
    heard 710 (Plant (plant.Isolation isolation.Valid)) ∷
    asked 800 (asks cable_check) ∷
    asked 900 (asks pre_charge) ∷
    heard 910 (Plant (plant.Measured 3990 10)) ∷
    asked 1000 (asks pre_charge) ∷ []

abbrev pub delivers : List Hearing
delivers =
    asked 1100 (asks (delivery progress.Start)) ∷
    heard 1200 (Plant (plant.Feedback true)) ∷
    asked 1300 (asks_shown demand 40000) ∷
    asked 1400 (asks_shown demand 40000) ∷
    asked 1500 (asks (delivery progress.Stop)) ∷
    heard 1510 (Plant (plant.Feedback false)) ∷
    asked 1600 (asks (ask.WeldingDetection true 60)) ∷
    asked 1700 (asks (ask.SessionStop false)) ∷ []

abbrev pub DirectCurrent : Type 0
DirectCurrent = shown_in dc_post (authorizes ++ checks ++ delivers) unplayed ≡ authorized ++
    Coded code.Ok ∷ Coded code.Ok ∷ Coded code.Ok ∷
    Ordered (order.Limits 4000 20 40000) ∷ Coded code.Ok ∷ Ordered (order.Limits 4000 20 40000) ∷ Coded code.Ok ∷
    Ordered order.Close ∷ Coded code.Ok ∷
    Ordered (order.Limits 4000 1000 40000) ∷ Coded code.Ok ∷ Ordered (order.Limits 4000 1000 40000) ∷ Coded code.Ok ∷
    Ordered order.Open ∷ Coded code.Ok ∷ Coded code.Ok ∷ Coded code.Ok ∷ Ended cause.Stopped ∷ []

-- in alternating current
abbrev pub delivers_ac : List Hearing
delivers_ac =
    asked 600 (asks_shown ac_parameters 22080) ∷
    asked 1100 (asks (delivery progress.Start)) ∷
    heard 1200 (Plant (plant.Feedback true)) ∷
    asked 1300 (asks_shown ask.ChargingStatus 22080) ∷
    asked 1400 (asks_shown ask.ChargingStatus 10000) ∷
    asked 1500 (asks (delivery progress.Stop)) ∷
    heard 1510 (Plant (plant.Feedback false)) ∷
    asked 1700 (asks (ask.SessionStop false)) ∷ []

abbrev pub AlternatingCurrent : Type 0
AlternatingCurrent = shown_in ac_post (authorizes ++ delivers_ac) unplayed ≡ authorized ++
    Coded code.Ok ∷ Ordered order.Close ∷ Coded code.Ok ∷
    Ordered (order.Limits 2300 320 22080) ∷ Coded code.Ok ∷ Ordered (order.Limits 2300 144 10000) ∷ Coded code.Ok ∷
    Ordered order.Open ∷ Coded code.Ok ∷ Coded code.Ok ∷ Ended cause.Stopped ∷ []
