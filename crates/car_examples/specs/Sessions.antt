-- Own: the hearings of the examples, what is shown of them, and sessions in the middle of which they begin.
use Rattle.std.specs.Prelude.{ℕ, Bool, true, false, List, [], ◌∷◌, ◌++◌, Some, None}
use Rattle.charge_world.specs.declared.heard.PlantEvent.{PlantEvent}
use Rattle.charge_world.specs.declared.offer.Dialect.TheVariants as dialect
use Rattle.charge_world.specs.declared.ports.Order.{Order}
use Rattle.session_words.specs.declared.cause.EndCause.{EndCause}
use Rattle.session_words.specs.declared.plan.CarPlan.{CarPlan}
use Rattle.session_words.specs.declared.word.Ask.{Ask}
use Rattle.v2gtp_frames.specs.Frames.{frame}
use Rattle.car_rules.specs.declared.stage.CarPhase.{CarPhase}
use Rattle.post_spec.specs.Steps.{Event, Bytes, Plant, Clock}
use Rattle.car_spec.specs.Codecs.{Judged}
use Rattle.car_spec.specs.Steps.{Offer, Asked}
use Rattle.car_spec.specs.States.{Todo, Call, Drive, Speak, Finish, Inquire, Session, fresh}
use Rattle.car_examples.specs.Playing.{Play, hear}
use Rattle.car_examples.specs.Fixtures.{named}

-- A whole frame comes. What its payload is judged as is said by the word beside it.
abbrev pub a_frame : Event
a_frame = Bytes (frame [])

abbrev pub reply : CarPlan → ℕ → Judged → Play → Play
reply plan at word = hear plan at a_frame (word ∷ []) []

-- the charger tells something, or the clock is looked at
abbrev pub tells : CarPlan → ℕ → PlantEvent → Play → Play
tells plan at event = hear plan at (Plant event) [] []

abbrev pub tick : CarPlan → ℕ → Play → Play
tick plan at = hear plan at Clock [] []

-- what a car shows: its search, its offer, its orders, what it asks, and its cause
pub data Shown : Type 0 where
  Searched : Shown
  Dialed : (port : ℕ) → Shown
  Offered : Shown
  Ordered : (order : Order) → Shown
  Asks : (ask : Ask) → Shown
  Ended : (cause : EndCause) → Shown

abbrev pub shown_by : Todo → Shown
shown_by (Call port) = Dialed port
shown_by (Drive order) = Ordered order
shown_by (Speak Offer) = Offered
shown_by (Speak (Asked dialect request)) = Asks request.ask
shown_by (Finish cause) = Ended cause
shown_by Inquire = Searched

abbrev pub shown_of : List Todo → List Shown
shown_of [] = []
shown_of (todo ∷ todos) = shown_by todo ∷ shown_of todos

abbrev pub shown : Play → List Shown
shown p = shown_of p.did

-- a hearing, and the words that come with it
pub record Hearing : Type 0 where
  pub at : ℕ
  pub event : Event
  pub words : List Judged

abbrev pub heard : ℕ → Event → Hearing
heard at event = record { at = at; event = event; words = [] }

abbrev pub told_at : ℕ → Judged → Hearing
told_at at word = record { at = at; event = a_frame; words = word ∷ [] }

-- what is shown in these hearings, in order
abbrev pub shown_in : CarPlan → List Hearing → Play → List Shown
shown_in plan [] p = []
shown_in plan (h ∷ hs) p =
    let later = hear plan h.at h.event h.words [] p in shown later ++ shown_in plan hs later

-- A session of ISO whose connection came at 0, and whose request was sent at 1,000 as the first of its phase. It had one charging reply.
abbrev pub session_in : CarPhase → Session
session_in phase = record {
  stage = Some (record { phase = phase; dialect = dialect.Iso; session = named; cycles = 1 });
  moments = record { came = 0; sent = Some 1000; begun = 1000 };
  again = None;
  unread = [];
  stop = false;
}

abbrev pub keeping : Session → Bool → Play
keeping session live = record { steps = []; keeps = record fresh { clock = 1000; session = Some session; live = live }; did = [] }

-- with an open contactor, and with one that is live
abbrev pub open_in : CarPhase → Play
open_in phase = keeping (session_in phase) false

abbrev pub live_in : CarPhase → Play
live_in phase = keeping (session_in phase) true

-- the reply came at 1,000, and the request is asked once more at 1,100
abbrev pub waiting_in : CarPhase → Bool → Play
waiting_in phase live =
    keeping (record (session_in phase) { moments = record { came = 0; sent = None; begun = 500 }; again = Some 1100 }) live
