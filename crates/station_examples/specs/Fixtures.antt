-- Own: the posts, the words and the sessions of the examples. Voltages and currents are tenths of a volt and of an
-- ampere.
use Rattle.std.specs.Prelude.{ℕ, true, [], ◌∷◌, Option}
use Rattle.charge_world.specs.declared.heard.IsolationLevel.{IsolationLevel}
use Rattle.charge_world.specs.declared.heard.PlantEvent.{PlantEvent}
use Rattle.charge_world.specs.declared.offer.Dialect.TheVariants as dialect
use Rattle.session_words.specs.declared.code.Code.{Code}
use Rattle.session_words.specs.declared.code.Notify.TheVariants as notify
use Rattle.session_words.specs.declared.code.StatusCode.{StatusCode}
use Rattle.session_words.specs.declared.limits.DcStatus.{DcStatus}
use Rattle.session_words.specs.declared.mode.Mode.{Mode}
use Rattle.session_words.specs.declared.mode.Mode.TheVariants as mode
use Rattle.session_words.specs.declared.plan.PostPlan.{PostPlan}
use Rattle.session_words.specs.declared.session.SessionId.{SessionId}
use Rattle.session_words.specs.declared.word.Ask.{Ask}
use Rattle.session_words.specs.declared.word.Tell.{Tell}
use Rattle.v2gtp_frames.specs.Frames.{frame}
use Rattle.session_rules.specs.Stages.{id_of}
use Rattle.post_spec.specs.Codecs.{Judged, Asked}
use Rattle.post_spec.specs.Steps.{Event, Bytes, Plant, Clock, Reading}
use Rattle.station_spec.specs.States.{Todo, Say, Said}
use Rattle.station_examples.specs.Playing.{Play, hear}

-- a free post of 50 kW that speaks both dialects
abbrev pub post_of : Mode → PostPlan
post_of mode = record {
  tcp = 15120;
  sdp = 0;
  mode = mode;
  dialects = record { items = dialect.Iso ∷ dialect.Din ∷ [] };
  evse_id = 90 ∷ 90 ∷ 48 ∷ 48 ∷ 48 ∷ 48 ∷ 48 ∷ [];
  evse_id_din = record { items = 0 ∷ [] };
  free = true;
  max_watts = 50000;
  max_voltage = 9200;
  min_voltage = 1500;
  max_current = 1250;
  min_current = 0;
  ripple = 10;
  nominal = 230;
}

abbrev pub dc_post : PostPlan
dc_post = post_of mode.DcExtended

abbrev pub ac_post : PostPlan
ac_post = post_of mode.AcThreePhaseCore

-- the identifier of the sessions, which the token 0102030405060708 gives, and eight zero bytes
abbrev pub token : ℕ
token = 0x0102030405060708

abbrev pub named : SessionId
named = id_of (1 ∷ 2 ∷ 3 ∷ 4 ∷ 5 ∷ 6 ∷ 7 ∷ 8 ∷ [])

abbrev pub unnamed : SessionId
unnamed = id_of (0 ∷ 0 ∷ 0 ∷ 0 ∷ 0 ∷ 0 ∷ 0 ∷ 0 ∷ [])

-- a word, and the watts that it is shown
abbrev pub word : Judged → Reading
word judged = record { judged = judged; shown = 0 }

abbrev pub asks_as : SessionId → Ask → Reading
asks_as session asked = word (Asked (record { session = session; ask = asked }))

abbrev pub asks : Ask → Reading
asks asked = asks_as named asked

abbrev pub asks_shown : Ask → ℕ → Reading
asks_shown asked shown = record (asks asked) { shown = shown }

-- the reply to it
abbrev pub replies : Code → Tell → Todo
replies code tell = Say (Said dialect.Iso (record { session = named; code = code; tell = tell }))

abbrev pub status : Option IsolationLevel → StatusCode → DcStatus
status level code = record { notify = notify.None; isolation = level; code = code }

-- A whole frame comes. What its payload is judged as is said by the word beside it.
abbrev pub a_frame : Event
a_frame = Bytes (frame [])

abbrev pub request : PostPlan → ℕ → Reading → Play → Play
request plan at word = hear plan at a_frame (word ∷ []) []

-- the charger tells something, or the clock is looked at
abbrev pub tells : PostPlan → ℕ → PlantEvent → Play → Play
tells plan at event = hear plan at (Plant event) [] []

abbrev pub tick : PostPlan → ℕ → Play → Play
tick plan at = hear plan at Clock [] []
