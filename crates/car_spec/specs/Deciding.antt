-- Own: what a car decides to do in a hearing without reading a word, part by part. A part is looked at once all that was decided before it
-- is done. ISO 15118-2:2014, sections 8.7 (the deadlines) and 7.10.1 (the search for a post).
use Rattle.std.specs.Prelude.{ℕ, Bool, true, false, not, ◌&&◌, if◌then◌else◌, List, Option, Some, None, Result, Ok, Err}
use Rattle.charge_world.specs.declared.heard.PlantEvent.{PlantEvent}
use Rattle.session_words.specs.declared.cause.EndCause.{EndCause}
use Rattle.session_words.specs.declared.cause.EndCause.TheVariants.{BadFrame, Gone as ConnectionGone, RunOver}
use Rattle.session_words.specs.declared.plan.CarPlan.{CarPlan}
use Rattle.v2gtp_frames.specs.declared.FrameFault.{FrameFault}
use Rattle.v2gtp_frames.specs.Reading.{whole_at}
use Rattle.car_rules.specs.declared.searching.Search.{Search}
use Rattle.car_rules.specs.declared.stage.CarStage.{CarStage}
use Rattle.car_rules.specs.Deadlines.{hit}
use Rattle.car_rules.specs.Replies.{plant_cause}
use Rattle.car_rules.specs.Requests.{request_of}
use Rattle.car_rules.specs.Searching.{is_searching, next_request, port_of}
use Rattle.post_spec.specs.Steps.{Event, Came, Bytes, Gone, Datagram, Plant, Clock, Over}
use Rattle.station_spec.specs.Deciding.{opening_if}
use Rattle.car_spec.specs.Steps.{Spoken, Offer, Asked}
use Rattle.car_spec.specs.Due.{all_deadlines, is_due}
use Rattle.car_spec.specs.States.{Agenda, Part, Unheard, Timing, Eventing, Wording, Session, State, nothing, is_done}

-- the car ends by a cause: Open first, where the contactor is live
abbrev pub ending_by : EndCause → Bool → Agenda
ending_by cause live = record nothing { order = opening_if live; ending = Some cause }

abbrev pub ending_if : Option EndCause → Bool → Agenda
ending_if None live = nothing
ending_if (Some cause) live = ending_by cause live

-- where a session lives
abbrev pub ending_in : Option Session → EndCause → Bool → Agenda
ending_in None cause live = nothing
ending_in (Some session) cause live = ending_by cause live

abbrev pub timing : CarPlan → State → Agenda
timing plan s = ending_if (hit (all_deadlines plan s) s.clock) s.live

-- the car dials the first post that answers
abbrev pub calling : CarPlan → Search → List ℕ → Agenda
calling plan search datagram = if is_searching plan search then record nothing { port = port_of datagram } else nothing

abbrev pub charging : Option Session → PlantEvent → Bool → Agenda
charging None event live = nothing
charging (Some session) event live = ending_if (plant_cause event) live

-- a connection is answered by the offer of dialects; another one while it stands ends the session
abbrev pub greeting : Bool → Bool → Agenda
greeting stood live = if stood then ending_by ConnectionGone live else record nothing { spoken = Some Offer }

abbrev pub eventing : CarPlan → Event → State → Agenda
eventing plan (Came token) s = greeting s.stood s.live
eventing plan (Bytes bytes) s = nothing
eventing plan Gone s = ending_in s.session ConnectionGone s.live
eventing plan (Datagram bytes) s = calling plan s.search bytes
eventing plan (Plant event) s = charging s.session event s.live
eventing plan Clock s = nothing
eventing plan Over s = ending_by RunOver s.live

-- the frame at the front of what is unread: a fault of it ends the session, and a whole one has to be read
abbrev pub fronting_by : Result (Option ℕ) FrameFault → Bool → Agenda
fronting_by (Err fault) live = ending_by BadFrame live
fronting_by (Ok count) live = nothing

abbrev pub fronting : Option Session → Bool → Agenda
fronting None live = nothing
fronting (Some session) live = fronting_by (whole_at session.unread) live

abbrev pub is_whole : Result (Option ℕ) FrameFault → Bool
is_whole (Err fault) = false
is_whole (Ok None) = false
is_whole (Ok (Some n)) = true

abbrev pub has_word : Option Session → Bool
has_word None = false
has_word (Some session) = is_whole (whole_at session.unread)

-- a request that is due is asked once more
abbrev pub asking : CarPlan → Option CarStage → Option Spoken
asking plan None = None
asking plan (Some stage) = Some (Asked stage.dialect (request_of plan stage))

abbrev pub repeating : CarPlan → Option Session → ℕ → Agenda
repeating plan None now = nothing
repeating plan (Some session) now = if is_due session.again now then record nothing { spoken = asking plan session.stage } else nothing

-- the car asks once more for a post
abbrev pub seeking : CarPlan → Search → ℕ → Agenda
seeking plan search now = record nothing { seeks = is_due (next_request plan search) now }

-- what a part decided, or what the parts behind it decide
abbrev pub decide : Agenda → Part → State → State → State
decide agenda part s rest = if is_done agenda then rest else record s { agenda = agenda; part = part }

abbrev pub from_seeking : CarPlan → State → State
from_seeking plan s = decide (seeking plan s.search s.clock) Wording s s

abbrev pub from_repeating : CarPlan → State → State
from_repeating plan s = decide (repeating plan s.session s.clock) Wording s (from_seeking plan s)

abbrev pub from_wording : CarPlan → State → State
from_wording plan s = decide (fronting s.session s.live) Wording s (if has_word s.session then s else from_repeating plan s)

-- of a car that heard nothing yet, the front of its stream alone is looked at
abbrev pub from_nothing : State → State
from_nothing s = decide (fronting s.session s.live) Wording s s

abbrev pub from_eventing : CarPlan → State → State
from_eventing plan s = decide (eventing plan s.event s) Wording s (from_wording plan s)

abbrev pub from_timing : CarPlan → State → State
from_timing plan s = decide (timing plan s) Eventing s (from_eventing plan s)

abbrev pub from_part : CarPlan → Part → State → State
from_part plan Unheard s = from_nothing s
from_part plan Timing s = from_timing plan s
from_part plan Eventing s = from_eventing plan s
from_part plan Wording s = from_wording plan s

-- what is decided without a word, once all that was decided before is done. A car that ended does nothing
abbrev pub decided : CarPlan → State → State
decided plan s = if is_done s.agenda && not s.over then from_part plan s.part s else s
