-- Own: what a post keeps behind one act more, and behind all its steps.
use Rattle.std.specs.Prelude.{ℕ, Bool, true, false, if◌then◌else◌, List, [], ◌∷◌, Option, Some, None}
use Rattle.std.specs.Option.{option_map}
use Rattle.charge_world.specs.declared.ports.Order.{Order}
use Rattle.charge_world.specs.declared.ports.Order.TheVariants as order
use Rattle.session_words.specs.declared.cause.EndCause.{EndCause}
use Rattle.session_words.specs.declared.cause.EndCause.TheVariants.{SendFailed, OrderFailed, Paused}
use Rattle.session_words.specs.declared.phase.Standing.{Standing}
use Rattle.session_words.specs.declared.phase.Standing.TheVariants as standing
use Rattle.session_words.specs.declared.plan.PostPlan.{PostPlan}
use Rattle.session_words.specs.declared.session.SessionId.{SessionId}
use Rattle.session_rules.specs.Stages.{confirmed, is_set_up}
use Rattle.post_spec.specs.Steps.{Act, Give, Send, Answer, End, Step, Hears, Does}
use Rattle.station_spec.specs.States.{Agenda, Session, State, nothing, fresh}
use Rattle.station_spec.specs.Deciding.{ending_in}
use Rattle.station_spec.specs.Judging.{filled}
use Rattle.station_spec.specs.Hearing.{hearing}

-- an order, taken or failed
abbrev pub standing_ordered : Order → Bool → Standing → Standing
standing_ordered order.Open taken now = if taken then standing.Opening else standing.MustOpen
standing_ordered order.Close taken now = if taken then standing.Closing else standing.MustOpen
standing_ordered (order.Limits voltage current watts) taken now = now

abbrev pub live_ordered : Order → Bool → Bool → Bool
live_ordered order.Open taken live = if taken then false else live
live_ordered order.Close taken live = true
live_ordered (order.Limits voltage current watts) taken live = live

-- from a Close on its feedback is awaited
abbrev pub since_order : ℕ → Order → Session → Session
since_order now order.Open session = session
since_order now order.Close session = record session { since = now }
since_order now (order.Limits voltage current watts) session = session

abbrev pub ordered : Order → Bool → State → State
ordered o taken s = record s {
  facts = record s.facts { contactor = standing_ordered o taken s.facts.contactor };
  live = live_ordered o taken s.live;
}

-- what failed ends a session that has no cause yet; behind a cause it drops the reply
abbrev pub failing : Option EndCause → Option Session → EndCause → Bool → Agenda
failing None session cause live = ending_in session cause live
failing (Some ending) session cause live = record nothing { ending = Some ending }

abbrev pub giving : Order → Bool → State → State
giving o true s =
    record (ordered o true s) { session = option_map (since_order s.clock o) s.session; agenda = record s.agenda { order = None } }
giving o false s =
    record (ordered o false s) { agenda = failing s.agenda.ending s.session OrderFailed (live_ordered o false s.live) }

-- the next request is awaited from a reply on, once SessionSetup was accepted; the reply that waited leads to the next row
abbrev pub replied : ℕ → Session → Session
replied now session = record session {
  stage = confirmed session.stage;
  since = if is_set_up session.stage.row then now else session.since;
}

-- a cause that stands behind the reply
abbrev pub agenda_said : Option EndCause → Option Session → Agenda → Bool → Agenda
agenda_said None session a live = record a { reply = None }
agenda_said (Some cause) session a live = ending_in session cause live

abbrev pub saying : Bool → State → State
saying true s = record s {
  session = option_map (replied s.clock) s.session;
  agenda = agenda_said s.agenda.behind_reply s.session s.agenda s.live;
}
saying false s = record s { agenda = failing s.agenda.ending s.session SendFailed s.live }

abbrev pub telling : State → State
telling s = record s { agenda = record s.agenda { datagram = None } }

-- a paused session keeps its identifier for a later one
abbrev pub kept_of : Option Session → Option SessionId → Option SessionId
kept_of None kept = kept
kept_of (Some session) kept = Some session.stage.session

abbrev pub kept_behind : Option EndCause → Option Session → Option SessionId → Option SessionId
kept_behind (Some Paused) session kept = kept_of session kept
kept_behind other session kept = kept

abbrev pub ended : State → State
ended s = record s {
  session = None;
  agenda = nothing;
  facts = record s.facts { paid = false; joined = false; kept = kept_behind s.agenda.ending s.session s.facts.kept };
}

-- an act was done, and was taken or failed
abbrev pub acted : Act → Bool → State → State
acted (Give o) taken s = giving o taken s
acted (Send bytes) taken s = saying taken s
acted (Answer bytes) taken s = telling s
acted (End cause) taken s = ended s

abbrev pub after : PostPlan → State → Step → State
after plan s (Hears at event) = hearing at event s
after plan s (Does reading act taken) = acted act taken (filled plan reading s)

-- what a post keeps of its steps
abbrev pub state : PostPlan → List Step → State
state plan [] = fresh
state plan (step ∷ steps) = after plan (state plan steps) step
