-- Own: what a post keeps behind a hearing.
use Rattle.std.specs.Prelude.{ℕ, true, false, List, ◌++◌, Option, Some, None}
use Rattle.std.specs.Option.{option_map}
use Rattle.charge_world.specs.declared.heard.PlantEvent.{PlantEvent}
use Rattle.charge_world.specs.declared.heard.PlantEvent.TheVariants as plant
use Rattle.session_words.specs.declared.facts.Facts.{Facts}
use Rattle.session_rules.specs.Calls.{standing_heard}
use Rattle.post_spec.specs.Sessions.{brought}
use Rattle.post_spec.specs.Steps.{Event, Came, Bytes, Gone, Datagram, Plant, Clock, Over}
use Rattle.station_spec.specs.States.{Repeating, Session, State, nothing, first_session}

-- the newest word of the charger is its fact; a connection clears the isolation and what was asked for
abbrev pub charger_facts : PlantEvent → Facts → Facts
charger_facts (plant.Pilot state) f = record f { pilot = state }
charger_facts (plant.Isolation level) f = record f { isolation = Some level }
charger_facts (plant.Measured voltage current) f = record f { voltage = voltage; current = current }
charger_facts (plant.Feedback closed) f = record f { contactor = standing_heard f.contactor closed }
charger_facts plant.Paid f = record f { paid = true }
charger_facts plant.Emergency f = f
charger_facts plant.StopAsked f = record f { stop = true }
charger_facts plant.RenewAsked f = record f { renew = true }

abbrev pub heard_facts : Event → Facts → Facts
heard_facts (Came token) f = record f { isolation = None; stop = false; renew = false }
heard_facts (Plant event) f = charger_facts event f
heard_facts (Bytes bytes) f = f
heard_facts Gone f = f
heard_facts (Datagram bytes) f = f
heard_facts Clock f = f
heard_facts Over f = f

abbrev pub arrival : Event → Option ℕ
arrival (Came token) = Some token
arrival (Bytes bytes) = None
arrival Gone = None
arrival (Datagram bytes) = None
arrival (Plant event) = None
arrival Clock = None
arrival Over = None

-- a connection opens its session behind the hearing in which it began
abbrev pub session_opened : Option ℕ → ℕ → Option Session → Option Session
session_opened None at session = session
session_opened (Some token) at session = Some (first_session token at)

abbrev pub with_bytes : List ℕ → Session → Session
with_bytes bytes session = record session { unread = session.unread ++ bytes }

-- a hearing
abbrev pub hearing : ℕ → Event → State → State
hearing at event s = record {
  clock = at;
  facts = heard_facts event s.facts;
  live = s.live;
  session = option_map (with_bytes (brought event)) (session_opened s.arrived s.clock s.session);
  arrived = arrival event;
  event = event;
  stood = s.facts.contactor;
  part = Repeating;
  agenda = nothing;
}
