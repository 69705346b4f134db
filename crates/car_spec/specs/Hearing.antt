-- Own: what a car keeps behind a hearing.
use Rattle.std.specs.Prelude.{ℕ, is_some, ◌++◌, Option, Some, None}
use Rattle.post_spec.specs.Sessions.{brought}
use Rattle.post_spec.specs.Steps.{Event, Came, Bytes, Gone, Datagram, Plant, Clock, Over}
use Rattle.car_spec.specs.Steps.{stop_heard}
use Rattle.car_spec.specs.States.{Timing, Session, State, nothing, first_session}

-- a connection opens a session where none stands
abbrev pub opened : Event → ℕ → Option Session
opened (Came token) at = Some (first_session at)
opened (Bytes bytes) at = None
opened Gone at = None
opened (Datagram bytes) at = None
opened (Plant event) at = None
opened Clock at = None
opened Over at = None

abbrev pub heard_in : Event → Session → Session
heard_in event session = record session { unread = session.unread ++ brought event; stop = stop_heard event session.stop }

abbrev pub session_heard : Event → ℕ → Option Session → Option Session
session_heard event at None = opened event at
session_heard event at (Some session) = Some (heard_in event session)

-- a hearing
abbrev pub hearing : ℕ → Event → State → State
hearing at event s = record {
  clock = at;
  live = s.live;
  session = session_heard event at s.session;
  search = s.search;
  event = event;
  stood = is_some s.session;
  part = Timing;
  agenda = nothing;
  over = s.over;
}
