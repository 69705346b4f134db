-- Own: what an entry changes of the values of a session.
use Rattle.std.specs.Prelude.{ℕ, max, ◌==◌, Bool, false, not, ◌&&◌, ◌||◌, if◌then◌else◌, Option, Some, None, is_some, unwrap_or, []}
use Rattle.std.specs.Option.{option_map}
use Rattle.charge_world.specs.declared.entry.Entry.{Entry}
use Rattle.charge_world.specs.declared.entry.Entry.TheVariants as entry
use Rattle.charge_world.specs.declared.heard.PilotState.TheVariants.{A}
use Rattle.charge_world.specs.declared.ports.Order.{Order}
use Rattle.post_spec.specs.Facts.{newer, told_by, pilot_in, isolation_in, measured_in, paid_in, stop_in}
use Rattle.post_spec.specs.Sessions.{waits_behind_order, moment_of_order}
use Rattle.post_spec.specs.Steps.{Event, Came, Bytes, Gone, Datagram, Plant, Clock, Over, event_at}
use Rattle.audit_sessions.specs.declared.values.Arrival.{Arrival}
use Rattle.audit_sessions.specs.declared.values.Moments.{Moments}
use Rattle.audit_sessions.specs.declared.values.SessionValues.{SessionValues}

abbrev pub at_first : SessionValues
at_first = record { moment = 0; arrived = None; session = None; pilot = A; isolation = None; voltage = 0; current = 0; paid = false; stop = false }

-- a connection that came in the block before opens a session
abbrev pub opened_by : Option Arrival → Option Moments → Option Moments
opened_by None m = m
opened_by (Some a) m = Some (record { token = a.token; came_at = a.at; replied_at = 0; closed_at = 0; waits = false })

abbrev pub arrival_in : ℕ → Event → Option Arrival
arrival_in at (Came token) = Some (record { at = at; token = token })
arrival_in at (Bytes bytes) = None
arrival_in at Gone = None
arrival_in at (Datagram bytes) = None
arrival_in at (Plant event) = None
arrival_in at Clock = None
arrival_in at Over = None

-- what the charger told
abbrev pub told_so : Event → SessionValues → SessionValues
told_so event v = record v {
  pilot = unwrap_or (told_by pilot_in event) v.pilot;
  isolation = newer (told_by isolation_in event) v.isolation;
  voltage = (unwrap_or (told_by measured_in event) (v.voltage, v.current)).0;
  current = (unwrap_or (told_by measured_in event) (v.voltage, v.current)).1;
  paid = is_some (told_by paid_in event) || v.paid;
  stop = is_some (told_by stop_in event) || v.stop;
}

-- a hearing
abbrev pub heard_by : ℕ → Event → SessionValues → SessionValues
heard_by at event v = record (told_so event v) {
  moment = at;
  arrived = arrival_in at event;
  session = opened_by v.arrived v.session;
  isolation = if is_some (arrival_in at event) then None else newer (told_by isolation_in event) v.isolation;
  stop = not (is_some (arrival_in at event)) && (is_some (told_by stop_in event) || v.stop);
}

-- an order to its charger, at this moment
abbrev pub ordered : Order → Bool → ℕ → Moments → Moments
ordered given taken at m = record m { waits = waits_behind_order given taken m.waits; closed_at = moment_of_order given taken at m.closed_at }

abbrev pub driven : Order → Bool → SessionValues → SessionValues
driven given taken v = record v { session = option_map (λ m. ordered given taken v.moment m) v.session }

-- bytes on its connection
abbrev pub replied : ℕ → Moments → Moments
replied at m = record m { waits = false; replied_at = at }

abbrev pub sent : SessionValues → SessionValues
sent v = record v { session = option_map (λ m. replied v.moment m) v.session }

abbrev pub ended : SessionValues → SessionValues
ended v = record v { session = None; paid = false }

abbrev pub behind : ℕ → Entry → SessionValues → SessionValues
behind k (entry.Heard heard bytes) v = heard_by (max v.moment heard.at) (event_at k heard.what []) v
behind k entry.Lost v = v
behind k (entry.Sent post bytes taken) v = if post == k then sent v else v
behind k (entry.Answered post bytes taken) v = v
behind k (entry.Drove post given taken) v = if post == k then driven given taken v else v
behind k (entry.Dialed port taken) v = v
behind k (entry.Ended post cause) v = if post == k then ended v else v
