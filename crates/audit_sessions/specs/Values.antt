-- ISO 15118-2:2014, section 8.7 (the timers of the post); IEC 61851-1 and IEC 61851-23 (the charger): what is kept of the session of a post and
-- of its charger, off a past alone. Pasts have their newest entry first.
use Rattle.std.specs.Prelude.{◌≡◌, ℕ, List, ◌∷◌, Option, Some, None}
use Rattle.charge_world.specs.declared.entry.Entry.{Entry}
use Rattle.post_spec.specs.Facts.{now, pilot, isolation, measured, paid, stop}
use Rattle.post_spec.specs.Sessions.{arriving, session, token, came_at, replied_at, closed_at, waits}
use Rattle.post_spec.specs.Steps.{Came, Seen, Heard, seen, moment}
use Rattle.audit_sessions.specs.declared.values.Arrival.{Arrival}
use Rattle.audit_sessions.specs.declared.values.Moments.{Moments}
use Rattle.audit_sessions.specs.declared.values.SessionValues.{SessionValues}

-- the hearing in which a connection came
abbrev pub arrival_of : Option Arrival → Option Seen
arrival_of None = None
arrival_of (Some a) = Some (Heard a.at (Came a.token))

-- the values of a session with these entries, at this moment
pub record AreMoments (at : ℕ) (es : List Seen) (m : Moments) : Type 0 where
  pub first : Seen
  pub rest : List Seen
  pub es_are : es ≡ first ∷ rest
  pub now_is : now es ≡ at
  pub token_is : m.token ≡ token es
  pub came_is : m.came_at ≡ came_at es
  pub replied_is : m.replied_at ≡ replied_at es
  pub closed_is : m.closed_at ≡ closed_at es
  pub waits_is : m.waits ≡ waits es

abbrev pub IsSession : ℕ → Option (List Seen) → Option Moments → Type 0
IsSession at None None = Unit {0}
IsSession at None (Some m) = ⊥
IsSession at (Some es) None = ⊥
IsSession at (Some es) (Some m) = AreMoments at es m

-- the values of a post that saw this
pub record AreSeen (past : List Seen) (v : SessionValues) : Type 0 where
  pub now_is : v.moment ≡ now past
  pub arrived_is : arriving past ≡ arrival_of v.arrived
  pub session_is : IsSession (now past) (session past) v.session
  pub pilot_is : v.pilot ≡ pilot past
  pub isolation_is : v.isolation ≡ isolation past
  pub voltage_is : v.voltage ≡ (measured past).0
  pub current_is : v.current ≡ (measured past).1
  pub paid_is : v.paid ≡ paid past
  pub stop_is : v.stop ≡ stop past

-- those of post k behind a past
pub record AreOf (k : ℕ) (past : List Entry) (v : SessionValues) : Type 0 where
  pub seen_is : AreSeen (seen k past) v
  pub moment_is : v.moment ≡ moment past
