-- Own: the events of a simulated charger, and what its calls do to them.
use Rattle.std.specs.Prelude.{◌≡◌, ℕ, ◌+◌, ◌-◌, ◌*◌, ◌<◌, ◌≤◌, ◌^◌, ◌⊎◌, Bool, true, false, MatchBool, if◌then◌else◌, nat_lt, nat_le, min, max, List, [], ◌∷◌, Option, Some, None, replicate, slice_get, slice_set}
use Rattle.charge_world.specs.declared.heard.PilotState.TheVariants as pilot
use Rattle.charge_world.specs.declared.heard.IsolationLevel.TheVariants as isolation
use Rattle.charge_world.specs.declared.heard.PlantEvent.{PlantEvent}
use Rattle.charge_world.specs.declared.heard.PlantEvent.TheVariants as event
use Rattle.charge_world.specs.declared.ports.Order.{Order}
use Rattle.charge_world.specs.declared.ports.Order.TheVariants as order

-- What the charger was ordered last: tenths of a volt, tenths of an ampere, watts.
pub record Limits : Type 0 where
  pub voltage : ℕ
  pub current : ℕ
  pub watts : ℕ

-- A charger: whether charging is free, the moment at which the event of each of the eight places comes, if it is to
-- come, the limits ordered last, whether the last Open or Close order was a Close, and the voltage measured last.
pub record Charger : Type 0 where
  pub free : Bool
  pub moments : List (Option ℕ)
  pub limits : Limits
  pub closed : Bool
  pub voltage : ℕ

-- so many milliseconds later; a moment of 2 ^ 64 or more never comes
abbrev pub later : ℕ → ℕ → Option ℕ
later now delay = if nat_lt (now + delay) (2 ^ 64) then Some (now + delay) else None

-- a charger of which nothing is to come
abbrev pub idle : Bool → Charger
idle free = record {
  free = free;
  moments = replicate 8 None;
  limits = record { voltage = 0; current = 0; watts = 0 };
  closed = false;
  voltage = 0;
}

-- the events of places 2 and 3 are the payment and the valid isolation
abbrev pub came : Charger → ℕ → Charger
came s now =
    let pilot = slice_set s.moments 0 (Some now) in
    let isolation = slice_set pilot 1 (Some now) in
    let paid = slice_set isolation 2 (if s.free then None else later now 100) in
    record s { moments = slice_set paid 3 (later now 300) }

abbrev pub ordered : Charger → Order → ℕ → Charger
ordered s (order.Limits voltage current watts) now =
    record s { moments = slice_set s.moments 4 (later now 20); limits = record { voltage = voltage; current = current; watts = watts } }
ordered s order.Close now = record s { moments = slice_set s.moments 5 (later now 50); closed = true }
ordered s order.Open now =
    record s { moments = slice_set (slice_set s.moments 6 (later now 50)) 7 (later now 50); closed = false }

-- the voltage moves by at most 100.0 V towards the ordered one
abbrev pub towards : ℕ → ℕ → ℕ
towards from to = if nat_le from to then min to (from + 1000) else max to (from - 1000)

abbrev pub moved : Charger → ℕ
moved s = towards s.voltage s.limits.voltage

-- the greatest current up to the ordered one at which the watts hold, at this voltage
pub record IsCut (voltage most watts current : ℕ) : Type 0 where
  pub ordered : current ≤ most
  pub held : voltage * current ≤ 100 * watts
  pub greatest : (other : ℕ) → other ≤ most → voltage * other ≤ 100 * watts → other ≤ current

-- the current that the charger then measures: none while its contactor counts as open
abbrev pub IsCurrent : Charger → ℕ → Type 0
IsCurrent s current = MatchBool s.closed (IsCut (moved s) s.limits.current s.limits.watts current) (current ≡ 0)

-- the events of the eight places, in order
abbrev pub events : ℕ → ℕ → List PlantEvent
events voltage current =
    event.Pilot pilot.C
    ∷ event.Isolation isolation.Invalid
    ∷ event.Paid
    ∷ event.Isolation isolation.Valid
    ∷ event.Measured voltage current
    ∷ event.Feedback true
    ∷ event.Feedback false
    ∷ event.Measured 0 0
    ∷ []

-- the event that comes at a place
abbrev pub IsEvent : Charger → ℕ → PlantEvent → Type 0
IsEvent s place e = (current : ℕ) × IsCurrent s current × (slice_get (events (moved s) current) place ≡ Some e)

-- the event of that place is to come at that moment
abbrev pub IsToCome : List (Option ℕ) → ℕ → ℕ → Type 0
IsToCome moments place moment = slice_get moments place ≡ Some (Some moment)

abbrev pub NothingComes : List (Option ℕ) → Type 0
NothingComes moments = (place moment : ℕ) → IsToCome moments place moment → ⊥

-- the event that comes first: that of the least moment, of equal moments that of the first place
pub record IsFirst (moments : List (Option ℕ)) (place moment : ℕ) : Type 0 where
  pub to_come : IsToCome moments place moment
  pub first : (other later : ℕ) → IsToCome moments other later → (moment < later) ⊎ ((moment ≡ later) × (place ≤ other))

-- the moment of the next event, 2 ^ 64 - 1 where none is to come
abbrev pub IsDue : List (Option ℕ) → ℕ → Type 0
IsDue moments due = ((place : ℕ) × IsFirst moments place due) ⊎ (NothingComes moments × (due ≡ 2 ^ 64 - 1))

-- the voltage measured last
abbrev pub measured : PlantEvent → ℕ → ℕ
measured (event.Measured voltage current) before = voltage
measured (event.Pilot state) before = before
measured (event.Isolation level) before = before
measured (event.Feedback closed) before = before
measured event.Paid before = before
measured event.Emergency before = before
measured event.StopAsked before = before
measured event.RenewAsked before = before

-- the first event comes, if its moment is reached
pub record Comes (old : Charger) (now : ℕ) (e : PlantEvent) (new : Charger) : Type 0 where
  pub place : ℕ
  pub moment : ℕ
  pub first : IsFirst old.moments place moment
  pub reached : moment ≤ now
  pub event : IsEvent old place e
  pub after : new ≡ record old { moments = slice_set old.moments place None; voltage = measured e old.voltage }

-- no event's moment is reached
abbrev pub NoneReached : List (Option ℕ) → ℕ → Type 0
NoneReached moments now = (place moment : ℕ) → IsToCome moments place moment → now < moment
