-- Own: what a simulated charger tells next, computed.
use Rattle.std.specs.Prelude.{ℕ, suc, ◌*◌, ◌/◌, ◌==◌, min, nat_le, nat_lt, if◌then◌else◌, List, [], ◌∷◌, Option, Some, None, slice_get, slice_set}
use Rattle.charge_world.specs.declared.heard.PlantEvent.{PlantEvent}
use Rattle.plant_sim.specs.Charger.{Charger, moved, events, measured}

-- the place and the moment of the event that comes first
abbrev pub earlier : ℕ → Option ℕ → Option (ℕ × ℕ) → Option (ℕ × ℕ)
earlier place None found = found
earlier place (Some moment) None = Some (place, moment)
earlier place (Some moment) (Some found) = if nat_le moment found.1 then Some (place, moment) else Some found

abbrev pub first_from : ℕ → List (Option ℕ) → Option (ℕ × ℕ)
first_from place [] = None
first_from place (moment ∷ moments) = earlier place moment (first_from (suc place) moments)

-- the current behind its contactor
abbrev pub cut : ℕ → ℕ → ℕ → ℕ
cut voltage most watts = if voltage == 0 then most else min most (100 * watts / voltage)

abbrev pub current : Charger → ℕ
current s = if s.closed then cut (moved s) s.limits.current s.limits.watts else 0

-- what it tells, and what it is then
abbrev pub with_event : Charger → ℕ → Option PlantEvent → Option (PlantEvent × Charger)
with_event s place None = None
with_event s place (Some event) = Some (event, record s { moments = slice_set s.moments place None; voltage = measured event s.voltage })

abbrev pub told_at : Charger → ℕ → Option (ℕ × ℕ) → Option (PlantEvent × Charger)
told_at s now None = None
told_at s now (Some found) = if nat_lt now found.1 then None else with_event s found.0 (slice_get (events (moved s) (current s)) found.0)

abbrev pub tells : Charger → ℕ → Option (PlantEvent × Charger)
tells s now = told_at s now (first_from 0 s.moments)
