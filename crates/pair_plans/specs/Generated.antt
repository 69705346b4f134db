-- Own: the generator of sessions. They follow one another at the station without a file: the charger, the clock, the draws and what the
-- station keeps go on.
use Rattle.std.specs.Prelude.{◌≡◌, ℕ, zero, suc, Bool, true, false, List, [], ◌∷◌, ◌++◌}
use Rattle.std.specs.List.{AllByRecursion}
use Rattle.session_words.specs.declared.plan.CarPlan.{CarPlan}
use Rattle.session_words.specs.declared.plan.SitePlan.{SitePlan}
use Rattle.site_plan.specs.Plans.{IsFixedSite}
use Rattle.post_spec.specs.Codecs.{Codecs}
use Rattle.car_spec.specs.Codecs as car
use Rattle.pipe_spec.specs.Numbers.{behind}
use Rattle.pipe_spec.specs.Histories.{Happening, StationDoes, CarGoes, NumberIsDrawn, draws}
use Rattle.pipe_spec.specs.Turns.{Station}
use Rattle.pipe_spec.specs.Runs.{IsStation, IsSession}
use Rattle.pair_plans.specs.Drawn.{IsDrawnCar}

-- what happens between two sessions: the connection goes, where it still stands, and the station does what that asks for
abbrev pub is_between : Happening → Bool
is_between CarGoes = true
is_between (StationDoes reading act) = true
is_between other = false

abbrev pub IsBetween : Happening → Type 0
IsBetween e = is_between e ≡ true

-- one session more behind these, whose car is drawn
pub record IsNextSession (c : Codecs) (cc : car.Codecs) (station : Station) (earlier h : List Happening) : Type 0 where
  pub plan : CarPlan
  pub drawn : IsDrawnCar (behind station.seed (draws earlier)) plan
  pub gone : List Happening
  pub between : AllByRecursion IsBetween gone
  pub session : IsSession c cc station (gone ++ NumberIsDrawn ∷ NumberIsDrawn ∷ earlier) plan h

-- so many sessions
abbrev pub AreSessions : Codecs → car.Codecs → Station → ℕ → List Happening → Type 0
AreSessions c cc station zero h = h ≡ []
AreSessions c cc station (suc count) h =
    (earlier : List Happening) × AreSessions c cc station count earlier × IsNextSession c cc station earlier h

-- what is generated of a seed
pub record IsGenerated (c : Codecs) (cc : car.Codecs) (seed count : ℕ) (h : List Happening) : Type 0 where
  pub site : SitePlan
  pub site_is : IsFixedSite false site
  pub station : Station
  pub station_is : IsStation site seed station
  pub sessions : AreSessions c cc station count h
