-- Own: the runs of the pipe, and the sessions in them.
use Rattle.std.specs.Prelude.{◌≡◌, ℕ, Bool, true, false, List, [], ◌∷◌, ◌++◌}
use Rattle.std.specs.List.{AllByRecursion}
use Rattle.session_words.specs.declared.plan.CarPlan.{CarPlan}
use Rattle.session_words.specs.declared.plan.PostPlan.{PostPlan}
use Rattle.session_words.specs.declared.plan.SitePlan.{SitePlan}
use Rattle.post_spec.specs.Codecs.{Codecs}
use Rattle.car_spec.specs.Codecs as car
use Rattle.pipe_spec.specs.Histories.{Happening, CarComes, CarGoes, NumberIsDrawn}
use Rattle.pipe_spec.specs.Turns.{Station, BothRest, is_over, Follows}

-- the first post of a site is alone at it
pub record IsStation (site : SitePlan) (seed : ℕ) (station : Station) : Type 0 where
  pub others : List PostPlan
  pub first : site.post.items ≡ station.post ∷ others
  pub limit : station.limit ≡ site.limit
  pub turns : station.turns ≡ site.turns
  pub seed_is : station.seed ≡ seed

-- each happening follows from those before it
abbrev pub IsRun : Codecs → car.Codecs → Station → List Happening → Type 0
IsRun c cc station [] = Unit {0}
IsRun c cc station (e ∷ h) = IsRun c cc station h × Follows c cc station h e

-- what happens within a session
abbrev pub is_within : Happening → Bool
is_within (CarComes plan) = false
is_within CarGoes = false
is_within NumberIsDrawn = false
is_within other = true

abbrev pub IsWithin : Happening → Type 0
IsWithin e = is_within e ≡ true

-- a whole session, behind what happened before: a car with this plan comes, and the session goes on until it is over
pub record IsSession (c : Codecs) (cc : car.Codecs) (station : Station) (before : List Happening) (plan : CarPlan) (h : List Happening) : Type 0 where
  pub session : List Happening
  pub h_is : h ≡ session ++ CarComes plan ∷ before
  pub within : AllByRecursion IsWithin session
  pub run : IsRun c cc station h
  pub rest : BothRest station h
  pub over : is_over station h ≡ true

-- the run of the pipe of a station and a car
pub record IsPipeRun (c : Codecs) (cc : car.Codecs) (site : SitePlan) (plan : CarPlan) (seed : ℕ) (h : List Happening) : Type 0 where
  pub station : Station
  pub station_is : IsStation site seed station
  pub session : IsSession c cc station [] plan h
