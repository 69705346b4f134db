-- Own: a session that is over, and the connection that goes behind it, so that the next car may come.
use Rattle.std.specs.Prelude.{◌≡◌, ℕ, suc, ◌≤◌, true, List, [], ◌∷◌, ◌++◌}
use Rattle.std.specs.List.{AllByRecursion}
use Rattle.session_words.specs.declared.plan.CarPlan.{CarPlan}
use Rattle.post_spec.specs.Codecs.{Codecs}
use Rattle.car_spec.specs.Codecs as car
use Rattle.pair_plans.specs.Generated.{IsBetween}
use Rattle.pipe_spec.specs.Histories.{Happening, CarComes, ChargerTells, StationHears, TimePasses, CarGoes}
use Rattle.pipe_spec.specs.Turns.{Station, BothRest, is_over, MayFollow}
use Rattle.pair_talk.specs.Keeping.{IsAt}
use Rattle.pair_talk.specs.Sides.{Sides}

-- the hearings of the station in all sessions
abbrev pub all_hearings : List Happening → ℕ
all_hearings [] = 0
all_hearings (CarComes plan ∷ h) = suc (all_hearings h)
all_hearings (ChargerTells event ∷ h) = suc (all_hearings h)
all_hearings (StationHears bytes ∷ h) = suc (all_hearings h)
all_hearings (TimePasses ∷ h) = suc (all_hearings h)
all_hearings (CarGoes ∷ h) = suc (all_hearings h)
all_hearings (other ∷ h) = all_hearings h

-- the session of the car with this plan is over
pub record IsOver (c : Codecs) (cc : car.Codecs) (st : Station) (plan : CarPlan) (h : List Happening) (s : Sides) : Type 0 where
  pub at : IsAt c cc st plan h s
  pub rest : BothRest st h
  pub over : is_over st h ≡ true

-- the connection has gone, and the station has ended its session
pub record HasParted (c : Codecs) (cc : car.Codecs) (st : Station) (plan : CarPlan) (h : List Happening) (s : Sides) : Type 0 where
  pub gone : List Happening
  pub between : AllByRecursion IsBetween gone
  pub at : IsAt c cc st plan (gone ++ h) s
  pub may : MayFollow st (gone ++ h)
  pub few : all_hearings (gone ++ h) ≤ suc (all_hearings h)
