-- Own: one thing that an end does, over a history, and all that both ends do before something more is heard.
use Rattle.std.specs.Prelude.{◌≡◌, Bool, true, false, List, ◌∷◌, ◌++◌, Option}
use Rattle.std.specs.List.{AllByRecursion}
use Rattle.session_words.specs.declared.plan.CarPlan.{CarPlan}
use Rattle.post_spec.specs.Codecs.{Codecs}
use Rattle.post_spec.specs.Steps.{Act, Reading}
use Rattle.car_spec.specs.Codecs as car
use Rattle.pipe_spec.specs.Histories.{Happening, StationDoes, CarReads, CarDoes}
use Rattle.pipe_spec.specs.Turns.{Station}
use Rattle.pair_talk.specs.Keeping.{IsAt}
use Rattle.pair_talk.specs.Sides.{Sides}

-- what an end does, or a car reads
abbrev pub is_deed : Happening → Bool
is_deed (StationDoes reading act) = true
is_deed (CarReads judged) = true
is_deed (CarDoes act) = true
is_deed other = false

abbrev pub IsDeed : Happening → Type 0
IsDeed e = is_deed e ≡ true

-- one deed more
pub record HasDone (c : Codecs) (cc : car.Codecs) (st : Station) (plan : CarPlan) (h : List Happening) (s : Sides) : Type 0 where
  pub deed : Happening
  pub is : IsDeed deed
  pub at : IsAt c cc st plan (deed ∷ h) s

-- whether an end did something
abbrev pub MayHaveDone : Codecs → car.Codecs → Station → CarPlan → List Happening → Bool → Sides → Type 0
MayHaveDone c cc st plan h true s = HasDone c cc st plan h s
MayHaveDone c cc st plan h false s = IsAt c cc st plan h s

-- both ends have done so much from this history
pub record HaveDone (c : Codecs) (cc : car.Codecs) (st : Station) (plan : CarPlan) (h : List Happening) (s : Sides) : Type 0 where
  pub deeds : List Happening
  pub are : AllByRecursion IsDeed deeds
  pub at : IsAt c cc st plan (deeds ++ h) s

-- one act more of the station
pub record HasActed (c : Codecs) (cc : car.Codecs) (st : Station) (plan : CarPlan) (h : List Happening) (s : Sides) : Type 0 where
  pub reading : Option Reading
  pub act : Act
  pub at : IsAt c cc st plan (StationDoes reading act ∷ h) s

abbrev pub MayHaveActed : Codecs → car.Codecs → Station → CarPlan → List Happening → Bool → Sides → Type 0
MayHaveActed c cc st plan h true s = HasActed c cc st plan h s
MayHaveActed c cc st plan h false s = IsAt c cc st plan h s

-- an act of the station
abbrev pub is_of_station : Happening → Bool
is_of_station (StationDoes reading act) = true
is_of_station other = false

abbrev pub IsOfStation : Happening → Type 0
IsOfStation e = is_of_station e ≡ true

-- the station has gone on alone from this history
pub record HasAnswered (c : Codecs) (cc : car.Codecs) (st : Station) (plan : CarPlan) (h : List Happening) (s : Sides) : Type 0 where
  pub acts : List Happening
  pub alone : AllByRecursion IsOfStation acts
  pub at : IsAt c cc st plan (acts ++ h) s
