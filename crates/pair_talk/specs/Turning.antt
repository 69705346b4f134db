-- Own: a turn, and what the station hears in it.
use Rattle.std.specs.Prelude.{◌≡◌, ℕ, Bool, true, false, List, [], ◌∷◌, ◌++◌, Option, Some, None}
use Rattle.std.specs.List.{AllByRecursion}
use Rattle.std.specs.Option.{option_map}
use Rattle.charge_world.specs.declared.heard.Heard.{Heard}
use Rattle.session_words.specs.declared.plan.CarPlan.{CarPlan}
use Rattle.post_spec.specs.Codecs.{Codecs}
use Rattle.car_spec.specs.Codecs as car
use Rattle.pipe_spec.specs.Histories.{Happening, ChargerTells, StationHears, CarHears, TimePasses}
use Rattle.pipe_spec.specs.Pasts.{Hearing, station_heard}
use Rattle.pipe_spec.specs.Turns.{Station}
use Rattle.pair_talk.specs.declared.heard.LastHeard.{LastHeard}
use Rattle.pair_talk.specs.Acting.{IsDeed}
use Rattle.pair_talk.specs.Keeping.{IsAt}
use Rattle.pair_talk.specs.Sides.{Sides}

-- what happens first in a turn
abbrev pub is_turn : Happening → Bool
is_turn (ChargerTells event) = true
is_turn (StationHears bytes) = true
is_turn (CarHears bytes) = true
is_turn TimePasses = true
is_turn other = false

abbrev pub IsTurn : Happening → Type 0
IsTurn e = is_turn e ≡ true

-- a hearing with its bytes
abbrev pub with_bytes : List ℕ → Heard → Hearing
with_bytes bytes heard = record { heard = heard; bytes = bytes }

abbrev pub last_hearing : LastHeard → Option Hearing
last_hearing last = option_map (with_bytes last.bytes.items) last.heard

-- what was heard
abbrev pub heard_in : Option Hearing → Option Heard
heard_in None = None
heard_in (Some hearing) = Some hearing.heard

-- its bytes, none where nothing was heard
abbrev pub bytes_in : Option Hearing → List ℕ
bytes_in None = []
bytes_in (Some hearing) = hearing.bytes

-- something has happened from this history, in which the station heard so
pub record HasHeard (c : Codecs) (cc : car.Codecs) (st : Station) (plan : CarPlan) (h : List Happening) (heard : Option Hearing) (s : Sides) : Type 0 where
  pub turn : Happening
  pub is : IsTurn turn
  pub heard_is : heard ≡ station_heard (turn ∷ h)
  pub at : IsAt c cc st plan (turn ∷ h) s

-- a turn was made from this history: something has happened, in which the station heard so, and both ends did what that asks for
pub record HasTurned (c : Codecs) (cc : car.Codecs) (st : Station) (plan : CarPlan) (h : List Happening) (heard : Option Hearing) (s : Sides) : Type 0 where
  pub turn : Happening
  pub is : IsTurn turn
  pub deeds : List Happening
  pub are : AllByRecursion IsDeed deeds
  pub heard_is : heard ≡ station_heard (deeds ++ turn ∷ h)
  pub at : IsAt c cc st plan (deeds ++ turn ∷ h) s
