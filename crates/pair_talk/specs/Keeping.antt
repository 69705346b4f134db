-- Own: what a pair keeps of a history.
use Rattle.std.specs.Prelude.{◌≡◌, ℕ, ◌≤◌, List, ◌++◌, Option, Some}
use Rattle.std.specs.List.{AllByRecursion}
use Rattle.charge_world.specs.declared.offer.Dialect.{Dialect}
use Rattle.session_words.specs.declared.plan.CarPlan.{CarPlan}
use Rattle.session_words.specs.declared.word.Word.{Word}
use Rattle.post_spec.specs.Codecs.{Codecs}
use Rattle.site_posts.specs.Places.{capped}
use Rattle.station_spec.specs.Next.{IsQuiet}
use Rattle.car_spec.specs.Codecs as car
use Rattle.car_spec.specs.Next as car_next
use Rattle.car_codec.specs.Requests.{IsPlan}
use Rattle.car_acts.specs.Sound.{IsSound}
use Rattle.pipe_spec.specs.Chargers.{IsCharger}
use Rattle.pipe_spec.specs.Counts.{counts, exchanges}
use Rattle.pipe_spec.specs.Histories.{Happening, joined, ported, car_plan, moment, draws, to_station, to_car, station_cause, car_cause, car_has_ended, station_hearings, car_hearings}
use Rattle.pipe_spec.specs.Numbers.{behind}
use Rattle.pipe_spec.specs.Runs.{IsRun, IsWithin}
use Rattle.pipe_spec.specs.Turns.{Station, station_state, car_state}
use Rattle.pipe_laws.specs.OneMessage.{IsShort}
use Rattle.pair_ends.specs.declared.tallies.PostTally.{PostTally}
use Rattle.pair_ends.specs.declared.tallies.CarTally.{CarTally}
use Rattle.pair_ends.specs.Ends.{PostSide, CarSide, IsReadySide}
use Rattle.pair_ends.specs.Tallies.{few}
use Rattle.pair_talk.specs.Sides.{Sides}

-- the codecs of both ends can spell what is said, and the plans are within their rules
pub record AreSound (Reads : Dialect → List ℕ → Option Word → Type 0) (s : Sides) : Type 0 where
  pub ready : IsReadySide Reads s.post
  pub rules : IsPlan s.car.plan
  pub sound : IsSound s.car.plan s.car.car
  pub turns : s.turns ≤ 4294967296

-- an end has nothing to do
abbrev pub PostIsQuiet : Sides → Type 0
PostIsQuiet s = IsQuiet s.post.plan s.post.post

abbrev pub CarIsQuiet : Sides → Type 0
CarIsQuiet s = car_next.IsQuiet s.car.plan s.car.car

pub record IsPostTally (h : List Happening) (t : PostTally) : Type 0 where
  pub hearings : t.hearings ≡ capped (station_hearings h)
  pub cause : t.cause ≡ station_cause h
  pub replies : t.replies ≡ capped (counts h).replies
  pub bytes : t.bytes ≡ capped (counts h).bytes
  pub closed : t.closed ≡ capped (counts h).closed
  pub opened : t.opened ≡ capped (counts h).opened

pub record IsPostAt (st : Station) (h : List Happening) (p : PostSide) : Type 0 where
  pub plan_is : p.plan ≡ st.post
  pub post_is : p.post ≡ station_state st h
  pub limit_is : p.limit ≡ st.limit
  pub charger_is : IsCharger st.post.free h p.charger
  pub tally : IsPostTally h p.tally

pub record IsCarTally (h : List Happening) (t : CarTally) : Type 0 where
  pub hearings : t.hearings ≡ capped (car_hearings h)
  pub exchanges_are : t.exchanges ≡ few (exchanges h)
  pub cause : t.cause ≡ car_cause h

pub record IsCarAt (plan : CarPlan) (h : List Happening) (s : CarSide) : Type 0 where
  pub plan_is : s.plan ≡ ported (joined plan)
  pub car_is : s.car ≡ car_state (joined plan) h
  pub over_is : s.car.over ≡ car_has_ended h
  pub tally : IsCarTally h s.tally

-- while a car with this plan is there
pub record IsAt (c : Codecs) (cc : car.Codecs) (st : Station) (plan : CarPlan) (h : List Happening) (s : Sides) : Type 0 where
  pub run : IsRun c cc st h
  pub short : AllByRecursion (IsShort 1032) h
  pub came : car_plan h ≡ Some (joined plan)
  pub post : IsPostAt st h s.post
  pub car : IsCarAt plan h s.car
  pub to_station_is : s.to_station ≡ to_station h
  pub to_car_is : s.to_car ≡ to_car h
  pub moment_is : s.moment ≡ moment h
  pub number_is : s.number ≡ behind st.seed (draws h)
  pub turns_is : s.turns ≡ st.turns

-- the session has gone on from this history
pub record GoesOn (c : Codecs) (cc : car.Codecs) (st : Station) (plan : CarPlan) (h : List Happening) (s : Sides) : Type 0 where
  pub session : List Happening
  pub within : AllByRecursion IsWithin session
  pub at : IsAt c cc st plan (session ++ h) s
