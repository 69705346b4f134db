-- Own: what a pipe that is driven turn by turn stands for.
use Rattle.std.specs.Prelude.{◌≡◌, ℕ, ◌+◌, ◌*◌, ◌^◌, ◌≤◌, Bool, true, false, List, [], ◌∷◌, ◌++◌, Option, unwrap_or}
use Rattle.std.specs.List.{AllByRecursion}
use Rattle.charge_world.specs.declared.offer.Dialect.{Dialect}
use Rattle.session_words.specs.declared.plan.CarPlan.{CarPlan}
use Rattle.session_words.specs.declared.plan.SitePlan.{SitePlan}
use Rattle.session_words.specs.declared.word.Word.{Word}
use Rattle.post_spec.specs.Codecs.{Codecs}
use Rattle.site_posts.specs.Places.{capped}
use Rattle.car_spec.specs.Codecs as car
use Rattle.car_codec.specs.Requests.{IsPlan}
use Rattle.pair_plans.specs.Generated.{IsBetween}
use Rattle.pipe_spec.specs.Counts.{Counts, counts, station_cause_number, car_cause_number}
use Rattle.pipe_spec.specs.Histories.{Happening, CarComes, moment, draws}
use Rattle.pipe_spec.specs.Numbers.{next, behind}
use Rattle.pipe_spec.specs.Pasts.{Hearing, station_heard}
use Rattle.pipe_spec.specs.Runs.{IsRun, IsStation}
use Rattle.pipe_spec.specs.Turns.{Station, BothRest, is_over, MayCome}
use Rattle.pipe_laws.specs.OneMessage.{IsShort}
use Rattle.pair_ends.specs.Ends.{IsReadySide}
use Rattle.pair_talk.specs.Acting.{IsDeed}
use Rattle.pair_talk.specs.Beginning.{Awaits}
use Rattle.pair_talk.specs.Keeping.{AreSound, PostIsQuiet, CarIsQuiet, IsPostAt, IsAt}
use Rattle.pair_talk.specs.Lessening.{over_by}
use Rattle.pair_talk.specs.Sides.{Sides}
use Rattle.pair_talk.specs.Turning.{IsTurn}

-- both ends, whether a turn was made in this session, and what the station heard last
pub record PipeState : Type 0 where
  pub sides : Sides
  pub has_come : Bool
  pub heard : Option Hearing

-- ---- between two turns

-- the next car is to come
pub record IsWaiting (Reads : Dialect → List ℕ → Option Word → Type 0) (s : Sides) : Type 0 where
  pub ready : IsReadySide Reads s.post
  pub rules : IsPlan s.car.plan
  pub turns : s.turns ≤ 4294967296
  pub quiet : PostIsQuiet s
  pub early : s.moment ≤ 2 ^ 62

-- a car has come
pub record IsGoing (Reads : Dialect → List ℕ → Option Word → Type 0) (s : Sides) : Type 0 where
  pub sound : AreSound Reads s
  pub post : PostIsQuiet s
  pub car : CarIsQuiet s
  pub early : s.moment ≤ 2 ^ 62 + 10 * s.post.tally.hearings

abbrev pub IsReadyBy : (Dialect → List ℕ → Option Word → Type 0) → Bool → Sides → Type 0
IsReadyBy Reads true s = IsGoing Reads s
IsReadyBy Reads false s = IsWaiting Reads s

-- no turn was made in this session yet, or the last one left it going on
abbrev pub MayGoOn : PipeState → Type 0
MayGoOn k = k.has_come ≡ true → over_by k.sides ≡ false

-- no turn was made in this session yet, or the last one left it over
abbrev pub MayBeRenewed : PipeState → Type 0
MayBeRenewed k = k.has_come ≡ true → over_by k.sides ≡ true

-- ---- what it stands for

-- the history of a pipe whose newest car has this plan, with that car's coming, which stands in front of its first turn
abbrev pub begun : Bool → CarPlan → List Happening → List Happening
begun true plan h = h
begun false plan h = CarComes plan ∷ h

abbrev pub KeepsBy : Bool → Codecs → car.Codecs → Station → CarPlan → List Happening → Sides → Type 0
KeepsBy true c cc st plan h s = IsAt c cc st plan h s
KeepsBy false c cc st plan h s = Awaits c cc st plan h s

-- This has happened, and both ends have done all that they had to do; the newest car has this plan.
pub record StandsFor (c : Codecs) (cc : car.Codecs) (st : Station) (plan : CarPlan) (h : List Happening) (k : PipeState) : Type 0 where
  pub keeps : KeepsBy k.has_come c cc st plan h k.sides
  pub rest : BothRest st h
  pub heard_is : k.heard ≡ station_heard (begun k.has_come plan h)
  pub over_is : k.has_come ≡ true → over_by k.sides ≡ is_over st h

-- a pipe of these plans to which nothing has happened
pub record IsMade (c : Codecs) (cc : car.Codecs) (site : SitePlan) (plan : CarPlan) (seed : ℕ) (k : PipeState) : Type 0 where
  pub station : Station
  pub station_is : IsStation site seed station
  pub stands : StandsFor c cc station plan [] k
  pub waits : k.has_come ≡ false
  pub moment_is : k.sides.moment ≡ 0

-- ---- a turn

-- one thing has happened, and both ends did what that asks for
pub record OneTurn (c : Codecs) (cc : car.Codecs) (st : Station) (plan : CarPlan) (h : List Happening) (k : PipeState) : Type 0 where
  pub turn : Happening
  pub is : IsTurn turn
  pub deeds : List Happening
  pub are : AllByRecursion IsDeed deeds
  pub stands : StandsFor c cc st plan (deeds ++ turn ∷ h) k

-- where the session is over already, nothing
abbrev pub TurnsBy : Bool → Codecs → car.Codecs → Station → CarPlan → List Happening → PipeState → Type 0
TurnsBy true c cc st plan h k = StandsFor c cc st plan h k
TurnsBy false c cc st plan h k = OneTurn c cc st plan h k

-- a turn behind a history in which the car has come. Both ends do first what its coming asks for, where that isn't done
pub record Turns (c : Codecs) (cc : car.Codecs) (st : Station) (plan : CarPlan) (h : List Happening) (k : PipeState) : Type 0 where
  pub first : List Happening
  pub are : AllByRecursion IsDeed first
  pub turns : TurnsBy (is_over st (first ++ h)) c cc st plan (first ++ h) k

-- ---- the next car

-- it may come
pub record IsFree (c : Codecs) (cc : car.Codecs) (st : Station) (h : List Happening) (s : Sides) : Type 0 where
  pub run : IsRun c cc st h
  pub short : AllByRecursion (IsShort 1032) h
  pub may : MayCome st h
  pub rest : BothRest st h
  pub post : IsPostAt st h s.post
  pub moment_is : s.moment ≡ moment h
  pub number_is : s.number ≡ behind st.seed (draws h)
  pub turns_is : s.turns ≡ st.turns

-- the connection has gone, where it still stood, and the station did what that asks for
pub record HasLeft (c : Codecs) (cc : car.Codecs) (st : Station) (h : List Happening) (s : Sides) : Type 0 where
  pub gone : List Happening
  pub between : AllByRecursion IsBetween gone
  pub free : IsFree c cc st (gone ++ h) s

-- so, and the next car has this plan
pub record Renews (c : Codecs) (cc : car.Codecs) (st : Station) (plan : CarPlan) (h : List Happening) (k : PipeState) : Type 0 where
  pub gone : List Happening
  pub between : AllByRecursion IsBetween gone
  pub stands : StandsFor c cc st plan (gone ++ h) k

-- ---- what is told of it

-- a number was drawn
abbrev pub behind_draw : PipeState → PipeState
behind_draw k = record k { sides = record k.sides { number = next k.sides.number } }

-- a count stands still at the end of its type
abbrev pub capped_counts : Counts → Counts
capped_counts c = record { replies = capped c.replies; bytes = capped c.bytes; closed = capped c.closed; opened = capped c.opened }

-- the numbers of the causes by which both ends have ended in the newest session, 0 without one
abbrev pub both_causes : List Happening → ℕ × ℕ
both_causes h = (station_cause_number h, car_cause_number h)

-- what is counted of them
abbrev pub causes_by : Bool → Sides → ℕ × ℕ
causes_by true s = (unwrap_or s.post.tally.cause 0, unwrap_or s.car.tally.cause 0)
causes_by false s = (0, 0)
