-- Own: that a session over the pipe comes to its end: each turn uses up a hearing of an end, or what is under way to a car that has ended.
use Rattle.std.specs.Prelude.{◌≡◌, ℕ, ◌+◌, ◌-◌, ◌*◌, ◌<◌, ◌≤◌, nat_le, Bool, ◌&&◌, ◌||◌, length, is_some, ◌⊎◌}
use Rattle.pipe_spec.specs.Turns.{is_none}
use Rattle.pair_talk.specs.Keeping.{PostIsQuiet}
use Rattle.pair_talk.specs.Sides.{Sides}

-- what no act changes
pub record Keeps (old new : Sides) : Type 0 where
  pub turns_are : new.turns ≡ old.turns
  pub plan_is : new.car.plan ≡ old.car.plan
  pub moment_is : new.moment ≡ old.moment
  pub post_hearings : new.post.tally.hearings ≡ old.post.tally.hearings
  pub car_hearings : new.car.tally.hearings ≡ old.car.tally.hearings

-- the hearings that are left
abbrev pub hearings_left : Sides → ℕ
hearings_left s = (s.turns - s.post.tally.hearings) + (s.car.plan.turns - s.car.tally.hearings)

abbrev pub left : Sides → ℕ
left s = 1033 * hearings_left s + length s.to_car

-- whether the session is over
abbrev pub over_by : Sides → Bool
over_by s =
    (is_some s.post.tally.cause && is_some s.car.tally.cause) || nat_le s.turns s.post.tally.hearings || nat_le s.car.plan.turns s.car.tally.hearings
    || ((is_some s.post.tally.cause || is_some s.car.tally.cause) && (is_none s.to_station && is_none s.to_car))

-- an end hears, or what is under way to the car gets less, and the post has nothing to do about it
pub record Drains (old new : Sides) : Type 0 where
  pub same : hearings_left new ≡ hearings_left old
  pub less : length new.to_car < length old.to_car
  pub quiet : PostIsQuiet new

abbrev pub Lessens : Sides → Sides → Type 0
Lessens old new = (hearings_left new < hearings_left old) ⊎ Drains old new

-- the clock goes on by ten milliseconds at most in each hearing of the station
abbrev pub IsInTime : Sides → Sides → Type 0
IsInTime old new = new.moment + 10 * old.post.tally.hearings ≤ old.moment + 10 * new.post.tally.hearings
