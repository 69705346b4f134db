-- Own: a pair behind so many generated sessions, and what is counted of them.
use Rattle.std.specs.Prelude.{◌≡◌, ℕ, ◌*◌, ◌≤◌, false, List}
use Rattle.session_words.specs.declared.plan.CarPlan.{CarPlan}
use Rattle.session_words.specs.declared.plan.SitePlan.{SitePlan}
use Rattle.site_plan.specs.Plans.{IsFixedSite}
use Rattle.post_spec.specs.Codecs.{Codecs}
use Rattle.car_spec.specs.Codecs as car
use Rattle.pair_plans.specs.Generated.{AreSessions, IsGenerated}
use Rattle.pipe_spec.specs.Counts.{Counts, counts}
use Rattle.pipe_spec.specs.Histories.{Happening}
use Rattle.pipe_spec.specs.Turns.{Station}
use Rattle.pipe_spec.specs.Runs.{IsStation}
use Rattle.pair_talk.specs.Parting.{all_hearings, IsOver}
use Rattle.pair_talk.specs.Sides.{Sides}

-- so many sessions are over. A session has 2^32 hearings of the station at most, and the next one begins with its connection gone
pub record AreHeld (c : Codecs) (cc : car.Codecs) (seed count : ℕ) (s : Sides) : Type 0 where
  pub site : SitePlan
  pub site_is : IsFixedSite false site
  pub station : Station
  pub station_is : IsStation site seed station
  pub history : List Happening
  pub sessions : AreSessions c cc station count history
  pub plan : CarPlan
  pub over : IsOver c cc station plan history s
  pub some : 1 ≤ station.turns
  pub few : all_hearings history ≤ 4294967297 * count

-- what is counted of the sessions that are generated of a seed
pub record AreCounts (c : Codecs) (cc : car.Codecs) (seed count : ℕ) (result : Counts) : Type 0 where
  pub history : List Happening
  pub generated : IsGenerated c cc seed count history
  pub result_is : result ≡ counts history
