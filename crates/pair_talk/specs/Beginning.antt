-- Own: a pair to which the next car may come.
use Rattle.std.specs.Prelude.{◌≡◌, ℕ, ◌≤◌, List, ◌∷◌}
use Rattle.std.specs.List.{AllByRecursion}
use Rattle.session_words.specs.declared.plan.CarPlan.{CarPlan}
use Rattle.session_words.specs.declared.plan.PostPlan.{PostPlan}
use Rattle.session_words.specs.declared.plan.SitePlan.{SitePlan}
use Rattle.plant_sim.specs.Charger.{idle}
use Rattle.post_spec.specs.Codecs.{Codecs}
use Rattle.station_spec.specs.States.{fresh}
use Rattle.site_codec.specs.Replies.{IsPlan}
use Rattle.car_spec.specs.Codecs as car
use Rattle.car_codec.specs.Requests as car_plans
use Rattle.pipe_spec.specs.Histories.{Happening, joined, ported, moment, draws}
use Rattle.pipe_spec.specs.Numbers.{behind}
use Rattle.pipe_spec.specs.Runs.{IsRun}
use Rattle.pipe_spec.specs.Turns.{Station, MayCome}
use Rattle.pipe_laws.specs.OneMessage.{IsShort}
use Rattle.pair_ends.specs.Tallies.{post_nothing}
use Rattle.pair_talk.specs.Keeping.{IsPostAt}
use Rattle.pair_talk.specs.Sides.{Sides}

-- a pair of these plans to which nothing has happened
pub record IsNew (site : SitePlan) (plan : CarPlan) (seed : ℕ) (s : Sides) : Type 0 where
  pub others : List PostPlan
  pub first : site.post.items ≡ s.post.plan ∷ others
  pub rules : IsPlan s.post.plan
  pub post_is : s.post.post ≡ fresh
  pub limit_is : s.post.limit ≡ site.limit
  pub charger_is : s.post.charger ≡ idle s.post.plan.free
  pub tally_is : s.post.tally ≡ post_nothing
  pub plan_is : s.car.plan ≡ ported (joined plan)
  pub car_rules : car_plans.IsPlan s.car.plan
  pub moment_is : s.moment ≡ 0
  pub number_is : s.number ≡ seed
  pub turns_are : s.turns ≡ site.turns
  pub few : s.turns ≤ 4294967296

-- the next car has this plan
pub record Awaits (c : Codecs) (cc : car.Codecs) (st : Station) (plan : CarPlan) (h : List Happening) (s : Sides) : Type 0 where
  pub run : IsRun c cc st h
  pub short : AllByRecursion (IsShort 1032) h
  pub may : MayCome st h
  pub post : IsPostAt st h s.post
  pub plan_is : s.car.plan ≡ ported (joined plan)
  pub moment_is : s.moment ≡ moment h
  pub number_is : s.number ≡ behind st.seed (draws h)
  pub turns_is : s.turns ≡ st.turns
