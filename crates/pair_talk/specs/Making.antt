-- Own: a post that was just made.
use Rattle.std.specs.Prelude.{◌≡◌, ℕ}
use Rattle.session_words.specs.declared.plan.PostPlan.{PostPlan}
use Rattle.plant_sim.specs.Charger.{idle}
use Rattle.station_spec.specs.States.{fresh}
use Rattle.site_codec.specs.Replies.{IsPlan}
use Rattle.pair_ends.specs.Ends.{PostSide}
use Rattle.pair_ends.specs.Tallies.{post_nothing}

pub record IsNewPost (plan : PostPlan) (limit : ℕ) (p : PostSide) : Type 0 where
  pub plan_is : p.plan ≡ plan
  pub rules : IsPlan p.plan
  pub post_is : p.post ≡ fresh
  pub limit_is : p.limit ≡ limit
  pub charger_is : p.charger ≡ idle plan.free
  pub tally_is : p.tally ≡ post_nothing
