-- Own: what no post keeps of an entry of a foreign trace.
use Rattle.std.specs.Prelude.{◌≡◌, ◌↔◌, ℕ, List, ◌∷◌, IsTrue}
use Rattle.std.specs.List.{list_any}
use Rattle.charge_world.specs.declared.entry.Entry.{Entry}
use Rattle.session_words.specs.declared.plan.PostPlan.{PostPlan}
use Rattle.session_words.specs.declared.plan.SitePlan.{SitePlan}
use Rattle.told_pasts.specs.Checks.{is_heard, IsNewest, EndsBlock, PassesLimit}
use Rattle.told_pasts.specs.Spelling.{ToldCodecs}
use Rattle.told_pasts.specs.Steps.{ToldStep}
use Rattle.audit_causes.specs.Values.{opens_alone}
use Rattle.audit_checks.specs.Around.{WritesSo}
use Rattle.audited_posts.specs.declared.checks.Place.{Place}

-- the place of an entry behind which post k went these steps, and this follows
pub record IsPlace (c : ToldCodecs) (site : SitePlan) (plan : PostPlan) (k : ℕ) (earlier : List Entry) (e : Entry) (behind : List Entry) (after : List ToldStep) (v : Place) : Type 0 where
  pub begun_is : v.begun ≡ list_any is_heard earlier
  pub ends_is : IsTrue v.ends ↔ EndsBlock behind (e ∷ earlier)
  pub last_is : IsTrue v.last ↔ IsNewest behind
  pub alone_is : v.alone ≡ opens_alone k (e ∷ earlier)
  pub writes_is : WritesSo plan after v.writes
  pub above_is : IsTrue v.above ↔ PassesLimit c site earlier e
