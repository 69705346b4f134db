-- Own: what the posts of a plan are audited by. Each plan of a site is so (`IsSitePlan` of `session_words`).
use Rattle.std.specs.Prelude.{◌<◌, ◌≤◌, length, All}
use Rattle.session_words.specs.declared.plan.SitePlan.{SitePlan}

pub record IsPlan (site : SitePlan) : Type 0 where
  pub limit : site.limit < 32768000
  pub some : 1 ≤ length site.post.items
  pub few : length site.post.items ≤ 8
  pub nominal : All (λ post. 0 < post.nominal) site.post.items
