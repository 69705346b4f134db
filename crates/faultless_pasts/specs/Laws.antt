-- Own: what holds of the watts of any foreign trace.
use Rattle.std.specs.Prelude.{◌≤◌, List}
use Rattle.std.specs.List.{sum_by}
use Rattle.charge_world.specs.declared.entry.Entry.{Entry}
use Rattle.session_words.specs.declared.plan.SitePlan.{SitePlan}
use Rattle.told_pasts.specs.Site.{ToldPost, told_of, ArePosts}
use Rattle.told_pasts.specs.Spelling.{ToldCodecs}

-- those that the posts were told last stay within the limit together
abbrev pub ToldWithin : ToldCodecs → Type 0
ToldWithin c = (site : SitePlan) (past : List Entry) (posts : List ToldPost) → ArePosts c site past posts → sum_by told_of posts ≤ site.limit
