-- Own: there is at most one list of posts behind a foreign trace.
use Rattle.std.specs.Prelude.{◌≡◌, List}
use Rattle.charge_world.specs.declared.entry.Entry.{Entry}
use Rattle.session_words.specs.declared.plan.SitePlan.{SitePlan}
use Rattle.told_pasts.specs.Site.{ToldPost, ArePosts}
use Rattle.told_pasts.specs.Spelling.{ToldCodecs}

abbrev pub PostsAreOne : ToldCodecs → Type 0
PostsAreOne c = (site : SitePlan) (past : List Entry) (a b : List ToldPost) → ArePosts c site past a → ArePosts c site past b → a ≡ b
