-- Own: where it can be told whether a post is mandated to close.
use Rattle.std.specs.Prelude.{ℕ, List, ◌⊎◌}
use Rattle.charge_world.specs.declared.entry.Entry.{Entry}
use Rattle.session_words.specs.declared.plan.SitePlan.{SitePlan}
use Rattle.told_pasts.specs.Site.{ToldPost, IsPostOf}
use Rattle.told_pasts.specs.Spelling.{ToldCodecs}
use Rattle.faultless_pasts.specs.Faultless.{TellsMandated}
use Rattle.audit_mandates.specs.Values.{Starts}

-- it can be told whether PowerDelivery Start is the first word without a reply
abbrev pub TellsStarts : ToldCodecs → SitePlan → Type 0
TellsStarts c site = (past : List Entry) (k : ℕ) (post : ToldPost) → IsPostOf c site past k post
    → Starts c post.plan post.steps ⊎ (Starts c post.plan post.steps → ⊥)

-- that is all that it takes
abbrev pub StartsTell : ToldCodecs → Type 0
StartsTell c = (site : SitePlan) → TellsStarts c site → TellsMandated c site
