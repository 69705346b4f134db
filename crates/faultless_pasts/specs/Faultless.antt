-- IEC 61851-1 and IEC 61851-23; ISO 15118-2:2014, section 8.8: what a trace is in which no check fails.
use Rattle.std.specs.Prelude.{ℕ, Bool, List, Option, ◌⊎◌}
use Rattle.charge_world.specs.declared.entry.Entry.{Entry}
use Rattle.charge_world.specs.declared.offer.Dialect.{Dialect}
use Rattle.session_words.specs.declared.plan.SitePlan.{SitePlan}
use Rattle.session_words.specs.declared.word.Reply.{Reply}
use Rattle.session_words.specs.declared.word.Word.{Word}
use Rattle.post_spec.specs.Codecs.{Judged, codecs}
use Rattle.told_pasts.specs.Faults.{IsFaultless}
use Rattle.told_pasts.specs.Mandated.{IsMandated}
use Rattle.told_pasts.specs.Safe.{IsSafe, IsWithin}
use Rattle.told_pasts.specs.Site.{ToldPost, IsPostOf}
use Rattle.told_pasts.specs.Spelling.{SpelledWatts, ToldCodecs}

-- the codecs of these five
abbrev pub told_codecs : (List Dialect → List ℕ → Judged → Type 0) → (Dialect → List ℕ → Option Word → Type 0) → (Dialect → Reply → List ℕ → Type 0)
    → (List ℕ → Bool → Type 0) → (Dialect → List ℕ → SpelledWatts → Type 0) → ToldCodecs
told_codecs negotiates reads encodes responds watts = record { words = codecs negotiates reads encodes; Responds = responds; Watts = watts }

-- it can be told whether a post is mandated to close
abbrev pub TellsMandated : ToldCodecs → SitePlan → Type 0
TellsMandated c site = (past : List Entry) (k : ℕ) (post : ToldPost) → IsPostOf c site past k post
    → IsMandated c post.plan post.steps ⊎ (IsMandated c post.plan post.steps → ⊥)

-- where that is so, no failed check says that a past is safe and within the limit
abbrev pub FaultlessIsSafe : ToldCodecs → Type 0
FaultlessIsSafe c = (site : SitePlan) (past : List Entry) → TellsMandated c site → IsFaultless c site past → IsSafe c site past × IsWithin c site past
