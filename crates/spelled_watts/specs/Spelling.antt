-- Own: the watts that the last replies of all posts spell, read off their bytes, stay within the limit of the site.
use Rattle.std.specs.Prelude.{◌≡◌, ◌≤◌, ℕ, suc, List, [], ◌∷◌, ◌++◌, sum}
use Rattle.charge_world.specs.declared.entry.Entry.{Entry}
use Rattle.charge_world.specs.declared.offer.Dialect.{Dialect}
use Rattle.session_words.specs.declared.plan.SitePlan.{SitePlan}
use Rattle.session_words.specs.declared.word.Request.{Request}
use Rattle.post_spec.specs.Codecs.{Codecs, Asked}
use Rattle.post_spec.specs.Spelled.{IsSpelled, ReadsBack, AreDetermined}
use Rattle.post_spec.specs.Steps.{seen}
use Rattle.station_spec.specs.Sharing.{Post}
use Rattle.station_spec.specs.Runs.{IsRun, Closes}

-- the watts that each post spells, from number k on
abbrev pub AreSpelled : Codecs → List Entry → ℕ → List Post → List ℕ → Type 0
AreSpelled c past k [] watts = watts ≡ []
AreSpelled c past k (post ∷ posts) [] = ⊥
AreSpelled c past k (post ∷ posts) (n ∷ watts) = IsSpelled c post.plan (seen k past) n × AreSpelled c past (suc k) posts watts

-- the first payload of a session is never a request of a dialect, as it is read in the schema of the negotiation
abbrev pub NegotiatesFirst : Codecs → Type 0
NegotiatesFirst c = (offers : List Dialect) (payload : List ℕ) (request : Request) → c.Negotiates offers payload (Asked request) → ⊥

-- each post spells watts, and together they are within the limit
pub record SpellsWithin (c : Codecs) (limit : ℕ) (past : List Entry) (posts : List Post) : Type 0 where
  pub watts : List ℕ
  pub are : AreSpelled c past 1 posts watts
  pub within : sum watts ≤ limit

-- after every entry of a run
abbrev pub RunsSpellWithin : Codecs → Type 0
RunsSpellWithin c = (site : SitePlan) (past : List Entry) (posts : List Post) → ReadsBack c → NegotiatesFirst c → IsRun c site past posts
    → SpellsWithin c site.limit past posts

-- and behind each entry of a past, before the first, and behind each of the orders that close it
abbrev pub FrontsSpellWithin : Codecs → Type 0
FrontsSpellWithin c = (site : SitePlan) (past blocks : List Entry) (posts : List Post) → ReadsBack c → NegotiatesFirst c
    → IsRun c site blocks posts → Closes 1 posts blocks past
    → (newer front : List Entry) → past ≡ newer ++ front → SpellsWithin c site.limit front posts

-- a past spells one list of watts
abbrev pub AreSpelledOnce : Codecs → Type 0
AreSpelledOnce c = (past : List Entry) (posts : List Post) (watts others : List ℕ) → AreDetermined c
    → AreSpelled c past 1 posts watts → AreSpelled c past 1 posts others → watts ≡ others
