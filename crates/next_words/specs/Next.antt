-- ISO 15118-2:2014, section 7.8.3: the words of a session are read in the order in which they came, each once.
use Rattle.std.specs.Prelude.{◌≡◌, false, List, [], ◌∷◌, ◌++◌, map, Option, Some, None}
use Rattle.charge_world.specs.declared.entry.Entry.{Entry}
use Rattle.session_words.specs.declared.plan.PostPlan.{PostPlan}
use Rattle.session_words.specs.declared.plan.SitePlan.{SitePlan}
use Rattle.post_spec.specs.Codecs.{Judged, Codecs}
use Rattle.post_spec.specs.Sessions.{session, stream, waits}
use Rattle.post_spec.specs.Spelled.{ReadsBack, AreDetermined}
use Rattle.post_spec.specs.Steps.{Seen, Reading, Step, Hears, Does, seen_of}
use Rattle.post_spec.specs.Words.{HeardWord, Payload, Words, next_words}
use Rattle.station_spec.specs.Sharing.{Post}
use Rattle.station_spec.specs.Runs.{IsRun}

-- the next word of a session with these entries is a payload that is judged so, and no reply waits
pub record IsNext (es : List Seen) (words : List HeardWord) (judged : Judged) : Type 0 where
  pub goes_on : waits es ≡ false
  pub later : List HeardWord
  pub next_is : next_words es words ≡ Payload judged ∷ later

-- however the payloads behind it are judged
abbrev pub IsNextWord : Codecs → PostPlan → List Seen → Judged → Type 0
IsNextWord c plan past judged = (es : List Seen) (words : List HeardWord) → session past ≡ Some es
    → Words c plan.dialects.items (stream es) words → IsNext es words judged

abbrev pub IsReadNext : Codecs → PostPlan → List Seen → Option Reading → Type 0
IsReadNext c plan past None = Unit {0}
IsReadNext c plan past (Some reading) = IsNextWord c plan past reading.judged

-- what is read for an act is the next word of the past before it
abbrev pub AreReadInOrder : Codecs → PostPlan → List Step → Type 0
AreReadInOrder c plan [] = Unit {0}
AreReadInOrder c plan (Hears at event ∷ steps) = AreReadInOrder c plan steps
AreReadInOrder c plan (Does reading act taken ∷ steps) = AreReadInOrder c plan steps × IsReadNext c plan (map seen_of steps) reading

-- in every run, of each post
abbrev pub RunsReadInOrder : Codecs → Type 0
RunsReadInOrder c = (site : SitePlan) (past : List Entry) (posts before : List Post) (post : Post) (behind : List Post)
    → ReadsBack c → AreDetermined c → IsRun c site past posts → posts ≡ before ++ post ∷ behind → AreReadInOrder c post.plan post.steps
