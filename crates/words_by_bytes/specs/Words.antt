-- ISO 15118-2:2014, section 7.8.3: behind a whole block each word of a session is read.
use Rattle.std.specs.Prelude.{◌≡◌, ◌+◌, List, [], ◌∷◌, ◌++◌, length, Some}
use Rattle.charge_world.specs.declared.entry.Entry.{Entry}
use Rattle.session_words.specs.declared.plan.PostPlan.{PostPlan}
use Rattle.session_words.specs.declared.plan.SitePlan.{SitePlan}
use Rattle.post_spec.specs.Codecs.{Codecs}
use Rattle.post_spec.specs.Sessions.{session, stream, brought}
use Rattle.post_spec.specs.Steps.{Seen, Heard, Did, seen}
use Rattle.post_spec.specs.Words.{HeardWord, Words, next_words}
use Rattle.station_spec.specs.Sharing.{Post}
use Rattle.station_spec.specs.Runs.{Rests, IsRun}

-- no word is next, however the payloads are judged
abbrev pub NoneIsNext : Codecs → PostPlan → List Seen → Type 0
NoneIsNext c plan past = (es : List Seen) (words : List HeardWord) → session past ≡ Some es
    → Words c plan.dialects.items (stream es) words → next_words es words ≡ []

-- behind each block, which a hearing ends, and behind a hearing that brings no bytes
abbrev pub AreRead : Codecs → PostPlan → List Seen → Type 0
AreRead c plan [] = Unit {0}
AreRead c plan (Heard at event ∷ past) =
    AreRead c plan past × NoneIsNext c plan past × (brought event ≡ [] → NoneIsNext c plan (Heard at event ∷ past))
AreRead c plan (Did act taken ∷ past) = AreRead c plan past

-- in every run, of each post; and where the last block is whole, behind it too
abbrev pub RunsReadWords : Codecs → Type 0
RunsReadWords c = (site : SitePlan) (past : List Entry) (posts before : List Post) (post : Post) (behind : List Post)
    → IsRun c site past posts → posts ≡ before ++ post ∷ behind
    → AreRead c post.plan (seen (length before + 1) past)
    × (Rests post → NoneIsNext c post.plan (seen (length before + 1) past))
