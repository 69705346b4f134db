-- Own: without a session nothing is sent on the connection, and nothing ends.
use Rattle.std.specs.Prelude.{◌≡◌, ◌+◌, List, [], ◌∷◌, ◌++◌, length, IsSome}
use Rattle.charge_world.specs.declared.entry.Entry.{Entry}
use Rattle.session_words.specs.declared.plan.SitePlan.{SitePlan}
use Rattle.post_spec.specs.Codecs.{Codecs}
use Rattle.post_spec.specs.Sessions.{session}
use Rattle.post_spec.specs.Steps.{Act, Give, Send, Answer, End, Seen, Heard, Did, seen}
use Rattle.station_spec.specs.Sharing.{Post}
use Rattle.station_spec.specs.Runs.{IsRun}

-- an act that is a session's
abbrev pub InSession : Act → List Seen → Type 0
InSession (Send bytes) earlier = IsSome (session earlier)
InSession (End cause) earlier = IsSome (session earlier)
InSession (Give order) earlier = Unit {0}
InSession (Answer bytes) earlier = Unit {0}

abbrev pub IsSilent : List Seen → Type 0
IsSilent [] = Unit {0}
IsSilent (Heard at event ∷ earlier) = IsSilent earlier
IsSilent (Did act taken ∷ earlier) = IsSilent earlier × InSession act earlier

-- in every run, of each post
abbrev pub RunsAreSilent : Codecs → Type 0
RunsAreSilent c = (site : SitePlan) (past : List Entry) (posts before : List Post) (post : Post) (behind : List Post)
    → IsRun c site past posts → posts ≡ before ++ post ∷ behind → IsSilent (seen (length before + 1) past)
