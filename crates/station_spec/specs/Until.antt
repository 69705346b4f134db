-- Own: until when a site waits for its next hearing.
use Rattle.std.specs.Prelude.{◌≡◌, ℕ, min, fold, List, [], ◌∷◌, map, Option, Some, None}
use Rattle.charge_world.specs.declared.entry.Entry.{Entry}
use Rattle.charge_world.specs.declared.entry.Entry.TheVariants as entry
use Rattle.session_words.specs.declared.plan.SitePlan.{SitePlan}
use Rattle.session_timers.specs.Due.{never}
use Rattle.post_spec.specs.Codecs.{Codecs}
use Rattle.station_spec.specs.States.{Session, State}
use Rattle.station_spec.specs.Deciding.{due}
use Rattle.station_spec.specs.Hearing.{session_opened}
use Rattle.station_spec.specs.Sharing.{Post, state_of}
use Rattle.station_spec.specs.Runs.{IsRun}

-- when a post is due, with the session that stands behind the newest block
abbrev pub due_in : Option Session → ℕ
due_in None = never
due_in (Some session) = due session

abbrev pub due_behind : State → ℕ
due_behind s = due_in (session_opened s.arrived s.clock s.session)

abbrev pub due_of : Post → ℕ
due_of post = due_behind (state_of post)

-- the least of the moments at which the posts are due, at most 2^64 - 1
abbrev pub until : List Post → ℕ
until posts = fold min never (map due_of posts)

-- the moment that each hearing of a run waited for, the newest first
abbrev pub AwaitedBy : Entry → List Post → List ℕ → List ℕ → Type 0
AwaitedBy (entry.Heard heard bytes) posts earlier untils = untils ≡ until posts ∷ earlier
AwaitedBy entry.Lost posts earlier untils = untils ≡ until posts ∷ earlier
AwaitedBy (entry.Sent post bytes taken) posts earlier untils = untils ≡ earlier
AwaitedBy (entry.Answered post bytes taken) posts earlier untils = untils ≡ earlier
AwaitedBy (entry.Drove post order taken) posts earlier untils = untils ≡ earlier
AwaitedBy (entry.Dialed port taken) posts earlier untils = untils ≡ earlier
AwaitedBy (entry.Ended post cause) posts earlier untils = untils ≡ earlier

abbrev pub AreUntils : Codecs → SitePlan → List Entry → List ℕ → Type 0
AreUntils c site [] untils = untils ≡ []
AreUntils c site (e ∷ past) untils =
    (posts : List Post) × (earlier : List ℕ) × IsRun c site past posts × AreUntils c site past earlier × AwaitedBy e posts earlier untils
