-- IEC 61851-23: from the cable check to the end of charging the isolation has to be valid. A post that reads a word there has a valid one.
use Rattle.std.specs.Prelude.{◌≡◌, true, List, ◌∷◌, ◌++◌, Option, Some, None, ◌⊎◌}
use Rattle.charge_world.specs.declared.entry.Entry.{Entry}
use Rattle.charge_world.specs.declared.heard.IsolationLevel.{IsolationLevel}
use Rattle.charge_world.specs.declared.heard.PlantEvent.{PlantEvent}
use Rattle.charge_world.specs.declared.heard.PlantEvent.TheVariants as plant
use Rattle.session_words.specs.declared.plan.SitePlan.{SitePlan}
use Rattle.session_rules.specs.Causes.{needs_isolation}
use Rattle.session_rules.specs.Finishing.{is_valid}
use Rattle.post_spec.specs.Codecs.{Codecs}
use Rattle.post_spec.specs.Steps.{Event, Came, Plant}
use Rattle.station_spec.specs.States.{Part, Wording, Session, State, is_done}
use Rattle.station_spec.specs.Deciding.{decided}
use Rattle.station_spec.specs.Sharing.{Post, state_of}
use Rattle.station_spec.specs.Runs.{IsRun}

-- in a row that needs a valid isolation, a session has one
abbrev pub IsIsolated : Option Session → Option IsolationLevel → Type 0
IsIsolated None level = Unit {0}
IsIsolated (Some session) level = needs_isolation session.stage.row ≡ true → is_valid level ≡ true

-- what was heard may take it away: a connection, or the level that is told
abbrev pub Tells : PlantEvent → Option IsolationLevel → Type 0
Tells (plant.Isolation told) level = level ≡ Some told
Tells other level = ⊥

abbrev pub TakesAway : Event → Option IsolationLevel → Type 0
TakesAway (Came token) level = Unit {0}
TakesAway (Plant event) level = Tells event level
TakesAway other level = ⊥

-- it is judged in the third part of a hearing
abbrev pub IsPending : Part → Event → Option IsolationLevel → Type 0
IsPending Wording event level = ⊥
IsPending earlier event level = TakesAway event level

-- A session that has no cause to end: its isolation is valid, or what was heard is still to be judged
abbrev pub KeepsIsolation : State → Type 0
KeepsIsolation s = s.agenda.ending ≡ None → IsPending s.part s.event s.facts.isolation ⊎ IsIsolated s.session s.facts.isolation

-- what was heard was judged, once all that was decided is done
abbrev pub HasJudged : State → Type 0
HasJudged s = is_done s.agenda ≡ true → IsIsolated s.session s.facts.isolation

-- so does each post, behind any past of a run
abbrev pub RunsKeepIsolation : Codecs → Type 0
RunsKeepIsolation c = (site : SitePlan) (past : List Entry) (posts before : List Post) (post : Post) (behind : List Post)
    → IsRun c site past posts → posts ≡ before ++ post ∷ behind → KeepsIsolation (state_of post)

-- and where it reads a word, and is quiet, its isolation is valid
abbrev pub RunsReadIsolated : Codecs → Type 0
RunsReadIsolated c = (site : SitePlan) (past : List Entry) (posts before : List Post) (post : Post) (behind : List Post)
    → IsRun c site past posts → posts ≡ before ++ post ∷ behind → HasJudged (decided post.plan (state_of post))
