-- Own: a past has one next entry, but for what is heard and for outcomes.
use Rattle.std.specs.Prelude.{◌≡◌, Bool, true, List, map, Option, Some, None}
use Rattle.charge_world.specs.declared.entry.Entry.{Entry}
use Rattle.charge_world.specs.declared.entry.Entry.TheVariants as entry
use Rattle.session_words.specs.declared.plan.SitePlan.{SitePlan}
use Rattle.post_spec.specs.Codecs.{Codecs}
use Rattle.post_spec.specs.Spelled.{AreDetermined}
use Rattle.station_spec.specs.Sharing.{Post}
use Rattle.station_spec.specs.Runs.{MayHear, MayAct, IsRun}

-- whether a call was taken; the end of a session always is
abbrev pub outcome : Entry → Bool
outcome (entry.Sent post bytes taken) = taken
outcome (entry.Answered post bytes taken) = taken
outcome (entry.Drove post order taken) = taken
outcome (entry.Dialed port taken) = taken
outcome (entry.Ended post cause) = true
outcome (entry.Heard heard bytes) = true
outcome entry.Lost = true

pub record IsDetermined (c : Codecs) (site : SitePlan) (past : List Entry) (posts : List Post) : Type 0 where
  -- with one outcome there is one act, and it makes one thing of the posts
  pub acts : (e e' : Entry) (later later' : List Post) → MayAct c site.limit posts e later → MayAct c site.limit posts e' later' → outcome e ≡ outcome e' → (e ≡ e') × (later ≡ later')
  -- one hearing makes one thing of the posts
  pub hears : (e : Entry) (later later' : List Post) → MayHear site.turns past posts e later → MayHear site.turns past posts e later' → later ≡ later'
  -- where something is to be done nothing is heard
  pub apart : (e e' : Entry) (later later' : List Post) → MayHear site.turns past posts e later → MayAct c site.limit posts e' later' → ⊥

abbrev pub RunsAreDetermined : Codecs → Type 0
RunsAreDetermined c = (site : SitePlan) (past : List Entry) (posts : List Post) → AreDetermined c → IsDetermined c site past posts

-- what was heard, in a hearing
abbrev pub heard_in : Entry → Option Entry
heard_in (entry.Heard heard bytes) = Some (entry.Heard heard bytes)
heard_in entry.Lost = Some entry.Lost
heard_in (entry.Sent post bytes taken) = None
heard_in (entry.Answered post bytes taken) = None
heard_in (entry.Drove post order taken) = None
heard_in (entry.Dialed port taken) = None
heard_in (entry.Ended post cause) = None

-- so the hearings and the outcomes of a run determine it
abbrev pub InputsDetermine : Codecs → Type 0
InputsDetermine c = (site : SitePlan) (past past' : List Entry) (posts posts' : List Post) → AreDetermined c → IsRun c site past posts → IsRun c site past' posts'
    → map heard_in past ≡ map heard_in past' → map outcome past ≡ map outcome past' → (past ≡ past') × (posts ≡ posts')
