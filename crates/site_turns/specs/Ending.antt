-- Own: how the serving of a site ends, and what its past and its trace are then.
use Rattle.std.specs.Prelude.{◌≡◌, ◌<◌, ℕ, ◌+◌, true, false, List, All, length, map, Some}
use Rattle.charge_world.specs.declared.entry.Entry.{Entry}
use Rattle.charge_world.specs.declared.entry.Entry.TheVariants as entry
use Rattle.charge_world.specs.declared.heard.Heard.{Heard}
use Rattle.session_words.specs.declared.plan.SitePlan.{SitePlan}
use Rattle.session_words.specs.Plans.{IsSitePlan}
use Rattle.post_spec.specs.Codecs.{Codecs}
use Rattle.post_spec.specs.Steps.{seen}
use Rattle.station_spec.specs.Blocks.{is_last, is_over, hearings}
use Rattle.station_spec.specs.Report.{sessions, closed, causes}
use Rattle.station_spec.specs.Runs.{unheard, IsSiteRun, IsCutRun}
use Rattle.station_spec.specs.Until.{AreUntils}
use Rattle.site_codec.specs.Replies.{IsPlan}
use Rattle.site_posts.specs.declared.place.Place.{Place}
use Rattle.site_posts.specs.declared.report.PostReport.{PostReport}
use Rattle.site_posts.specs.Filling.{at}
use Rattle.site_posts.specs.Places.{capped, place_of}
use Rattle.endpoint.specs.Knowing.{newest}
use Rattle.endpoint.specs.Telling.{HasClosing}
use Rattle.end_turns.specs.declared.ending.Ended.{Ended}
use Rattle.end_turns.specs.declared.ending.Ended.TheVariants as ended
pub use Rattle.end_turns.specs.Ending.{TracedAs, AreFaults}

-- the posts of a site that was made by a plan within its rules, and heard nothing yet
pub record AreMadeOf (plan : SitePlan) (places : List Place) (limit turns : ℕ) : Type 0 where
  pub places_are : places ≡ map place_of (map unheard plan.post.items)
  pub limit_is : limit ≡ plan.limit
  pub turns_is : turns ≡ plan.turns
  pub rules : IsSitePlan plan
  pub amounts : All (λ p. IsPlan p.plan) places

abbrev pub AreMade : List Place → ℕ → ℕ → Type 0
AreMade places limit turns = (plan : SitePlan) × AreMadeOf plan places limit turns

-- how serving ended, by the past: what was heard last, and how often
abbrev pub EndedAs : ℕ → Ended → List Entry → Type 0
EndedAs turns ended.Over past = (heard : Heard) × (bytes : List ℕ) × (newest past ≡ Some (entry.Heard heard bytes)) × (is_over heard.what ≡ true)
EndedAs turns ended.Lost past = newest past ≡ Some entry.Lost
EndedAs turns ended.TraceFault past = Unit {0}
EndedAs turns ended.Turns past = (hearings past ≡ turns) × (is_last past ≡ false)

-- the past is a whole run of the site, but where a line of the trace couldn't be written
abbrev pub RanAs : Codecs → SitePlan → Ended → List Entry → Type 0
RanAs c plan ended.Over past = IsSiteRun c plan past
RanAs c plan ended.Lost past = IsSiteRun c plan past
RanAs c plan ended.TraceFault past = IsCutRun c plan past
RanAs c plan ended.Turns past = IsSiteRun c plan past

-- until when each hearing waited, the newest first. Behind the last one are the orders by which serving ends
pub record AwaitedAs (c : Codecs) (plan : SitePlan) (untils : List ℕ) (past : List Entry) : Type 0 where
  pub blocks : List Entry
  pub closing : HasClosing blocks past
  pub untils_are : AreUntils c plan blocks untils

-- a report counts the past of post k; a count stands still at the end of its type
pub record Counts (k : ℕ) (report : PostReport) (past : List Entry) : Type 0 where
  pub sessions_are : report.sessions ≡ capped (sessions (seen k past))
  pub closed_are : report.closed ≡ capped (closed (seen k past))
  pub causes_are : report.causes.0 ≡ causes (seen k past)

-- so of each post
abbrev pub AreCounts : List Place → List Entry → Type 0
AreCounts places past = (i : ℕ) → i < length places → Counts (i + 1) (at places i).report past
