-- Own: what the command `station` leaves on the wire, on the trace and on the output, once its plan was read.
use Rattle.std.specs.Prelude.{◌≡◌, ◌⊎◌, ℕ, List, [], length, Option, Some}
use Rattle.charge_world.specs.declared.entry.Entry.{Entry}
use Rattle.charge_world.specs.declared.ports.Ports.{Ports}
use Rattle.charge_world.specs.Outside.{Grows}
use Rattle.session_words.specs.declared.plan.SitePlan.{SitePlan}
use Rattle.post_spec.specs.Codecs.{Codecs}
use Rattle.endpoint.specs.Telling.{Carries, CarriesText}
use Rattle.site_posts.specs.declared.report.PostReport.{PostReport}
use Rattle.site_laws.specs.Ended.{Ended}
use Rattle.site_laws.specs.Ending.{RanAs, EndedAs, AwaitedAs, TracedAs}
use Rattle.site_laws.specs.Lawful.{IsLawful}
use Rattle.command_status.specs.declared.status.Status.{Status}
use Rattle.command_status.specs.declared.status.Status.TheVariants as status
use Rattle.command_status.specs.FaultLines.{Tells, wire_line}
use Rattle.command_status.specs.Told.{SinkTold}
use Rattle.station_command.specs.Ports.{ports_of}
use Rattle.station_command.specs.Lines.{CountFrom, Concludes}

-- what a wire tells
pub record WireTold : Type 0 where
  pub past : Option (List Entry)
  pub untils : List ℕ
  pub started : Option Ports

abbrev pub wire_told : Option (List Entry) → List ℕ → Option Ports → WireTold
wire_told past untils started = record { past = past; untils = untils; started = started }

-- the wire did not start: nothing was heard, and no trace written
pub record IsUnstarted (s : Status) (before after : WireTold) (trace_before trace : Option (List ℕ)) (out_before out : SinkTold) : Type 0 where
  pub status_is : s ≡ status.WireFault
  pub nothing_heard : Grows before.past after.past []
  pub nothing_written : trace ≡ trace_before
  pub line : Tells out_before.taken out.taken out_before.faults out.faults wire_line

-- The site was served. Where the wire tells its past, and was lent with an empty one, that is a run of the plan, which ended so, and it is
-- lawful: safe, within the limit, and silent without a session, it serves the cars that conform, and isolates the posts; the trace is its text,
-- where it was empty; each `until` is that of the past before it, where there was none; and the lines count it, each a post.
pub record WasServed (c : Codecs) (plan : SitePlan) (s : Status) (before after : WireTold) (trace_before trace : Option (List ℕ)) (out_before out : SinkTold) : Type 0 where
  pub how : Ended
  pub run : Carries before.past after.past (λ past. past ≡ []) (RanAs c plan how)
  pub lawful : Carries before.past after.past (λ past. past ≡ []) (IsLawful c plan)
  pub ended : Carries before.past after.past (λ past. past ≡ []) (EndedAs plan.turns how)
  pub traced : CarriesText before.past after.past trace_before trace (λ past text. (past ≡ []) × (text ≡ [])) (TracedAs how)
  pub awaited : Carries before.past after.past (λ past. (past ≡ []) × (before.untils ≡ [])) (AwaitedAs c plan after.untils)
  pub reports : List PostReport
  pub each_post : length reports ≡ length plan.post.items
  pub counts : Carries before.past after.past (λ past. past ≡ []) (CountFrom 1 reports)
  pub lines : Concludes how reports s out_before.taken out.taken out_before.faults out.faults

-- the wire was started with the ports of the plan, and the site served if it did
pub record Serves (c : Codecs) (plan : SitePlan) (s : Status) (before after : WireTold) (trace_before trace : Option (List ℕ)) (out_before out : SinkTold) : Type 0 where
  pub ports : after.started ≡ Some (ports_of plan)
  pub served : IsUnstarted s before after trace_before trace out_before out ⊎ WasServed c plan s before after trace_before trace out_before out

-- the statuses behind a start
abbrev pub IsBegun : Status → Type 0
IsBegun status.Done = Unit {0}
IsBegun status.WireFault = Unit {0}
IsBegun status.SinkFault = Unit {0}
IsBegun status.TurnsSpent = Unit {0}
IsBegun _ = ⊥

-- those before it
abbrev pub IsUnbegun : Status → Type 0
IsUnbegun status.NoMemory = Unit {0}
IsUnbegun status.Plan = Unit {0}
IsUnbegun status.SourceFault = Unit {0}
IsUnbegun _ = ⊥
