-- Own: a trace that a station wrote whole is written to itself by a replay under its plan.
use Rattle.std.specs.Prelude.{◌≡◌, ◌≢◌, ℕ, List, [], length, Option}
use Rattle.charge_world.specs.declared.entry.Entry.{Entry}
use Rattle.session_words.specs.declared.plan.SitePlan.{SitePlan}
use Rattle.session_words.specs.Plans.{IsSitePlan}
use Rattle.post_spec.specs.Codecs.{Codecs}
use Rattle.station_spec.specs.Runs.{IsSiteRun}
use Rattle.station_command.specs.Ended.{Ended}
use Rattle.station_command.specs.Ended.TheVariants as ended
use Rattle.trace_reading.specs.declared.format.Format.TheVariants.{Numbered}
use Rattle.trace_reading.specs.Readings.{IsGood, text_in}
use Rattle.trace_files.specs.Recordings.{IsRecorded}
use Rattle.site_replays.specs.Replayed.{IsReplayed, IsWritten}

-- the text of a whole run of the plan's posts, in which something was heard
pub record IsWhole (c : Codecs) (plan : SitePlan) (past : List Entry) (text : List ℕ) : Type 0 where
  pub run : IsSiteRun c plan past
  pub heard : past ≢ []
  pub good : IsGood Numbered (length plan.post.items) past
  pub text_is : text ≡ text_in Numbered past

-- it is recorded, and then replayed, and each line of the replay was written
abbrev pub WritesItself : Codecs → Type 0
WritesItself c = (plan : SitePlan) (past recorded : List Entry) (text : List ℕ) (before after : Option (List ℕ)) (how : Ended) (entries : ℕ)
    → IsSitePlan plan → IsWhole c plan past text → IsRecorded (length plan.post.items) text recorded
    → IsReplayed c plan recorded before after how entries → how ≢ ended.TraceFault → IsWritten before after (λ written. written ≡ text)
