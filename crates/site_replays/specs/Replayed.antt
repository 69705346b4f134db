-- Own: what the replay of a trace by a site leaves.
use Rattle.std.specs.Prelude.{◌≡◌, ℕ, List, [], Option, IfSome, IsSomeAnd}
use Rattle.charge_world.specs.declared.entry.Entry.{Entry}
use Rattle.session_words.specs.declared.plan.SitePlan.{SitePlan}
use Rattle.post_spec.specs.Codecs.{Codecs}
use Rattle.site_core.specs.Ended.{Ended}
use Rattle.site_turns.specs.Ending.{EndedAs, RanAs, TracedAs}
use Rattle.replay_wire.specs.Replays.{IsReplayOf}
use Rattle.replay_wire.specs.Standing.{counted}

-- the text of the past was written to an empty sink, where that tells its bytes
abbrev pub IsWritten : Option (List ℕ) → Option (List ℕ) → (List ℕ → Type 0) → Type 0
IsWritten before after P = IfSome after (λ text. IsSomeAnd before (λ earlier. earlier ≡ [] → P text))

-- a run of the site that was heard off the recorded entries, the oldest first, and whose calls failed by their marks
pub record IsReplayed (c : Codecs) (plan : SitePlan) (recorded : List Entry) (before after : Option (List ℕ)) (how : Ended) (entries : ℕ) : Type 0 where
  pub past : List Entry
  pub run : RanAs c plan how past
  pub ended : EndedAs plan.turns how past
  pub replays : IsReplayOf recorded past
  pub written : IsWritten before after (TracedAs how past)
  pub count : entries ≡ counted past
