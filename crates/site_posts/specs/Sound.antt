-- Own: what holds of each post whatever it heard, so that its codec can spell each of its replies, and that its isolation is valid where a row needs it.
use Rattle.std.specs.Prelude.{◌≡◌, ◌≤◌, ℕ, List, length, Option, Some, None, Contains, ◌⊎◌}
use Rattle.charge_world.specs.declared.offer.Dialect.{Dialect}
use Rattle.session_words.specs.declared.phase.Phase.TheVariants as row
use Rattle.session_words.specs.declared.plan.PostPlan.{PostPlan}
use Rattle.session_words.specs.declared.word.Word.{Word}
use Rattle.session_rules.specs.declared.stage.Stage.{Stage}
use Rattle.station_spec.specs.States.{Spoken, Response, Said, Session, State}
use Rattle.valid_isolation.specs.Isolated.{KeepsIsolation}
use Rattle.site_codec.specs.Replies.{AreFacts, IsGiven}

-- once a dialect was chosen, it is one of the plan's
abbrev pub IsOffered : PostPlan → Stage → Type 0
IsOffered plan stage = (stage.row ≡ row.Connected) ⊎ Contains plan.dialects.items stage.dialect

pub record IsSoundSession (plan : PostPlan) (session : Session) : Type 0 where
  pub told : session.stage.told ≤ 1000000
  pub asked : session.asked ≤ 1000000
  pub offered : IsOffered plan session.stage

abbrev pub IsSoundIn : PostPlan → Option Session → Type 0
IsSoundIn plan None = Unit {0}
IsSoundIn plan (Some session) = IsSoundSession plan session

-- what is to be sent can be spelled
abbrev pub CanSay : (Dialect → List ℕ → Option Word → Type 0) → Option Spoken → Type 0
CanSay Reads None = Unit {0}
CanSay Reads (Some (Response payload)) = length payload ≤ 4
CanSay Reads (Some (Said dialect reply)) = IsGiven Reads dialect reply

pub record IsSound (Reads : Dialect → List ℕ → Option Word → Type 0) (plan : PostPlan) (s : State) : Type 0 where
  pub facts : AreFacts s.facts
  pub session : IsSoundIn plan s.session
  pub reply : CanSay Reads s.agenda.reply
  pub isolation : KeepsIsolation s
