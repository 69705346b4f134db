-- Own: what is told of a wire, for proofs alone.
use Rattle.std.specs.Prelude.{◌≡◌, ℕ, ◌+◌, false, if◌then◌else◌, List, ◌∷◌}
use Rattle.charge_world.specs.declared.entry.Entry.{Entry}
use Rattle.charge_world.specs.declared.entry.Entry.TheVariants as entry
use Rattle.trace_text.specs.Noted.{entry_of}
use Rattle.trace_text.specs.Pasts.{is_hearing}
use Rattle.replay_wire.specs.Replays.{Follows}
use Rattle.replay_wire.specs.declared.told.Step.{Step}
use Rattle.replay_wire.specs.declared.told.Step.TheVariants as step

-- the past and the `untils`, the newest first, and how many calls failed
pub record Telling : Type 0 where
  pub past : List Entry
  pub untils : List ℕ
  pub faults : ℕ

-- an entry of a call that failed counts one
abbrev pub faults_of : Entry → ℕ
faults_of (entry.Heard heard bytes) = 0
faults_of entry.Lost = 1
faults_of (entry.Sent post bytes taken) = if taken then 0 else 1
faults_of (entry.Answered post bytes taken) = if taken then 0 else 1
faults_of (entry.Drove post order taken) = if taken then 0 else 1
faults_of (entry.Dialed port taken) = if taken then 0 else 1
faults_of (entry.Ended post cause) = 0

abbrev pub with_entry : Telling → Entry → Telling
with_entry t e = record { past = e ∷ t.past; untils = t.untils; faults = faults_of e + t.faults }

abbrev pub with_hearing : Telling → Entry → ℕ → Telling
with_hearing t e until = record { past = e ∷ t.past; untils = until ∷ t.untils; faults = faults_of e + t.faults }

abbrev pub told_behind : Telling → Step → Telling
told_behind t (step.Heard noted until) = with_hearing t (entry_of noted) until
told_behind t (step.Did noted) = with_entry t (entry_of noted)
told_behind t step.Refused = record { past = t.past; untils = t.untils; faults = 1 + t.faults }

-- a call that comes where so much is left of a trace
abbrev pub IsCallOf : List Entry → List Entry → Step → Type 0
IsCallOf trace left (step.Did noted) = (is_hearing (entry_of noted) ≡ false) × Follows trace left (entry_of noted)
IsCallOf trace left (step.Heard noted until) = ⊥
IsCallOf trace left step.Refused = ⊥
