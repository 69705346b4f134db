-- Own: what a replay's wire keeps.
use Rattle.std.specs.Prelude.{◌≡◌, ℕ, ◌≤◌, min, List, drop, length, Option}
use Rattle.charge_world.specs.declared.entry.Entry.{Entry}
use Rattle.charge_world.specs.declared.ports.Ports.{Ports}
use Rattle.replay_wire.specs.Replays.{left_behind, last_moment, IsReplayOf, AllCanBeHeard}
use Rattle.replay_wire.specs.Telling.{Telling}

pub record Replaying : Type 0 where
  pub posts : ℕ
  pub started : Option Ports
  pub told : Telling

-- so many entries, and no more than a u64 counts
abbrev pub counted : List Entry → ℕ
counted past = min (length past) 18446744073709551615

-- it stands at this place of the trace, behind this past
pub record StandsAt (entries trace : List Entry) (at last posts count : ℕ) (past : List Entry) : Type 0 where
  pub whole : trace ≡ entries
  pub within : at ≤ length entries
  pub left : drop at entries ≡ left_behind entries past
  pub last_is : last ≡ last_moment 0 entries
  pub replays : IsReplayOf entries past
  pub count_is : count ≡ counted past
  pub heard : AllCanBeHeard posts entries
