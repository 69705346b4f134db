-- Own: how far a run of a site is closed.
use Rattle.std.specs.Prelude.{ℕ, ◌+◌, List, drop}
use Rattle.charge_world.specs.declared.entry.Entry.{Entry}
use Rattle.station_spec.specs.Sharing.{Post}
use Rattle.station_spec.specs.Runs.{Closes}

-- the posts before place i are closed: whatever closes those from there on closes all
abbrev pub ClosesTo : List Post → ℕ → List Entry → List Entry → Type 0
ClosesTo posts i blocks past = (final : List Entry) → Closes (i + 1) (drop i posts) past final → Closes 1 posts blocks final
