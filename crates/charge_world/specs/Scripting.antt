-- Own: which events of a script are given.
use Rattle.std.specs.Prelude.{◌≡◌, ℕ, ◌<◌, ◌≤◌, List, length, slice_index_or, slice_get, ◌-◌, Option, Some, None}
use Rattle.charge_world.specs.declared.heard.What.{What}
use Rattle.charge_world.specs.declared.heard.What.TheVariants as what
use Rattle.charge_world.specs.declared.memory_wire.Scripted.{Scripted}
use Rattle.charge_world.specs.Outside.{IsOfPosts, HasCount}

-- the bytes of a piece or a datagram are as many as it says
abbrev pub HasBytes : What → ℕ → Type 0
HasBytes (what.Came post token) len = Unit {0}
HasBytes (what.Bytes post n) len = n ≡ len
HasBytes (what.Gone post) len = Unit {0}
HasBytes (what.Datagram post n) len = n ≡ len
HasBytes (what.Plant post event) len = Unit {0}
HasBytes what.Tick len = Unit {0}
HasBytes what.Over len = Unit {0}

-- the event is of a started post, and has its bytes
pub record Fits (posts : ℕ) (s : Scripted) : Type 0 where
  pub post : IsOfPosts posts s.heard.what
  pub count : HasCount s.heard.what
  pub bytes : HasBytes s.heard.what (length s.bytes)

-- no event from one place up to another fits
abbrev pub NoneFits : ℕ → List Scripted → ℕ → ℕ → Type 0
NoneFits posts script from to = (j : ℕ) (d : Scripted) → from ≤ j → j < to → Fits posts (slice_index_or script j d) → ⊥

-- k is the first place from a place on whose event fits
pub record FitsAt (posts : ℕ) (script : List Scripted) (from k : ℕ) : Type 0 where
  pub later : from ≤ k
  pub within : k < length script
  pub fits : (d : Scripted) → Fits posts (slice_index_or script k d)
  pub first : NoneFits posts script from k

-- the moment of the last event, 0 where there is none
abbrev pub moment_at : Option Scripted → ℕ
moment_at None = 0
moment_at (Some s) = s.heard.at

abbrev pub moment_of : List Scripted → ℕ
moment_of script = moment_at (slice_get script (length script - 1))
