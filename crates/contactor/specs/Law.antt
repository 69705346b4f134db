-- Own: what a contactor answers after any calls.
use Rattle.std.specs.Prelude.{◌≡◌, List}
use Rattle.contactor.specs.Standing.{standing_of, is_live}
use Rattle.contactor.specs.Calls.{Call, acts_of, kept_after}

-- it stands as what happened says
abbrev pub StandsRight : Type 0
StandsRight = (calls : List Call) → (kept_after calls).standing ≡ standing_of (acts_of calls)

-- it is live as what happened says
abbrev pub IsLiveRight : Type 0
IsLiveRight = (calls : List Call) → (kept_after calls).live ≡ is_live (acts_of calls)
