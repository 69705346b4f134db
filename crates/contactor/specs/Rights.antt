-- IEC 61851-1, annex A (states of the pilot); IEC 61851-23 (isolation; the voltage before the contactor closes, whose bound
-- is 20 V).
use Rattle.std.specs.Prelude.{ℕ, Bool, true, false, nat_le, Option, Some, None}
use Rattle.charge_world.specs.declared.heard.PilotState.{PilotState}
use Rattle.charge_world.specs.declared.heard.PilotState.TheVariants.{A, B, C, D, E, F}
use Rattle.charge_world.specs.declared.heard.IsolationLevel.{IsolationLevel}
use Rattle.charge_world.specs.declared.heard.IsolationLevel.TheVariants.{Invalid, Valid, Warning, Fault, NoImd}

-- the car is ready to take energy
abbrev pub is_ready : PilotState → Bool
is_ready A = false
is_ready B = false
is_ready C = true
is_ready D = true
is_ready E = false
is_ready F = false

-- DC alone: the isolation is valid and the pre-charge is at most 20.0 V off
abbrev pub is_safe : Option (IsolationLevel × ℕ) → Bool
is_safe None = true
is_safe (Some (Valid, off)) = nat_le off 200
is_safe (Some (Invalid, off)) = false
is_safe (Some (Warning, off)) = false
is_safe (Some (Fault, off)) = false
is_safe (Some (NoImd, off)) = false

-- under what a right to close was given
pub record Right : Type 0 where
  pub pilot : PilotState
  pub check : Option (IsolationLevel × ℕ)
