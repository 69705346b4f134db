-- Own: what a car reports of its past.
use Rattle.std.specs.Prelude.{ℕ, ◌==◌, if◌then◌else◌, List, [], ◌∷◌, Option, None}
use Rattle.charge_world.specs.declared.entry.Entry.{Entry}
use Rattle.charge_world.specs.declared.entry.Entry.TheVariants as entry
use Rattle.session_words.specs.declared.session.SessionId.{SessionId}
use Rattle.car_spec.specs.Told.{cycles, given}
use Rattle.car_spec.specs.Steps.{Step}

-- the number of the cause by which the car ended, 0 where it didn't
abbrev pub cause : List Entry → ℕ
cause [] = 0
cause (entry.Ended post number ∷ past) = number
cause (other ∷ past) = cause past

-- the charging replies, the cause, and at cause 29 the identifier of the paused session
pub record Report : Type 0 where
  pub cycles : ℕ
  pub cause : ℕ
  pub session : Option SessionId

abbrev pub report : List Step → List Entry → Report
report steps past = record { cycles = cycles steps; cause = cause past; session = if cause past == 29 then given steps else None }
