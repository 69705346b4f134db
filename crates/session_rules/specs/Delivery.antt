-- ISO 15118-2:2014, 8.4.3.9 (PowerDelivery) and 8.8.3; DIN SPEC 70121:2014; IEC 61851-23 (the voltage before the contactor
-- closes, whose bound is 20 V). The order of the lines is own.
use Rattle.std.specs.Prelude.{ℕ, ◌-◌, ◌+◌, ℤ, pos, negsuc, Bool, true, false, not, ◌||◌, nat_lt, nat_le, ◌==◌, List, [], ◌∷◌, Option, Some, None}
use Rattle.charge_world.specs.declared.offer.Dialect.{Dialect}
use Rattle.charge_world.specs.declared.offer.Dialect.TheVariants as dialect
use Rattle.session_words.specs.declared.amount.Amount.{Amount}
use Rattle.session_words.specs.declared.code.Code.{Code}
use Rattle.session_words.specs.declared.code.Code.TheVariants as code
use Rattle.session_words.specs.declared.code.Progress.{Progress}
use Rattle.session_words.specs.declared.code.Progress.TheVariants as progress
use Rattle.session_words.specs.declared.facts.Facts.{Facts}
use Rattle.session_words.specs.declared.phase.Phase.{Phase}
use Rattle.session_words.specs.declared.phase.Phase.TheVariants as row
use Rattle.session_words.specs.declared.phase.Standing.{Standing}
use Rattle.session_words.specs.declared.phase.Standing.TheVariants as standing
use Rattle.contactor.specs.Rights.{is_ready}
use Rattle.session_rules.specs.declared.stage.Stage.{Stage}
use Rattle.session_rules.specs.declared.stage.PreCharged.{PreCharged}
use Rattle.session_rules.specs.Lines.{Line, line}

-- a tuple other than 1, the only one that is offered
abbrev pub is_other_tuple : Option ℤ → Bool
is_other_tuple None = false
is_other_tuple (Some (pos n)) = not (n == 1)
is_other_tuple (Some (negsuc n)) = true

-- a profile above the schedule, or with a wrong unit. DIN doesn't judge it
abbrev pub is_profile_off : Dialect → ℕ → Option Amount → Bool
is_profile_off dialect.Iso schedule (Some power) = nat_lt schedule power.size || not power.right
is_profile_off other schedule profile = false

abbrev pub is_opened : Standing → Bool
is_opened standing.Opened = true
is_opened other = false

abbrev pub contactor_code : Dialect → Code
contactor_code dialect.Iso = code.FailedContactorError
contactor_code dialect.Din = code.Failed

-- how far the outlet was from the target of the last pre-charge, in tenths of a volt
abbrev pub off_of : PreCharged → ℕ
off_of p = (p.target - p.voltage) + (p.voltage - p.target)

-- in DC the last pre-charge came within 20.0 V of its target
abbrev pub is_pre_charged : Phase → Option PreCharged → Bool
is_pre_charged row.DcPreCharging None = false
is_pre_charged row.DcPreCharging (Some p) = nat_le (off_of p) 200
is_pre_charged other last = true

abbrev pub delivery_lines : Stage → Facts → Progress → Option ℤ → Option Amount → List (Line (Option Code))
delivery_lines s facts progress.Start tuple profile =
    line (is_other_tuple tuple) (Some code.FailedTariffSelectionInvalid) ∷
    line (is_profile_off s.dialect s.schedule profile) (Some code.FailedChargingProfileInvalid) ∷
    line (not (is_ready facts.pilot)) (Some code.FailedPowerDeliveryNotApplied) ∷
    line (not (is_opened facts.contactor)) (Some (contactor_code s.dialect)) ∷
    line (not (is_pre_charged s.row s.pre_charge)) (Some code.FailedPowerDeliveryNotApplied) ∷ []
delivery_lines s facts other tuple profile = []
