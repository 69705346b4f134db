-- ISO 15118-2:2014, 8.4.3.8 (ChargeParameterDiscovery) and 8.8.3; DIN SPEC 70121:2014. What suits a post is own in part.
use Rattle.std.specs.Prelude.{Bool, true, false, not, ◌&&◌, nat_lt, nat_le, List, [], ◌∷◌, Option, Some, None}
use Rattle.charge_world.specs.declared.offer.Dialect.{Dialect}
use Rattle.charge_world.specs.declared.offer.Dialect.TheVariants as dialect
use Rattle.session_words.specs.declared.amount.Amount.{Amount}
use Rattle.session_words.specs.declared.code.Code.{Code}
use Rattle.session_words.specs.declared.code.Code.TheVariants as code
use Rattle.session_words.specs.declared.limits.CarLimits.{CarLimits}
use Rattle.session_words.specs.declared.limits.CarLimits.TheVariants as limits
use Rattle.session_words.specs.declared.mode.Mode.{Mode}
use Rattle.session_words.specs.declared.mode.Mode.TheVariants.{AcSinglePhaseCore, AcThreePhaseCore, DcCore, DcExtended, DcComboCore, DcUnique}
use Rattle.session_words.specs.declared.plan.PostPlan.{PostPlan}
use Rattle.session_words.specs.Amounts.{ac_watts_of}
use Rattle.session_words.specs.Modes.{phases_of}
use Rattle.session_rules.specs.Lines.{Line, line}
use Rattle.session_rules.specs.Finishing.{is_ac}
use Rattle.session_rules.specs.Asks.{ask_of}

abbrev pub is_mode : Mode → Mode → Bool
is_mode AcSinglePhaseCore AcSinglePhaseCore = true
is_mode AcThreePhaseCore AcThreePhaseCore = true
is_mode DcCore DcCore = true
is_mode DcExtended DcExtended = true
is_mode DcComboCore DcComboCore = true
is_mode DcUnique DcUnique = true
is_mode asked given = false

abbrev pub wrong_mode : Dialect → Code
wrong_mode dialect.Iso = code.FailedWrongEnergyTransferMode
wrong_mode dialect.Din = code.FailedWrongEnergyTransferType

abbrev pub is_right_if_there : Option Amount → Bool
is_right_if_there None = true
is_right_if_there (Some amount) = amount.right

-- the units that are judged are right. That of EVMaxVoltage isn't judged
abbrev pub has_right_units : CarLimits → Bool
has_right_units (limits.Ac most_current least_current most_voltage) = most_current.right && least_current.right
has_right_units (limits.Dc ready soc current watts voltage) = voltage.right && current.right && is_right_if_there watts

-- the parameters are of the post's kind, and the post can go as low as the car needs
abbrev pub is_within_post : PostPlan → Bool → CarLimits → Bool
is_within_post plan true (limits.Ac most_current least_current most_voltage) =
    nat_le (ac_watts_of least_current.size plan.nominal (phases_of plan.mode)) plan.max_watts
is_within_post plan false (limits.Dc ready soc current watts voltage) =
    nat_le plan.min_voltage voltage.size && nat_le plan.min_current current.size
is_within_post plan ac other = false

abbrev pub suits : PostPlan → CarLimits → Bool
suits plan car = is_within_post plan (is_ac plan.mode) car && has_right_units car && nat_lt 0 (ask_of plan car)

abbrev pub parameter_lines : Dialect → PostPlan → Mode → CarLimits → List (Line (Option Code))
parameter_lines d plan mode car =
    line (not (is_mode mode plan.mode)) (Some (wrong_mode d)) ∷
    line (not (suits plan car)) (Some code.FailedWrongChargeParameter) ∷ []
