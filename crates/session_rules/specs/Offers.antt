-- ISO 15118-2:2014, 8.4.3.8 (SASchedules, EVSEChargeParameter); DIN SPEC 70121:2014.
use Rattle.std.specs.Prelude.{ℕ, ◌*◌, ◌/◌, min, nat_lt, pos, Bool, true, false, if◌then◌else◌, [], ◌∷◌, Option, Some}
use Rattle.arrayvec.specs.ArrayVec.{ArrayVec}
use Rattle.charge_world.specs.declared.offer.Dialect.{Dialect}
use Rattle.charge_world.specs.declared.offer.Dialect.TheVariants as dialect
use Rattle.session_words.specs.declared.amount.Amount.{Amount}
use Rattle.session_words.specs.declared.code.Code.{Code}
use Rattle.session_words.specs.declared.facts.Facts.{Facts}
use Rattle.session_words.specs.declared.limits.EvseId.{EvseId}
use Rattle.session_words.specs.declared.limits.EvseId.TheVariants as evse
use Rattle.session_words.specs.declared.limits.PostLimits.{PostLimits}
use Rattle.session_words.specs.declared.limits.PostLimits.TheVariants as limits
use Rattle.session_words.specs.declared.limits.Tuple.{Tuple}
use Rattle.session_words.specs.declared.plan.PostPlan.{PostPlan}
use Rattle.session_words.specs.declared.word.Ask.{Ask}
use Rattle.session_words.specs.Amounts.{ac_current_of}
use Rattle.session_words.specs.Modes.{phases_of}
use Rattle.session_rules.specs.Status.{notify_of, dc_status}

abbrev pub amount : ℕ → Amount
amount size = record { size = size; right = true }

abbrev pub evse_of : Dialect → PostPlan → EvseId
evse_of dialect.Iso plan = evse.Text plan.evse_id
evse_of dialect.Din plan = evse.Bytes plan.evse_id_din

-- the power of a schedule: in DIN it is a number of 16 bits with a sign
abbrev pub scheduled_watts : Dialect → ℕ → ℕ
scheduled_watts dialect.Iso watts = watts
scheduled_watts dialect.Din watts = min 32767 watts

-- watts as a Value of at most 32,767 with the least Multiplier spells them
abbrev pub spelled_watts : ℕ → ℕ
spelled_watts watts =
    if nat_lt watts 32768 then watts else (
    if nat_lt watts 327680 then watts / 10 * 10 else (
    if nat_lt watts 3276800 then watts / 100 * 100 else watts / 1000 * 1000))

-- the watts that the PMax of a schedule spells
abbrev pub p_max_of : Dialect → ℕ → ℕ
p_max_of dialect.Iso watts = spelled_watts watts
p_max_of dialect.Din watts = min 32767 watts

-- one tuple 1 with one entry
abbrev pub schedule_of : Dialect → ℕ → Option (ArrayVec Tuple)
schedule_of d watts = Some (record { items = record { id = pos 1; entries = 1; least = amount (scheduled_watts d watts) } ∷ [] })

abbrev pub ac_current_at : PostPlan → ℕ → ℕ
ac_current_at plan watts = ac_current_of watts plan.nominal (phases_of plan.mode)

-- what a post can give, by its kind, where these watts are shown
abbrev pub limits_of : Bool → Dialect → Facts → PostPlan → Code → Ask → ℕ → PostLimits
limits_of true d facts plan code asked watts =
    limits.Ac (notify_of d facts code asked) (amount (10 * plan.nominal)) (amount (ac_current_at plan watts))
limits_of false d facts plan code asked watts =
    limits.Dc (dc_status d facts code asked) (amount plan.max_current) (Some (amount watts)) (amount plan.max_voltage)
    (amount plan.min_current) (amount plan.min_voltage) (amount plan.ripple)
