-- ISO 15118-2:2014, 8.4.3.8 (EVChargeParameter); DIN SPEC 70121:2014. What a post asks for, and who tells watts, is own.
use Rattle.std.specs.Prelude.{ℕ, min, Bool, true, false, Option, Some, None}
use Rattle.session_words.specs.declared.limits.CarLimits.{CarLimits}
use Rattle.session_words.specs.declared.limits.CarLimits.TheVariants as limits
use Rattle.session_words.specs.declared.plan.PostPlan.{PostPlan}
use Rattle.session_words.specs.declared.word.Ask.{Ask}
use Rattle.session_words.specs.declared.word.Ask.TheVariants as ask
use Rattle.session_words.specs.Amounts.{ac_watts_of, dc_watts_of}
use Rattle.session_words.specs.Modes.{phases_of}

-- the watts that the car can take at the post
abbrev pub car_watts : PostPlan → CarLimits → ℕ
car_watts plan (limits.Ac most_current least_current most_voltage) = ac_watts_of most_current.size plan.nominal (phases_of plan.mode)
car_watts plan (limits.Dc ready soc current (Some watts) voltage) = watts.size
car_watts plan (limits.Dc ready soc current None voltage) = dc_watts_of voltage.size current.size

-- the watts that a post asks for behind an accepted ChargeParameterDiscovery
abbrev pub ask_of : PostPlan → CarLimits → ℕ
ask_of plan car = min 1000000 (min plan.max_watts (car_watts plan car))

-- the watts for which a request makes its post ask, where it is accepted
abbrev pub asks : PostPlan → Ask → Option ℕ
asks plan (ask.ChargeParameters mode car) = Some (ask_of plan car)
asks plan other = None

-- the requests whose accepted replies show watts, which are the told ones from then on
abbrev pub shows_watts : Ask → Bool
shows_watts (ask.ChargeParameters mode car) = true
shows_watts (ask.CurrentDemand ready soc voltage current) = true
shows_watts ask.ChargingStatus = true
shows_watts other = false
