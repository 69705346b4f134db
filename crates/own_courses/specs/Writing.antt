-- ISO 15118-2:2014, 8.4.3.8 (EVSEMaximumPowerLimit, EVSEMaxCurrent, PMax); DIN SPEC 70121:2014: what is asked of codecs that tell a station's watts as it wrote them.
use Rattle.std.specs.Prelude.{◌≡◌, ℕ, List, [], ◌∷◌, Option, Some, None, pos}
use Rattle.arrayvec.specs.ArrayVec.{ArrayVec}
use Rattle.charge_world.specs.declared.offer.Dialect.{Dialect}
use Rattle.session_words.specs.declared.limits.PostLimits.{PostLimits}
use Rattle.session_words.specs.declared.limits.PostLimits.TheVariants as limits
use Rattle.session_words.specs.declared.limits.Tuple.{Tuple}
use Rattle.session_words.specs.declared.plan.PostPlan.{PostPlan}
use Rattle.session_words.specs.declared.word.Reply.{Reply}
use Rattle.session_words.specs.declared.word.Tell.{Tell}
use Rattle.session_words.specs.declared.word.Tell.TheVariants as tell
use Rattle.session_rules.specs.Offers.{amount, scheduled_watts, ac_current_at}
use Rattle.told_pasts.specs.Spelling.{SpelledWatts, ToldCodecs, AreTold}
use Rattle.own_traces.specs.Own.{Passes}
use Rattle.own_traces.specs.Owning.{TellsOwn}

-- a reply tells these watts, wherever it tells any
abbrev pub TellsSchedule : Dialect → ℕ → Option (ArrayVec Tuple) → Type 0
TellsSchedule dialect told None = Unit {0}
TellsSchedule dialect told (Some tuples) = tuples.items ≡ record { id = pos 1; entries = 1; least = amount (scheduled_watts dialect told) } ∷ []

abbrev pub TellsLimits : PostPlan → ℕ → PostLimits → Type 0
TellsLimits plan told (limits.Ac notify nominal current) = current ≡ amount (ac_current_at plan told)
TellsLimits plan told (limits.Dc status current watts voltage least_current least_voltage ripple) = watts ≡ Some (amount told)

abbrev pub Tells : PostPlan → Dialect → ℕ → Tell → Type 0
Tells plan dialect told (tell.ChargeParameters processing schedule limits) = TellsSchedule dialect told schedule × TellsLimits plan told limits
Tells plan dialect told (tell.CurrentDemand status voltage current current_cut voltage_cut watts_cut most_voltage most_current most_watts evse) = most_watts ≡ Some (amount told)
Tells plan dialect told (tell.ChargingStatus notify evse current) = current ≡ Some (amount (ac_current_at plan told))
Tells plan dialect told other = Unit {0}

-- so its payload writes them
abbrev pub WritesRightly : ToldCodecs → Type 0
WritesRightly c = (plan : PostPlan) (dialect : Dialect) (reply : Reply) (payload : List ℕ) (watts : SpelledWatts) (told : ℕ)
    → c.words.Encodes dialect reply payload → c.Watts dialect payload watts → Tells plan dialect told reply.tell → AreTold plan dialect told watts

-- and a check passes
abbrev pub PassesWritten : ToldCodecs → ℕ → Type 0
PassesWritten c check = TellsOwn c → WritesRightly c → Passes c check
