-- Own: the requests of the examples.
use Rattle.std.specs.Prelude.{true, false, [], ◌∷◌, Some, None, pos}
use Rattle.session_words.specs.declared.amount.Amount.{Amount}
use Rattle.session_words.specs.declared.code.Progress.{Progress}
use Rattle.session_words.specs.declared.limits.CarLimits.TheVariants as limits
use Rattle.session_words.specs.declared.mode.Mode.TheVariants as mode
use Rattle.session_words.specs.declared.word.Ask.{Ask}
use Rattle.session_words.specs.declared.word.Ask.TheVariants as ask
use Rattle.session_rules.specs.Offers.{amount}

abbrev pub setup : Ask
setup = ask.SessionSetup (record { items = 0 ∷ 1 ∷ 2 ∷ 3 ∷ 4 ∷ 5 ∷ [] })

abbrev pub payment : Ask
payment = ask.PaymentSelection true (record { items = 1 ∷ [] })

abbrev pub delivery : Progress → Ask
delivery progress = ask.PowerDelivery progress (Some (pos 1)) None

-- 400.0 V and at most 40 kW
abbrev pub dc_parameters : Ask
dc_parameters =
    ask.ChargeParameters mode.DcExtended (limits.Dc true 20 (amount 1250) (Some (amount 40000)) (amount 4000))

-- 32.0 A
abbrev pub ac_parameters : Ask
ac_parameters = ask.ChargeParameters mode.AcThreePhaseCore (limits.Ac (amount 320) (amount 60) (amount 4000))

abbrev pub cable_check : Ask
cable_check = ask.CableCheck true 20

-- to 400.0 V
abbrev pub pre_charge : Ask
pre_charge = ask.PreCharge true 20 (amount 4000) (amount 20)

-- 400.0 V and 100.0 A
abbrev pub demand : Ask
demand = ask.CurrentDemand true 40 (amount 4000) (amount 1000)

-- the same, with a wrong unit
abbrev pub wrong : Amount → Amount
wrong amount = record { size = amount.size; right = false }

abbrev pub wrong_demand : Ask
wrong_demand = ask.CurrentDemand true 40 (wrong (amount 4000)) (amount 1000)
