-- Own: the order that an accepted request gives to the charger before its reply. IEC 61851-23 (2.0 A in pre-charging).
use Rattle.std.specs.Prelude.{ℕ, ◌*◌, min, if◌then◌else◌, Option, Some, None}
use Rattle.charge_world.specs.declared.ports.Order.{Order}
use Rattle.charge_world.specs.declared.ports.Order.TheVariants as order
use Rattle.session_words.specs.declared.code.Progress.{Progress}
use Rattle.session_words.specs.declared.code.Progress.TheVariants as progress
use Rattle.session_words.specs.declared.facts.Facts.{Facts}
use Rattle.session_words.specs.declared.plan.PostPlan.{PostPlan}
use Rattle.session_words.specs.declared.word.Ask.{Ask}
use Rattle.session_words.specs.declared.word.Ask.TheVariants as ask
use Rattle.session_words.specs.declared.word.Request.{Request}
use Rattle.session_rules.specs.declared.stage.Stage.{Stage}
use Rattle.session_rules.specs.Verdict.{verdict, is_accepted}
use Rattle.session_rules.specs.Offers.{ac_current_at}

abbrev pub delivery_order : Progress → Order
delivery_order progress.Start = order.Close
delivery_order progress.Stop = order.Open
delivery_order progress.Renegotiate = order.Open

-- the order of an accepted request, where these watts are shown and those were told before
abbrev pub granted_order : PostPlan → ℕ → ℕ → Ask → Option Order
granted_order plan told shown (ask.PowerDelivery progress tuple profile) = Some (delivery_order progress)
granted_order plan told shown (ask.PreCharge ready soc voltage current) = Some (order.Limits voltage.size (min current.size 20) told)
granted_order plan told shown (ask.CurrentDemand ready soc voltage current) =
    Some (order.Limits (min voltage.size plan.max_voltage) (min current.size plan.max_current) shown)
granted_order plan told shown ask.ChargingStatus = Some (order.Limits (10 * plan.nominal) (ac_current_at plan shown) shown)
granted_order plan told shown other = None

abbrev pub order_of : Stage → Facts → PostPlan → Request → ℕ → Option Order
order_of s facts plan r shown = if is_accepted (verdict s facts plan r) then granted_order plan s.told shown r.ask else None
