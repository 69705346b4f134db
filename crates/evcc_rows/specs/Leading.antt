-- Own: where a reply leads a car, as the rules of a car say it, and the right to close its contactor that the reply gives.
use Rattle.std.specs.Prelude.{◌≡◌, ℕ, Bool, true, false, Option, Some, None}
use Rattle.charge_world.specs.declared.ports.Order.{Order}
use Rattle.charge_world.specs.declared.ports.Order.TheVariants as order
use Rattle.session_words.specs.declared.plan.CarPlan.{CarPlan}
use Rattle.session_words.specs.declared.word.Reply.{Reply}
use Rattle.session_words.specs.declared.word.Tell.{Tell}
use Rattle.car_rules.specs.declared.stage.CarPhase.{CarPhase}
use Rattle.car_rules.specs.declared.stage.CarPhase.TheVariants as phase
use Rattle.car_rules.specs.declared.stage.CarStage.{CarStage}
use Rattle.car_rules.specs.Moves.{is_again, order_of, stage_behind}
use Rattle.car_rules.specs.Replies.{reply_cause}
use Rattle.evcc_rows.specs.Carrying.{stage_of}
use Rattle.evcc_rows.specs.Rights.{off_in}
use Rattle.evcc_rows.specs.declared.row.Row.{Row}
use Rattle.evcc_rows.specs.declared.row.Moved.{Moved}
use Rattle.evcc_rows.specs.declared.row.Moved.TheVariants.{Ends, Waits, Goes, Closes, Opens}

-- a reply that ends nothing leads to a row, whose request is asked once more or at once, with an order before it or without
pub record IsOnward (plan : CarPlan) (s : CarStage) (r : Reply) (stop : Bool) (to : Row) (again : Bool) (given : Option Order) : Type 0 where
  pub stage : stage_of to ≡ stage_behind plan s r stop
  pub waits : is_again s.phase (stage_of to).phase ≡ again
  pub orders : order_of plan s.phase r.tell ≡ given

-- how far the pre-charge is off that gives the right to close; elsewhere it isn't one that gives it
abbrev pub right_in : CarPlan → CarPhase → Tell → Option ℕ
right_in plan phase.PreCharging told = off_in plan.target_voltage told
right_in plan other told = None

-- where a reply that ends nothing leads. Close is ordered by a right alone
abbrev pub LeadsOn : CarPlan → CarStage → Reply → Bool → Moved → Type 0
LeadsOn plan s r stop (Ends to cause) = ⊥
LeadsOn plan s r stop (Waits to) = IsOnward plan s r stop to true None
LeadsOn plan s r stop (Goes to) = IsOnward plan s r stop to false None
LeadsOn plan s r stop (Opens to) = IsOnward plan s r stop to false (Some order.Open)
LeadsOn plan s r stop (Closes to right) =
    IsOnward plan s r stop to false (Some order.Close) × (right ≡ right_in plan s.phase r.tell)

-- where a reply leads. One that ends the car leaves the row as it was
abbrev pub Leads : CarPlan → CarStage → Bool → Reply → Bool → Moved → Type 0
Leads plan s awaited r stop (Ends to cause) = (stage_of to ≡ s) × (reply_cause plan s awaited r ≡ Some cause)
Leads plan s awaited r stop other = (reply_cause plan s awaited r ≡ None) × LeadsOn plan s r stop other
