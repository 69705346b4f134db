-- Own: where an accepted request leads, and the right to close that it gives. IEC 61851-23 has the conditions of that.
use Rattle.std.specs.Prelude.{◌≡◌, ℕ, Bool, true, false, Option, Some, None}
use Rattle.charge_world.specs.declared.heard.IsolationLevel.TheVariants.{Valid}
use Rattle.charge_world.specs.declared.ports.Order.{Order}
use Rattle.charge_world.specs.declared.ports.Order.TheVariants as order
use Rattle.session_words.specs.declared.facts.Facts.{Facts}
use Rattle.session_words.specs.declared.phase.Phase.{Phase}
use Rattle.session_words.specs.declared.phase.Phase.TheVariants as row
use Rattle.contactor.specs.Rights.{Right, is_ready, is_safe}
use Rattle.session_rules.specs.declared.stage.PreCharged.{PreCharged}
use Rattle.session_rules.specs.declared.stage.Stage.{Stage}
use Rattle.session_rules.specs.Delivery.{off_of}
use Rattle.session_rules.specs.Moves.{moved}
use Rattle.session_rules.specs.Orders.{granted_order}
use Rattle.session_rules.specs.Verdict.{verdict, is_accepted}
use Rattle.secc_rows.specs.declared.carried.Accepted.{Accepted}
use Rattle.secc_rows.specs.declared.carried.Carried.{Carried}
use Rattle.secc_rows.specs.declared.kind.Kind.{Kind}
use Rattle.secc_rows.specs.declared.kind.Kind.TheVariants as kind
use Rattle.secc_rows.specs.Rows.{stage_in}

-- the request is accepted in this stage
abbrev pub IsAccepted : Stage → Accepted → Type 0
IsAccepted s by = is_accepted (verdict s by.facts.now by.plan.now by.request.now) ≡ true

abbrev pub is_close : Option Order → Bool
is_close (Some order.Close) = true
is_close other = false

-- an accepted request leads to a row, with a right to close exactly where that is its order
abbrev pub LeadsTo : Stage → Accepted → Kind → Bool → Type 0
LeadsTo s by to closes =
    (stage_in to ≡ moved s by.facts.now by.plan.now by.request.now by.shown)
    × (is_close (granted_order by.plan.now s.told by.shown by.request.now.ask) ≡ closes)

-- the row behind an accepted PreCharge
abbrev pub pre_charged : Carried → ℕ → Facts → Kind
pre_charged carried target facts =
    kind.DcPreCharging (record { carried = record carried { pre_charge = Some (record { target = target; voltage = facts.voltage }) } })

-- the right to close where charging starts: the pilot of now, and in direct current a valid isolation and how far the last pre-charge was off
abbrev pub right_by : Phase → Option PreCharged → Facts → Right
right_by row.DcPreCharging (Some last) facts = record { pilot = facts.pilot; check = Some (Valid, off_of last) }
right_by here last facts = record { pilot = facts.pilot; check = None }

abbrev pub right_of : Stage → Facts → Right
right_of s facts = right_by s.row s.pre_charge facts

-- the conditions of a right
abbrev pub ClosesRightly : Right → Type 0
ClosesRightly right = (is_ready right.pilot ≡ true) × (is_safe right.check ≡ true)
