-- Own: what a past of a car tells of its contactor: its orders.
use Rattle.std.specs.Prelude.{◌≡◌, Bool, true, false, List, [], ◌∷◌}
use Rattle.charge_world.specs.declared.entry.Entry.{Entry}
use Rattle.charge_world.specs.declared.entry.Entry.TheVariants as entry
use Rattle.charge_world.specs.declared.ports.Order.{Order}
use Rattle.charge_world.specs.declared.ports.Order.TheVariants as order
use Rattle.session_words.specs.declared.plan.CarPlan.{CarPlan}
use Rattle.car_spec.specs.Codecs.{Codecs}
use Rattle.car_spec.specs.Steps.{Step}
use Rattle.car_spec.specs.Acting.{state}
use Rattle.car_spec.specs.Runs.{IsRun}

-- a Close was ordered, taken or failed, and no Open was taken since
abbrev pub live_behind : Order → Bool → Bool → Bool
live_behind order.Close taken live = true
live_behind order.Open true live = false
live_behind order.Open false live = live
live_behind (order.Limits voltage current watts) taken live = live

abbrev pub live : List Entry → Bool
live [] = false
live (entry.Drove post order taken ∷ past) = live_behind order taken (live past)
live (other ∷ past) = live past

-- the last order of the two that was taken is Close
abbrev pub closed_behind : Order → Bool → Bool → Bool
closed_behind order.Close true closed = true
closed_behind order.Open true closed = false
closed_behind other taken closed = closed

abbrev pub closed : List Entry → Bool
closed [] = false
closed (entry.Drove post order taken ∷ past) = closed_behind order taken (closed past)
closed (other ∷ past) = closed past

-- an Open failed since the last order of the two that was taken
abbrev pub failed_behind : Order → Bool → Bool → Bool
failed_behind order.Open false failed = true
failed_behind order.Open true failed = false
failed_behind order.Close true failed = false
failed_behind order.Close false failed = failed
failed_behind (order.Limits voltage current watts) taken failed = failed

abbrev pub failed_open : List Entry → Bool
failed_open [] = false
failed_open (entry.Drove post order taken ∷ past) = failed_behind order taken (failed_open past)
failed_open (other ∷ past) = failed_open past

-- in every run a car keeps what its past tells of that
abbrev pub RunsKeepLive : Codecs → Type 0
RunsKeepLive c = (plan : CarPlan) (past : List Entry) (steps : List Step) → IsRun c plan past steps → (state plan steps).live ≡ live past
