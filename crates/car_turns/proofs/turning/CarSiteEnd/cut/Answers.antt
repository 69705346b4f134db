use Rattle.std.proofs.Common.{◌≡◌, sym, ◌∙◌, is_ok}
use Rattle.charge_world.specs.declared.entry.Entry.TheVariants as entry
use Rattle.charge_world.specs.declared.ports.Order.TheVariants as order
use Rattle.endpoint.specs.Telling.{HasClosing}
use Rattle.endpoint.proofs.Carry.{carries_none, carries_one}
use Rattle.endpoint.proofs.Orders.{none_closing, one_closing}
use Rattle.car_spec.specs.Runs.{Closes}
use Rattle.car_turns.proofs.Finished.{opens_live, leaves_idle}
use Rattle.car_turns.proofs.turning.CarSiteEnd.cut.Goals as goal

pub returns-then-live-clause-closed : goal.returns-then-live-clause-closed
returns-then-live-clause-closed g c blocks =
    let live = c.args.self.now.driver.car.live in
    let taken = is_ok c.drive.result in
    carries_one _ _ (entry.Drove 1 order.Open taken) (λ past. past ≡ blocks) (Closes live blocks) c.drive.ensures.drove (λ past e. opens_live live blocks past taken (sym c.live.ensures ∙ c.if-live.true) e)

pub returns-then-live-clause-orders : goal.returns-then-live-clause-orders
returns-then-live-clause-orders g c blocks =
    carries_one _ _ (entry.Drove 1 order.Open (is_ok c.drive.result)) (λ past. past ≡ blocks) (HasClosing blocks) c.drive.ensures.drove
    (λ past e. one_closing blocks past 1 (is_ok c.drive.result) (none_closing blocks past e))

pub returns-else-live-clause-closed : goal.returns-else-live-clause-closed
returns-else-live-clause-closed g c blocks =
    let live = c.args.self.now.driver.car.live in
    carries_none _ (λ past. past ≡ blocks) (Closes live blocks) (λ past e. leaves_idle live blocks past (sym c.live.ensures ∙ c.if-live.false) e)

pub returns-else-live-clause-orders : goal.returns-else-live-clause-orders
returns-else-live-clause-orders g c blocks = carries_none _ (λ past. past ≡ blocks) (HasClosing blocks) (λ past e. none_closing blocks past e)
