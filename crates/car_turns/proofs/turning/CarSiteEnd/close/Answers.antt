use Rattle.std.proofs.Common.{◌≡◌, true, sym, ◌∙◌, is_ok}
use Rattle.charge_world.specs.declared.entry.Entry.TheVariants as entry
use Rattle.charge_world.specs.declared.ports.Order.TheVariants as order
use Rattle.endpoint.specs.Telling.{HasClosing, IsTraced, IsWrittenSo, IsClosedSo}
use Rattle.endpoint.proofs.Carry.{carries_none, carries_one, carries_from, text_none, text_to}
use Rattle.endpoint.proofs.Orders.{none_closing, closed_so}
use Rattle.car_spec.specs.Runs.{Closes}
use Rattle.car_turns.specs.Ending.{opens_if}
use Rattle.car_turns.proofs.Finished.{opens_live, leaves_idle, due_anyway}
use Rattle.car_turns.proofs.turning.CarSiteEnd.close.Goals as goal

pub returns-then-must_open-clause-closed : goal.returns-then-must_open-clause-closed
returns-then-must_open-clause-closed g c blocks =
    let car = c.args.self.now.driver.car in
    let due = opens_if (is_ok c.open.result) car in
    let taken = c.open.ensures.opened.0 in
    carries_one _ _ (entry.Drove 1 order.Open taken) (λ past. past ≡ blocks) (Closes due blocks) c.open.ensures.opened.1
    (λ past e. opens_live due blocks past taken (due_anyway (is_ok c.open.result) car (sym c.must_open.ensures ∙ c.if-must_open.true)) e)

pub returns-then-must_open-clause-orders : goal.returns-then-must_open-clause-orders
returns-then-must_open-clause-orders g c blocks =
    carries_from _ _ (λ past. past ≡ blocks) (HasClosing blocks) (HasClosing blocks) (λ past e. none_closing blocks past e) (c.open.ensures.orders blocks)

pub returns-then-must_open-clause-traced : goal.returns-then-must_open-clause-traced
returns-then-must_open-clause-traced g c =
    text_to _ _ _ _ (IsTraced c.args.hearing) (IsWrittenSo c.args.hearing c.open.result) (IsClosedSo c.args.hearing c.open.result) (λ past text h. closed_so c.args.hearing c.open.result past text h) c.open.ensures.traced

pub returns-else-must_open-clause-closed : goal.returns-else-must_open-clause-closed
returns-else-must_open-clause-closed g c blocks =
    let due = opens_if true c.args.self.now.driver.car in
    carries_none _ (λ past. past ≡ blocks) (Closes due blocks) (λ past e. leaves_idle due blocks past (sym c.must_open.ensures ∙ c.if-must_open.false) e)

pub returns-else-must_open-clause-orders : goal.returns-else-must_open-clause-orders
returns-else-must_open-clause-orders g c blocks = carries_none _ (λ past. past ≡ blocks) (HasClosing blocks) (λ past e. none_closing blocks past e)

pub returns-else-must_open-clause-traced : goal.returns-else-must_open-clause-traced
returns-else-must_open-clause-traced g c = text_none _ _ (IsTraced c.args.hearing) (IsTraced c.args.hearing) (λ past text t. t)
