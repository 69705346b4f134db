use Rattle.std.proofs.Common.{ℕ, ap}
use Rattle.evcc_rows.proofs.Charging.{charges_on}
use Rattle.evcc_rows.proofs.power.Charging.onward.Goals as goal

pub returns-in_default-phase : goal.returns-in_default-phase
returns-in_default-phase c =
    charges_on c.args.plan.now c.args.self.carried _ c.stage-stage.result c.stage_behind-phase.result c.args.reply.now c.args.stop c.stage-stage.ensures.value
    c.stage_behind-phase.ensures c.in_default.not-Stopping c.in_default-phase.not-Renegotiating
    (ap (λ (n : ℕ). record c.stage_behind-phase.result { cycles = n }) c.of.ensures)
