use Rattle.std.proofs.Common.{◌∙◌}
use Rattle.pilot_basic.specs.Machine.{State}
use Rattle.pilot_basic.proofs.Steps.{made, step_leads, step_state}
use Rattle.pilot_basic.proofs.machine.Basic.step.Goals as goal

pub returns-clause-orders : goal.returns-clause-orders
returns-clause-orders c = λ past same.
    let s : State = record { now = c.self.inside.now; mode = c.self.inside.mode; pilot = c.self.inside.pilot; contactor = c.self.inside.contactor } in
    let step = made s c.args.now c.max-at.result c.args.event.now c.reached-mode.result c.next_mode-self-inside.result c.next_pilot-self-inside.result c.hear.new.contactor c.act-first.new.contactor c.follow-more.new.contactor c.act-first.result.items c.with_order.result.items c.follow-more.result
    c.max-at.ensures c.reached-mode.ensures c.next_mode-self-inside.ensures c.next_pilot-self-inside.ensures c.hear.ensures c.act-first.ensures.acts c.act-first.ensures.kept c.follow-more.ensures.order c.follow-more.ensures.kept c.with_order.ensures in
    step_leads c.law_of_contactor.ensures.stands c.law_of_contactor.ensures.live past s c.args.now c.args.event.now c.with_order.result.items _ (c.self.view_is ∙ same) step

pub returns-clause-state : goal.returns-clause-state
returns-clause-state c = λ past same.
    let s : State = record { now = c.self.inside.now; mode = c.self.inside.mode; pilot = c.self.inside.pilot; contactor = c.self.inside.contactor } in
    let step = made s c.args.now c.max-at.result c.args.event.now c.reached-mode.result c.next_mode-self-inside.result c.next_pilot-self-inside.result c.hear.new.contactor c.act-first.new.contactor c.follow-more.new.contactor c.act-first.result.items c.with_order.result.items c.follow-more.result
    c.max-at.ensures c.reached-mode.ensures c.next_mode-self-inside.ensures c.next_pilot-self-inside.ensures c.hear.ensures c.act-first.ensures.acts c.act-first.ensures.kept c.follow-more.ensures.order c.follow-more.ensures.kept c.with_order.ensures in
    step_state past s c.args.now c.args.event.now c.with_order.result.items _ (c.self.view_is ∙ same) step
