use Rattle.std.proofs.Common.{ap}
use Rattle.secc_rows.specs.declared.carried.Place.{Place}
use Rattle.station_spec.specs.States.{State}
use Rattle.secc_machine.specs.Views.{with_unread}
use Rattle.secc_machine.proofs.Answering.{agenda_is, agenda_in}
use Rattle.secc_machine.proofs.ruling.ruled.Goals as goal

pub returns-clause-agenda : goal.returns-clause-agenda
returns-clause-agenda c = λ unread s facts live.
    let session = with_unread unread c.args.living in
    let t : State = record s { facts = c.args.facts; live = c.args.live } in
    agenda_in session c.args.plan.now s c.args.request.now c.args.shown c.args.facts c.args.live _ facts live
    (agenda_is session c.args.plan.now t c.args.request.now c.args.shown _ _ _ _ _ _ _
    (ap (λ (p : Place). p.dialect) c.place-place.ensures) c.step-row.ensures.end
    c.step-row.ensures.order c.order_by.ensures c.step-row.ensures.reply c.said.ensures c.answering-agenda.ensures)
