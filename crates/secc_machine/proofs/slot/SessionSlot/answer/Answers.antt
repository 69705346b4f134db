use Rattle.std.proofs.Common.{Option, Some, ap, sym, ◌∙◌}
use Rattle.std.specs.Option.{option_map}
use Rattle.station_spec.specs.States.{Agenda, Session}
use Rattle.station_spec.specs.Judging.{asked_agenda}
use Rattle.secc_machine.specs.Views.{with_unread}
use Rattle.secc_machine.specs.declared.slot.Living.{Living}
use Rattle.secc_machine.proofs.slot.SessionSlot.answer.Goals as goal

pub returns-clause-agenda : goal.returns-clause-agenda
returns-clause-agenda c = λ s facts live.
    let unread = c.self.inside.unread in
    ap (λ (a : Agenda). Some a) (c.ruled-ruling.ensures.agenda unread s (facts ∙ sym c.replace-known.ensures.value) live)
    ∙ ap (λ (o : Option Session). option_map (λ (x : Session). asked_agenda x c.args.plan.now s c.args.request.now c.args.shown) o)
    (ap (λ (o : Option Living). option_map (with_unread unread) o) (sym c.in_ok-living.was ∙ c.take.ensures.value) ∙ c.self.view_is)
