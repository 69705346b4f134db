use Rattle.std.proofs.Common.{Option, Some, ap, sym, ◌∙◌}
use Rattle.std.specs.Option.{option_map}
use Rattle.station_spec.specs.States.{Session}
use Rattle.station_spec.specs.Acting.{replied}
use Rattle.secc_machine.specs.Views.{with_unread}
use Rattle.secc_machine.specs.declared.slot.Living.{Living}
use Rattle.secc_machine.proofs.slot.SessionSlot.replied.Goals as goal

pub returns-in-Some : goal.returns-in-Some
returns-in-Some c =
    ap (λ (session : Session). Some session) (c.replied.ensures c.self.inside.unread)
    ∙ ap (λ (session : Option Session). option_map (replied c.args.now) session)
    (ap (λ (living : Option Living). option_map (with_unread c.self.inside.unread) living) (sym c.in-Some.is ∙ c.take.ensures.value) ∙ c.self.view_is)
