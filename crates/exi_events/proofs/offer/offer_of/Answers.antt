use Rattle.std.proofs.Common.{◌∙◌, sym}
use Rattle.exi_events.proofs.Seeking.{means_none, meant_if, sought_by}
use Rattle.exi_events.proofs.offer.offer_of.Goals as goal

pub returns-in_default-clause-none : goal.returns-in_default-clause-none
returns-in_default-clause-none g c = λ _ code step is meant. means_none step c.args.event.now (sym c.sought_by.ensures ∙ c.in_default.is) meant

pub returns-clause-meant : goal.returns-clause-meant
returns-clause-meant g c = meant_if c.find.result c.args.event.now c.in-Some.sought (sym c.sought_by.ensures ∙ c.in-Some.is) c.find.ensures.meant

pub returns-clause-none : goal.returns-clause-none
returns-clause-none g c = λ none code step is meant. c.find.ensures.none none code step is (sought_by step c.args.event.now c.in-Some.sought (sym c.sought_by.ensures ∙ c.in-Some.is) meant)
