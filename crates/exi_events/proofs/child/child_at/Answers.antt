use Rattle.std.proofs.Common.{refl}
use Rattle.exi_writing.specs.Documents.{element}
use Rattle.exi_events.proofs.Giving.{no_other}
use Rattle.exi_events.proofs.child.child_at.Goals as goal

pub returns-in_err-offer-clause-none : goal.returns-in_err-offer-clause-none
returns-in_err-offer-clause-none g c none offers = c.in_err-offer.ensures.none refl offers.0 (element c.args.name offers.1 offers.2) offers.3 (refl, refl, refl)

pub returns-in_default : goal.returns-in_default
returns-in_default g c = record { child = tt; none = λ is offers. no_other c.in_ok-offer.offer.step c.args.name c.in_ok-offer.ensures.meant c.in_default.not-Element }
