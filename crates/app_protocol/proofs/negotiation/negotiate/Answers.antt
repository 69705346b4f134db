use Rattle.app_protocol.proofs.negotiation.negotiate.Goals as goal

pub returns : goal.returns
returns c = rw c.as_slice.ensures.value at c.negotiate_among.ensures
