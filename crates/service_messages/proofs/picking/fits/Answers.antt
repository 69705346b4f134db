use Rattle.service_messages.proofs.picking.fits.Goals as goal

pub returns : goal.returns
returns c = rw c.as_slice.ensures.value at c.are_met.ensures
