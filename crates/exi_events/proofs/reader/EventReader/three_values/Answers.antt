use Rattle.std.proofs.Common.{refl}
use Rattle.exi_events.proofs.Sequences.{kept_three}
use Rattle.exi_events.proofs.reader.EventReader.three_values.Goals as goal

pub returns-in_err-children-clause-whole : goal.returns-in_err-children-clause-whole
returns-in_err-children-clause-whole g c none keeps taken children at h = c.in_err-children.ensures.none refl children at

pub returns-clause-whole : goal.returns-clause-whole
returns-clause-whole g c none keeps taken children at h =
    c.take_sequence.ensures.whole none (kept_three c.in_ok-children.children.now children c.args.self.now.reader (c.in_ok-children.ensures.whole keeps children at) h)
