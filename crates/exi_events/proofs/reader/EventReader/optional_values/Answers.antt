use Rattle.std.proofs.Common.{refl, sym, subst}
use Rattle.exi_schema.specs.declared.places.OptionalSequence.{OptionalSequence}
use Rattle.exi_events.specs.Optional.{HoldsTwoOrThree}
use Rattle.exi_events.proofs.reader.EventReader.optional_values.Goals as goal

pub returns-in_err-children-clause-whole : goal.returns-in_err-children-clause-whole
returns-in_err-children-clause-whole g c none keeps taken children at h = c.in_err-children.ensures.none refl keeps children at

pub returns-clause-whole : goal.returns-clause-whole
returns-clause-whole g c none keeps taken children at h =
    c.take_optional_sequence.ensures.whole none
    (subst (λ (x : OptionalSequence). HoldsTwoOrThree x c.args.self.now.reader) (sym (c.in_ok-children.ensures.whole keeps children at)) h)
