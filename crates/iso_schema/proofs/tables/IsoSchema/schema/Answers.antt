use Rattle.std.proofs.Common.{ap, ◌∙◌}
use Rattle.exi_schema.specs.Plain.{plain_kinds}
use Rattle.iso_schema.proofs.Same.{fits, same}
use Rattle.iso_schema.proofs.tables.IsoSchema.schema.Goals as goal

pub invariant_of-result : goal.invariant_of-result
invariant_of-result c = record { fits = fits _ _ _ (ap plain_kinds c.as_slice.ensures.value ∙ c.args.self.now.kinds_are) c.names.ensures c.values.ensures }

pub returns : goal.returns
returns c = same _ _ _ (ap plain_kinds c.as_slice.ensures.value ∙ c.args.self.now.kinds_are) c.names.ensures c.values.ensures _
