use Rattle.std.proofs.Common.{refl}
use Rattle.exi_schema.proofs.OneSchema.{one_schema}
use Rattle.parts_examples.proofs.tables.report_schema.Goals as goal

pub returns-clause-schema : goal.returns-clause-schema
returns-clause-schema c = one_schema _ _ refl refl refl refl refl

pub returns-clause-ordered : goal.returns-clause-ordered
returns-clause-ordered c = refl
