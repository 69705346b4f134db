use Rattle.std.proofs.Common.{refl}
use Rattle.exi_schema.proofs.OneSchema.{one_schema}
use Rattle.app_schema.proofs.tables.negotiation.Goals as goal

pub returns : goal.returns
returns c = one_schema _ _ refl refl refl refl refl
