use Rattle.std.proofs.Common.{refl}
use Rattle.exi_schema.proofs.OneSchema.{one_schema}
use Rattle.compiled_places.proofs.sets.compare_sets.Goals as goal

pub compile-requires : goal.compile-requires
compile-requires c = one_schema _ _ refl refl refl refl refl
