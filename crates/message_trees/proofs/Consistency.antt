-- The declarations of each dialect are consistent.
use Rattle.std.proofs.Common.{◌≡◌, true, refl}
use Rattle.tree_text.specs.Consistent.{are_consistent}
use Rattle.message_dialects.specs.Dialects.{declarations}
use Rattle.message_dialects.specs.declared.dialect.MessageDialect.{MessageDialect}
use Rattle.message_dialects.specs.declared.dialect.MessageDialect.TheVariants.{App, Iso, Din}

pub consistent : (dialect : MessageDialect) → are_consistent (declarations dialect).kinds ≡ true
consistent App = refl
consistent Iso = refl
consistent Din = refl
