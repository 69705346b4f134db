-- The codes of each dialect are narrow, by computing.
use Rattle.std.proofs.Common.{◌≡◌, true, refl}
use Rattle.app_schema.specs.Declarations.{negotiation_schema}
use Rattle.din_schema.specs.Declarations.{schema as din_messages}
use Rattle.iso_schema.specs.Declarations.{schema as iso_messages}
use Rattle.document_sizes.specs.Sizes.{has_narrow_codes}

pub iso_narrow : has_narrow_codes 6 iso_messages ≡ true
iso_narrow = refl

pub din_narrow : has_narrow_codes 6 din_messages ≡ true
din_narrow = refl

pub app_narrow : has_narrow_codes 2 negotiation_schema ≡ true
app_narrow = refl
