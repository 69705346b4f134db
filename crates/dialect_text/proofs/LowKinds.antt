-- The kind of an element is one of the schema.
use Rattle.std.proofs.Common.{◌≡◌, ℕ, ◌<◌, length, Option, Some, None, slice_get, refl}
use Rattle.exi_schema.specs.Schemas.{PlainSchema}
use Rattle.exi_schema.specs.Plain.{PlainKind, valued, containing}
use Rattle.dialect_text.specs.declared.elements.OpenElement.{OpenElement}
use Rattle.dialect_text.specs.Dialect.{element_in, element_of}
use Rattle.dialect_text.proofs.ElementStarts.{element_fits}
use Rattle.dialect_text.proofs.PartsOf.{complex_particles}

pub kind_low : (s : PlainSchema) (top : OpenElement) (name kind : ℕ) → element_of s top.kind name ≡ Some kind → kind < length s.kinds
kind_low s top name kind is = by (slice_get s.kinds top.kind) refl is
  where
    by : (o : Option PlainKind) → slice_get s.kinds top.kind ≡ o → element_in o name ≡ Some kind → kind < length s.kinds
    by None at here = let wrong : None ≡ Some kind = here in absurd cc
    by (Some (valued d)) at here = let wrong : None ≡ Some kind = here in absurd cc
    by (Some (containing attributes particles)) at here = (element_fits s particles name kind (complex_particles s top.kind attributes particles at) here).1
