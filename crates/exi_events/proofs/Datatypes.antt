-- The datatype of a simple kind is one.
use Rattle.std.proofs.Common.{◌≡◌, ℕ, true, length, Option, Some, None, refl, subst, sym}
use Rattle.std.specs.Prelude.{slice_get}
use Rattle.exi_schema.specs.Schemas.{PlainSchema, is_datatype}
use Rattle.exi_schema.specs.declared.tables.Datatype.{Datatype}
use Rattle.exi_schema.specs.Plain.{PlainKind, valued, containing}
use Rattle.exi_schema.specs.Steps.{datatype_of, simple_at}
use Rattle.exi_schema.proofs.Conditions.{kinds_of, declared}

pub fits_by : (s : PlainSchema) (kind : ℕ) (o : Option PlainKind) (d : Datatype) → slice_get s.kinds kind ≡ o → Some d ≡ datatype_of o → is_datatype d ≡ true
fits_by s kind None d at is = absurd cc
fits_by s kind (Some (containing attributes particles)) d at is = absurd cc
fits_by s kind (Some (valued e)) d at is =
    let same : d ≡ e = cc in
    let P : Datatype → Type 0 = λ x. is_datatype x ≡ true in
    subst P (sym same) (declared (length s.names) s.kinds kind (valued e)
    (kinds_of s.kinds s.names s.values s.root_bits s.roots s.fits) at)

pub datatype_fits : (s : PlainSchema) (kind : ℕ) (d : Datatype) → Some d ≡ simple_at s.kinds kind → is_datatype d ≡ true
datatype_fits s kind d is = fits_by s kind (slice_get s.kinds kind) d refl is
