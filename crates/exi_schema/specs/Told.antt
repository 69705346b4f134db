-- Own: the schema that tables tell.
use Rattle.std.specs.Prelude.{map}
use Rattle.exi_schema.specs.declared.schema.Schema.{Schema}
use Rattle.exi_schema.specs.Plain.{plain_kinds}
use Rattle.exi_schema.specs.Schemas.{PlainSchema}

abbrev pub schema_of : Schema → PlainSchema
schema_of s = record {
  kinds = plain_kinds s.kinds.now;
  names = map (λ t. t.now) s.names.now;
  values = map (λ l. map (λ t. t.now) l.now) s.values.now;
  root_bits = s.root_bits;
  roots = s.roots.now;
  fits = s.fits;
}
