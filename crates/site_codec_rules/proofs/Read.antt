-- Each payload spells a tree, whose word it reads as, or has a refusal.
use Rattle.std.proofs.Common.{ℕ, List, Option, Some, None, refl, inl, inr}
use Rattle.charge_world.specs.declared.offer.Dialect.{Dialect}
use Rattle.charge_world.specs.declared.offer.Dialect.TheVariants as dialect
use Rattle.document_laws.proofs.Payloads.{payload_decided}
use Rattle.session_words.specs.declared.word.Word.{Word}
use Rattle.iso_schema.specs.Declarations as iso_declarations
use Rattle.iso_tables.specs.Words as iso_tables
use Rattle.din_schema.specs.Declarations as din_declarations
use Rattle.din_tables.specs.Words as din_tables
use Rattle.site_codec_rules.specs.Iso as iso
use Rattle.site_codec_rules.specs.Din as din
use Rattle.site_codec_rules.specs.Codecs.{EachIsRead}

iso_read : (payload : List ℕ) → (word : Option Word) × iso.Reads payload word
iso_read payload = elim (payload_decided iso_declarations.schema payload).decided [
  | inl spelled ↦ (Some (iso_tables.word_of_tree spelled.0), record { tree = spelled.0; document = spelled.1; word_is = refl })
  | inr refused ↦ (None, record { why = refused.0; bit = refused.1; refused = refused.2 })
]

din_read : (payload : List ℕ) → (word : Option Word) × din.Reads payload word
din_read payload = elim (payload_decided din_declarations.schema payload).decided [
  | inl spelled ↦ (Some (din_tables.word_of_tree spelled.0), record { tree = spelled.0; document = spelled.1; word_is = refl })
  | inr refused ↦ (None, record { why = refused.0; bit = refused.1; refused = refused.2 })
]

pub each_read : EachIsRead
each_read dialect.Iso payload = iso_read payload
each_read dialect.Din payload = din_read payload
