-- ISO 15118-2:2014, 8.4.3.8; DIN SPEC 70121:2014, 9.4: the watts of the reply that a payload spells.
use Rattle.std.specs.Prelude.{ℕ, List}
use Rattle.charge_world.specs.declared.offer.Dialect.{Dialect}
use Rattle.charge_world.specs.declared.offer.Dialect.TheVariants as dialect
use Rattle.exi_schema.specs.Schemas.{PlainSchema}
use Rattle.exi_documents.specs.Documents.{IsDocument}
use Rattle.exi_documents.specs.Trees.{Tree}
use Rattle.v2gtp_frames.specs.Frames.{IsPayload}
use Rattle.iso_schema.specs.Declarations.{schema as iso_schema}
use Rattle.din_schema.specs.Declarations.{schema as din_schema}
use Rattle.told_pasts.specs.Spelling.{SpelledWatts}
use Rattle.reply_watts.specs.Replies.{IsoTree, DinTree}

-- the payload of a frame, and a tree that it spells, whose watts these are
pub record PayloadSpells (schema : PlainSchema) (Spells : Tree → SpelledWatts → Type 0) (payload : List ℕ) (s : SpelledWatts) : Type 0 where
  pub short : IsPayload payload
  pub tree : Tree
  pub document : IsDocument schema tree payload
  pub spelled : Spells tree s

abbrev pub Watts : Dialect → List ℕ → SpelledWatts → Type 0
Watts dialect.Iso payload s = PayloadSpells iso_schema IsoTree payload s
Watts dialect.Din payload s = PayloadSpells din_schema DinTree payload s
