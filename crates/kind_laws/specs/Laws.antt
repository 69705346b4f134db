-- Own: what a schema says of trees, what documents spell, and what the grammar tells is one.
use Rattle.std.specs.Prelude.{◌≡◌, ℕ, Bool, List, ◌++◌, reverse}
use Rattle.exi_schema.specs.Schemas.{PlainSchema}
use Rattle.exi_documents.specs.Trees.{Tree, Event, document_events}
use Rattle.exi_documents.specs.Values.{Entries, SpellsValue}
use Rattle.exi_documents.specs.Documents.{SpellsDocument, IsEncoding, IsDocument}
use Rattle.exi_documents.specs.Grammar.{Behind, stands, Reaches}
use Rattle.document_laws.specs.Laws.{AreBytes}
use Rattle.kind_laws.specs.Kinds.{FitsSchema}
use Rattle.kind_laws.specs.Texts.{HasFewTexts}

-- a tree that holds what the schema says, of no more different texts than a document may enter
abbrev pub IsOfSchema : PlainSchema → Tree → Type 0
IsOfSchema s tree = FitsSchema s tree × HasFewTexts tree

-- a tree has an encoding
pub record HasEncoding (s : PlainSchema) (tree : Tree) : Type 0 where
  pub payload : List ℕ
  pub are_bytes : AreBytes payload
  pub encoding : IsEncoding s tree payload

-- a payload spells it
pub record HasDocument (s : PlainSchema) (tree : Tree) : Type 0 where
  pub payload : List ℕ
  pub document : IsDocument s tree payload

-- the grammar leads along its events from the start to behind the root
pub record IsToldIn (s : PlainSchema) (tree : Tree) : Type 0 where
  pub number : ℕ
  pub bits : List Bool
  pub entries : Entries
  pub reached : Reaches SpellsValue s (reverse (document_events number tree)) bits (stands Behind entries)

-- bits that spell these events, the newest first, go on to those of a document, whose events go on from these
pub record BeginsDocument (s : PlainSchema) (events : List Event) (bits : List Bool) : Type 0 where
  pub number : ℕ
  pub tree : Tree
  pub more : List Event
  pub rest : List Bool
  pub spelled : SpellsDocument SpellsValue s number tree (bits ++ rest)
  pub events_are : document_events number tree ≡ reverse events ++ more
