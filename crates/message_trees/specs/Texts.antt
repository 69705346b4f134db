-- Own: the text of the tree that a payload spells in a dialect, and the payload of a text.
use Rattle.std.specs.Prelude.{◌≡◌, ℕ, ◌≤◌, List, length}
use Rattle.exi_documents.specs.declared.refusal.RefusalCause.{RefusalCause}
use Rattle.exi_documents.specs.Documents.{IsDocument, IsEncoding}
use Rattle.exi_documents.specs.Refusals.{IsRefused}
use Rattle.exi_documents.specs.Trees.{Tree}
use Rattle.tree_text.specs.TreeText.{IsTreeText}
use Rattle.tree_text.specs.Scans.{IsScanFault}
use Rattle.value_text.specs.declared.fault.ScanFault.TheVariants.{Place}
use Rattle.app_documents.specs.Trees.{Message, IsMessage, tree_of}
use Rattle.message_dialects.specs.Dialects.{declarations}
use Rattle.message_dialects.specs.declared.dialect.MessageDialect.{MessageDialect}
use Rattle.message_dialects.specs.declared.dialect.MessageDialect.TheVariants.{App, Iso, Din}

-- the tree is that of a request or of a response within its ranges, in the negotiation
abbrev pub IsMessageTree : MessageDialect → Tree → Type 0
IsMessageTree App tree = (m : Message) × IsMessage m × (tree ≡ tree_of m)
IsMessageTree Iso tree = Unit {0}
IsMessageTree Din tree = Unit {0}

-- a payload spells a tree, which has this text
pub record IsPrinted (dialect : MessageDialect) (payload text : List ℕ) : Type 0 where
  pub tree : Tree
  pub message : IsMessageTree dialect tree
  pub document : IsDocument (declarations dialect) tree payload
  pub written : IsTreeText (declarations dialect) tree text

-- a payload spells no tree; this is its refusal
abbrev pub IsRefusedIn : MessageDialect → List ℕ → RefusalCause → ℕ → Type 0
IsRefusedIn dialect payload why bit = IsRefused (declarations dialect) payload why bit

-- a tree has this text, and this is the one payload that is written for it, which spells it
pub record IsScanned (dialect : MessageDialect) (text payload : List ℕ) : Type 0 where
  pub tree : Tree
  pub message : IsMessageTree dialect tree
  pub written : IsTreeText (declarations dialect) tree text
  pub encoding : IsEncoding (declarations dialect) tree payload
  pub document : IsDocument (declarations dialect) tree payload
  pub few : length payload ≤ 65536

-- a text of no such tree is at fault at this character, from 0
abbrev pub IsUnscanned : MessageDialect → List ℕ → ℕ → Type 0
IsUnscanned dialect text place = IsScanFault (declarations dialect) text (Place place)
