-- ISO 15118-2:2014 section 8.2: the payloads of the negotiation.
use Rattle.std.specs.Prelude.{ℕ, List}
use Rattle.exi_documents.specs.declared.refusal.RefusalCause.{RefusalCause}
use Rattle.exi_documents.specs.Documents.{IsDocument, IsEncoding}
use Rattle.exi_documents.specs.Refusals.{IsRefused}
use Rattle.message_parts.specs.Documents.{PassesBytes as DocumentPasses, TellsBits as DocumentTells}
use Rattle.app_schema.specs.Declarations.{negotiation_schema}
use Rattle.app_documents.specs.Trees.{Message, IsMessage, tree_of, number_of}

-- a payload spells a message, which is within its ranges
pub record IsApp (m : Message) (payload : List ℕ) : Type 0 where
  pub message : IsMessage m
  pub document : IsDocument negotiation_schema (tree_of m) payload

-- a payload spells none; this is its refusal
abbrev pub IsAppRefused : List ℕ → RefusalCause → ℕ → Type 0
IsAppRefused payload why bit = IsRefused negotiation_schema payload why bit

-- the one payload that is written for a message
abbrev pub IsAppEncoding : Message → List ℕ → Type 0
IsAppEncoding m payload = IsEncoding negotiation_schema (tree_of m) payload

-- its bits are more than so many bytes hold
abbrev pub PassesBytes : Message → ℕ → Type 0
PassesBytes m bytes = DocumentPasses negotiation_schema (number_of m) (tree_of m) bytes

-- how many they are is told: exactly, up to those of 65,536 bytes
abbrev pub TellsBits : Message → ℕ → Type 0
TellsBits m told = DocumentTells negotiation_schema (number_of m) (tree_of m) told
