-- ISO 15118-2:2014 8.3, message, header and body: the payloads of messages.
use Rattle.std.specs.Prelude.{ℕ, List, [], ◌∷◌}
use Rattle.exi_documents.specs.declared.refusal.RefusalCause.{RefusalCause}
use Rattle.exi_documents.specs.Documents.{IsDocument, IsEncoding}
use Rattle.exi_documents.specs.Refusals.{IsRefused}
use Rattle.exi_documents.specs.Trees.{Tree}
use Rattle.message_parts.specs.Contents.{Inside, holding, root_of}
use Rattle.message_parts.specs.Documents.{IsWritable, PassesBytes as DocumentPasses, TellsBits as DocumentTells}
use Rattle.fitting_parts.specs.Fitting.{FitsParts}
use Rattle.iso_schema.specs.Declarations.{kinds, schema}
use Rattle.iso_schema.specs.Frame.{v2g_message}
use Rattle.iso_schema.specs.declared.names.TheConstants.{V2G_MESSAGE}
use Rattle.iso_schema.specs.declared.kinds.TheConstants.{V2G_MESSAGE_KIND}
use Rattle.iso_message.specs.declared.message.IsoMessage.{IsoMessage}
use Rattle.iso_message.specs.Message.{iso_message_parts}

-- the one root
abbrev pub iso_roots : List (ℕ × ℕ)
iso_roots = (V2G_MESSAGE, V2G_MESSAGE_KIND) ∷ []

-- its document number
abbrev pub iso_number : ℕ
iso_number = 76

abbrev pub iso_inside : IsoMessage → Inside
iso_inside m = holding (iso_message_parts m)

abbrev pub iso_tree : IsoMessage → Tree
iso_tree m = root_of V2G_MESSAGE (iso_inside m)

-- a payload spells a message
abbrev pub IsIso : IsoMessage → List ℕ → Type 0
IsIso m payload = IsDocument schema (iso_tree m) payload

-- a payload spells none; this is its refusal
abbrev pub IsIsoRefused : List ℕ → RefusalCause → ℕ → Type 0
IsIsoRefused payload why bit = IsRefused schema payload why bit

-- a message that can be written: some bits are written for it
abbrev pub IsIsoMessage : IsoMessage → Type 0
IsIsoMessage m = IsWritable schema iso_number (iso_tree m)

-- its parts hold what is declared, each value within its range
abbrev pub IsWithin : IsoMessage → Type 0
IsWithin m = FitsParts kinds v2g_message (iso_message_parts m)

-- the one payload that is written for a message
abbrev pub IsIsoEncoding : IsoMessage → List ℕ → Type 0
IsIsoEncoding m payload = IsEncoding schema (iso_tree m) payload

-- its bits are more than so many bytes hold
abbrev pub PassesBytes : IsoMessage → ℕ → Type 0
PassesBytes m bytes = DocumentPasses schema iso_number (iso_tree m) bytes

-- how many they are is told: exactly, up to those of 65,536 bytes
abbrev pub TellsBits : IsoMessage → ℕ → Type 0
TellsBits m told = DocumentTells schema iso_number (iso_tree m) told
