-- DIN SPEC 70121:2014 9.2 and 9.3, message, header and body: the payloads of messages.
use Rattle.std.specs.Prelude.{ℕ, List, [], ◌∷◌}
use Rattle.exi_documents.specs.declared.refusal.RefusalCause.{RefusalCause}
use Rattle.exi_documents.specs.Documents.{IsDocument, IsEncoding}
use Rattle.exi_documents.specs.Refusals.{IsRefused}
use Rattle.exi_documents.specs.Trees.{Tree}
use Rattle.message_parts.specs.Contents.{Inside, holding, root_of}
use Rattle.message_parts.specs.Documents.{IsWritable, PassesBytes as DocumentPasses, TellsBits as DocumentTells}
use Rattle.fitting_parts.specs.Fitting.{FitsParts}
use Rattle.din_schema.specs.Declarations.{kinds, schema}
use Rattle.din_schema.specs.Frame.{v2g_message}
use Rattle.din_schema.specs.declared.names.TheConstants.{V2G_MESSAGE}
use Rattle.din_schema.specs.declared.kinds.TheConstants.{V2G_MESSAGE_KIND}
use Rattle.din_message.specs.declared.message.DinMessage.{DinMessage}
use Rattle.din_message.specs.Message.{din_message_parts}

-- the one root
abbrev pub din_roots : List (ℕ × ℕ)
din_roots = (V2G_MESSAGE, V2G_MESSAGE_KIND) ∷ []

-- its document number
abbrev pub din_number : ℕ
din_number = 77

abbrev pub din_inside : DinMessage → Inside
din_inside m = holding (din_message_parts m)

abbrev pub din_tree : DinMessage → Tree
din_tree m = root_of V2G_MESSAGE (din_inside m)

-- a payload spells a message
abbrev pub IsDin : DinMessage → List ℕ → Type 0
IsDin m payload = IsDocument schema (din_tree m) payload

-- a payload spells none; this is its refusal
abbrev pub IsDinRefused : List ℕ → RefusalCause → ℕ → Type 0
IsDinRefused payload why bit = IsRefused schema payload why bit

-- a message that can be written: some bits are written for it
abbrev pub IsDinMessage : DinMessage → Type 0
IsDinMessage m = IsWritable schema din_number (din_tree m)

-- its parts hold what is declared, each value within its range
abbrev pub IsWithin : DinMessage → Type 0
IsWithin m = FitsParts kinds v2g_message (din_message_parts m)

-- the one payload that is written for a message
abbrev pub IsDinEncoding : DinMessage → List ℕ → Type 0
IsDinEncoding m payload = IsEncoding schema (din_tree m) payload

-- its bits are more than so many bytes hold
abbrev pub PassesBytes : DinMessage → ℕ → Type 0
PassesBytes m bytes = DocumentPasses schema din_number (din_tree m) bytes

-- how many they are is told: exactly, up to those of 65,536 bytes
abbrev pub TellsBits : DinMessage → ℕ → Type 0
TellsBits m told = DocumentTells schema din_number (din_tree m) told
