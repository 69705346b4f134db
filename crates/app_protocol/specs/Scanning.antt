-- Own: the payload of the text of a message of the negotiation, and where a text has none.
use Rattle.std.specs.Prelude.{ℕ, List}
use Rattle.app_schema.specs.Declarations.{negotiation_schema}
use Rattle.app_documents.specs.Trees.{Message}
use Rattle.tree_text.specs.Scans.{IsScanFault}
use Rattle.value_text.specs.declared.fault.ScanFault.{ScanFault}
use Rattle.value_text.specs.declared.fault.ScanFault.TheVariants.{Place, Memory}
use Rattle.app_protocol.specs.Documents.{IsApp, IsAppEncoding}
use Rattle.app_protocol.specs.Printing.{IsAppText}

-- the text of a message within its ranges, and the one payload that is written for it, which spells it
pub record IsAppScanned (text payload : List ℕ) : Type 0 where
  pub message : Message
  pub written : IsAppText message text
  pub encoding : IsAppEncoding message payload
  pub spelled : IsApp message payload

-- a text of no such message is at fault at this character, from 0
abbrev pub IsAppUnscanned : List ℕ → ℕ → Type 0
IsAppUnscanned text place = IsScanFault negotiation_schema text (Place place)

-- a text is refused so. Want of memory comes freely
abbrev pub IsAppScanFault : List ℕ → ScanFault → Type 0
IsAppScanFault text (Place place) = IsAppUnscanned text place
IsAppScanFault text Memory = Unit {0}
