-- Own: the text of a message of the negotiation, which is that of its tree.
use Rattle.std.specs.Prelude.{ℕ, List}
use Rattle.app_schema.specs.Declarations.{negotiation_schema}
use Rattle.app_documents.specs.Trees.{Message, tree_of}
use Rattle.tree_text.specs.TreeText.{IsTreeText}
use Rattle.tree_text.specs.declared.fault.PrintFault.{PrintFault}
use Rattle.tree_text.specs.declared.fault.PrintFault.TheVariants.{Refused, Memory}
use Rattle.app_protocol.specs.Documents.{IsApp, IsAppRefused}

-- the text of a message
abbrev pub IsAppText : Message → List ℕ → Type 0
IsAppText m text = IsTreeText negotiation_schema (tree_of m) text

-- a payload spells a message, and this is its text
abbrev pub IsPrinted : List ℕ → List ℕ → Type 0
IsPrinted payload text = (m : Message) × IsApp m payload × IsAppText m text

-- a payload is refused so. Want of memory comes freely
abbrev pub IsAppFault : List ℕ → PrintFault → Type 0
IsAppFault payload (Refused refusal) = IsAppRefused payload refusal.cause refusal.bit
IsAppFault payload Memory = Unit {0}
