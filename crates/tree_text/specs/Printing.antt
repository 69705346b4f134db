-- Own: what a printer does with events, and what is wrong where no text is printed.
use Rattle.std.specs.Prelude.{◌≡◌, ℕ, List, Option, Some, None}
use Rattle.exi_schema.specs.Schemas.{PlainSchema}
use Rattle.exi_documents.specs.Refusals.{IsRefused}
use Rattle.exi_documents.specs.Trees.{Event as TreeEvent}
use Rattle.exi_values.specs.declared.Event.{Event}
use Rattle.exi_values.specs.Meaning.{event_of}
use Rattle.tree_text.specs.declared.print.TextEnd.{TextEnd}
use Rattle.tree_text.specs.EventText.{end_of}
use Rattle.tree_text.specs.declared.fault.PrintFault.{PrintFault}
use Rattle.tree_text.specs.declared.fault.PrintFault.TheVariants.{Refused, Memory}

-- a payload is refused so. Want of memory comes freely
abbrev pub IsFaultOf : PlainSchema → List ℕ → PrintFault → Type 0
IsFaultOf s payload (Refused refusal) = IsRefused s payload refusal.cause refusal.bit
IsFaultOf s payload Memory = Unit {0}

-- what a text ends with behind an event
abbrev pub IsEndBehind : Option TreeEvent → TextEnd → Type 0
IsEndBehind (Some told) end = end ≡ end_of told
IsEndBehind None end = Unit {0}

abbrev pub IsEnd : Event → TextEnd → Type 0
IsEnd event end = IsEndBehind (event_of event) end
