-- The elements inside a message's tree.
use Rattle.std.proofs.Common.{ℕ, List, ◌∷◌, [], map, Option}
use Rattle.exi_documents.specs.Trees.{Trees, none}
use Rattle.message_parts.specs.Contents.{trees_of, each_trees, perhaps_trees, mapped, holding}
use Rattle.app_documents.specs.Trees.{Offered, offered_parts, request_parts, number}
use Rattle.app_schema.specs.declared.names.TheConstants.{SCHEMA_ID}

abbrev pub fields_of : Offered → Trees
fields_of p = trees_of (offered_parts p)

abbrev pub protocol_trees : List Offered → Trees
protocol_trees protocols = trees_of (request_parts (map (λ p. holding (offered_parts p)) protocols))

abbrev pub schema_tree : Option ℕ → Trees
schema_tree schema = perhaps_trees SCHEMA_ID (mapped number schema) none
