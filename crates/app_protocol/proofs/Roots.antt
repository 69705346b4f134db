-- A message in memory and the tree of its document.
use Rattle.std.proofs.Common.{◌≡◌, ℕ, ◌↔◌, List, [], ◌∷◌, map, refl, sym, ap, subst}
use Rattle.exi_documents.specs.Documents.{IsDocument, IsEncoding}
use Rattle.exi_documents.specs.Trees.{Tree}
use Rattle.message_parts.specs.Contents.{holding, root_of}
use Rattle.message_parts.specs.Documents.{IsWritable, PassesBytes as DocumentPasses, TellsBits as DocumentTells}
use Rattle.app_schema.specs.Declarations.{negotiation_schema}
use Rattle.app_schema.specs.declared.names.TheConstants.{REQUEST}
use Rattle.app_documents.specs.Trees.{Message, IsMessage, offered_parts, request_parts, tree_of}
use Rattle.app_documents.proofs.Encoded.{message_encoded}
use Rattle.app_documents.proofs.Fits.{of_message}
use Rattle.app_documents.proofs.OneMessage.{one_message}
use Rattle.app_protocol.specs.declared.message.AppMessage.{AppMessage}
use Rattle.app_protocol.specs.declared.message.AppMessage.TheVariants.{Req, Res}
use Rattle.app_protocol.specs.declared.message.AppProtocol.{AppProtocol}
use Rattle.app_protocol.specs.Documents.{IsApp, IsAppEncoding, PassesBytes, TellsBits}
use Rattle.app_protocol.specs.Messages.{protocol_of, protocol_parts, message_of, root_name, root_inside, root_number}

all_inside : (ps : List AppProtocol) → map (λ p. holding (protocol_parts p)) ps ≡ map (λ p. holding (offered_parts p)) (map protocol_of ps)
all_inside [] = refl
all_inside (p ∷ ps) = ap (λ insides. holding (protocol_parts p) ∷ insides) (all_inside ps)

abbrev pub root_tree : AppMessage → Tree
root_tree m = root_of (root_name m) (root_inside m)

tree_is : (m : AppMessage) → root_tree m ≡ tree_of (message_of m)
tree_is (Req request) = ap (λ insides. root_of REQUEST (holding (request_parts insides))) (all_inside request.protocols.items)
tree_is (Res response) = refl

-- a document of a message's tree is within the message's ranges
within : (m : Message) (payload : List ℕ) → IsDocument negotiation_schema (tree_of m) payload → IsApp m payload
within m payload document =
    let of = of_message document.number (tree_of m) document.bits document.spelled in
    record { message = subst (λ (n : Message). IsMessage n) (sym (one_message m of.0 of.2)) of.1; document = document }

pub is_app : (m : AppMessage) (payload : List ℕ) → IsDocument negotiation_schema (root_tree m) payload → IsApp (message_of m) payload
is_app m payload document = within (message_of m) payload (subst (λ (t : Tree). IsDocument negotiation_schema t payload) (tree_is m) document)

pub is_encoding : (m : AppMessage) (payload : List ℕ) → IsEncoding negotiation_schema (root_tree m) payload → IsAppEncoding (message_of m) payload
is_encoding m payload encoding = subst (λ (t : Tree). IsEncoding negotiation_schema t payload) (tree_is m) encoding

pub is_writable : (m : AppMessage) → IsMessage (message_of m) → IsWritable negotiation_schema (root_number m) (root_tree m)
is_writable m is =
    let written = message_encoded (message_of m) is in
    subst (λ (t : Tree). IsWritable negotiation_schema (root_number m) t) (sym (tree_is m)) (written.0, written.1)

pub tells : (m : AppMessage) (told : ℕ) → DocumentTells negotiation_schema (root_number m) (root_tree m) told → TellsBits (message_of m) told
tells m told h = subst (λ (t : Tree). DocumentTells negotiation_schema (root_number m) t told) (tree_is m) h

pub passes : (m : AppMessage) (bytes : ℕ) → DocumentPasses negotiation_schema (root_number m) (root_tree m) bytes ↔ PassesBytes (message_of m) bytes
passes m bytes = (
  subst (λ (t : Tree). DocumentPasses negotiation_schema (root_number m) t bytes) (tree_is m),
  subst (λ (t : Tree). DocumentPasses negotiation_schema (root_number m) t bytes) (sym (tree_is m)),
)
