-- What is written for a response is short.
use Rattle.std.proofs.Common.{ℕ, ◌≤◌, Bool, List, length, Option, sym, ap, subst, arith}
use Rattle.exi_documents.specs.Documents.{SpellsDocument}
use Rattle.exi_documents.specs.Values.{WritesValue}
use Rattle.document_laws.proofs.Encodings.{document_once, document_spelled}
use Rattle.document_laws.proofs.Written.{value_once}
use Rattle.app_schema.specs.Declarations.{negotiation_schema}
use Rattle.app_documents.specs.Trees.{Message, Response, IsMessage, tree_of}
use Rattle.app_documents.proofs.Encoded.{response_encoded}
use Rattle.app_documents.proofs.OneMessage.{one_message}
use Rattle.app_documents.proofs.Fits.{of_message}

pub response_short : (number code : ℕ) (schema : Option ℕ) (bits : List Bool) → SpellsDocument WritesValue negotiation_schema number (tree_of (Response code schema)) bits → length bits ≤ 28
response_short number code schema bits written =
    let m : Message = Response code schema in
    let spelled = document_spelled negotiation_schema number (tree_of m) bits written in
    let of = of_message number (tree_of m) bits spelled in
    let is : IsMessage m = subst (λ (n : Message). IsMessage n) (sym (one_message m of.0 of.2)) of.1 in
    let short = response_encoded code schema is in
    let one = document_once WritesValue value_once negotiation_schema number 1 (tree_of m) bits short.0 written short.1 in
    omega (arith, short.2, ap length one.1)
