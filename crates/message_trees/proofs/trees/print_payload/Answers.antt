use Rattle.std.proofs.Common.{subst, ap, ◌∙◌, IfOk, IfErr}
use Rattle.std.specs.String.{string_bytes}
use Rattle.std.proofs.lemmas.Result.{IfOk-weaker}
use Rattle.exi_schema.specs.Schemas.{PlainSchema}
use Rattle.exi_documents.specs.Documents.{IsDocument}
use Rattle.exi_documents.specs.Trees.{Tree}
use Rattle.tree_text.specs.TreeText.{IsTreeText}
use Rattle.tree_text.specs.Printing.{IsFaultOf}
use Rattle.message_dialects.specs.Dialects.{declarations}
use Rattle.message_trees.proofs.Messages.{printed}
use Rattle.message_trees.proofs.trees.print_payload.Goals as goal

pub returns-clause-printed : goal.returns-clause-printed
returns-clause-printed c =
    let same = c.schema.ensures ∙ ap declarations c.in_ok-tables.ensures in
    IfOk-weaker c.print_tree.result _ _ (λ text. printed c.args.dialect c.args.payload.now (string_bytes text))
    (subst (λ (s : PlainSchema). IfOk c.print_tree.result (λ text. (tree : Tree) × IsDocument s tree c.args.payload.now × IsTreeText s tree (string_bytes text)))
    same c.print_tree.ensures.printed)

pub returns-clause-fault : goal.returns-clause-fault
returns-clause-fault c =
    let same = c.schema.ensures ∙ ap declarations c.in_ok-tables.ensures in
    subst (λ (s : PlainSchema). IfErr c.print_tree.result (IsFaultOf s c.args.payload.now)) same c.print_tree.ensures.fault
