use Rattle.std.proofs.Common.{subst, IfOk, IfErr}
use Rattle.std.specs.String.{string_bytes}
use Rattle.std.proofs.lemmas.Result.{IfOk-weaker, IfErr-weaker}
use Rattle.exi_schema.specs.Schemas.{PlainSchema}
use Rattle.exi_documents.specs.Documents.{IsDocument}
use Rattle.exi_documents.specs.Trees.{Tree}
use Rattle.tree_text.specs.TreeText.{IsTreeText}
use Rattle.tree_text.specs.Printing.{IsFaultOf}
use Rattle.app_protocol.proofs.Printed.{message_printed, fault_told}
use Rattle.app_protocol.proofs.printing.print.Goals as goal

pub returns-clause-printed : goal.returns-clause-printed
returns-clause-printed c = IfOk-weaker c.print_tree.result _ _ (λ text. message_printed c.args.payload.now _) (subst (λ (s : PlainSchema). IfOk c.print_tree.result (λ text. (tree : Tree) × IsDocument s tree c.args.payload.now × IsTreeText s tree (string_bytes text))) c.negotiation.ensures c.print_tree.ensures.printed)

pub returns-clause-fault : goal.returns-clause-fault
returns-clause-fault c = IfErr-weaker c.print_tree.result _ _ (fault_told c.args.payload.now) (subst (λ (s : PlainSchema). IfErr c.print_tree.result (IsFaultOf s c.args.payload.now)) c.negotiation.ensures c.print_tree.ensures.fault)
