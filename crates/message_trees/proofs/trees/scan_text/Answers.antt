use Rattle.std.proofs.Common.{◌≡◌, true, subst, sym, ap, ◌∙◌, IfOk, IfErr}
use Rattle.std.proofs.lemmas.Result.{IfOk-weaker}
use Rattle.exi_schema.specs.Schemas.{PlainSchema}
use Rattle.tree_text.specs.Consistent.{are_consistent}
use Rattle.tree_text.specs.Scans.{IsEncodedText, IsScanFault}
use Rattle.message_dialects.specs.Dialects.{declarations}
use Rattle.message_trees.proofs.Consistency.{consistent}
use Rattle.message_trees.proofs.Messages.{scanned}
use Rattle.message_trees.proofs.trees.scan_text.Goals as goal

pub scan_tree-requires : goal.scan_tree-requires
scan_tree-requires c =
    let same = c.schema.ensures ∙ ap declarations c.in_ok-tables.ensures in
    record { consistent = subst (λ (s : PlainSchema). are_consistent s.kinds ≡ true) (sym same) (consistent c.args.dialect) }

pub returns-clause-scanned : goal.returns-clause-scanned
returns-clause-scanned c =
    let same = c.schema.ensures ∙ ap declarations c.in_ok-tables.ensures in
    IfOk-weaker c.scan_tree.result _ _ (scanned c.args.dialect c.args.text.now)
    (subst (λ (s : PlainSchema). IfOk c.scan_tree.result (IsEncodedText s c.args.text.now)) same c.scan_tree.ensures.encoded)

pub returns-clause-fault : goal.returns-clause-fault
returns-clause-fault c =
    let same = c.schema.ensures ∙ ap declarations c.in_ok-tables.ensures in
    subst (λ (s : PlainSchema). IfErr c.scan_tree.result (IsScanFault s c.args.text.now)) same c.scan_tree.ensures.fault
