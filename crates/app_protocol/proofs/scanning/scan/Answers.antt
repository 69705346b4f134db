use Rattle.std.proofs.Common.{◌≡◌, true, subst, sym, IfOk, IfErr}
use Rattle.std.proofs.lemmas.Result.{IfOk-weaker, IfErr-weaker}
use Rattle.exi_schema.specs.Schemas.{PlainSchema}
use Rattle.tree_text.specs.Consistent.{are_consistent}
use Rattle.tree_text.specs.Scans.{IsEncodedText, IsScanFault}
use Rattle.app_protocol.proofs.Consistency.{is_consistent_negotiation}
use Rattle.app_protocol.proofs.Scanned.{message_scanned, scan_fault_told}
use Rattle.app_protocol.proofs.scanning.scan.Goals as goal

pub returns-clause-scanned : goal.returns-clause-scanned
returns-clause-scanned c =
    IfOk-weaker c.scan_tree.result _ _ (λ payload. message_scanned c.args.text.now _)
    (subst (λ (s : PlainSchema). IfOk c.scan_tree.result (IsEncodedText s c.args.text.now)) c.negotiation.ensures c.scan_tree.ensures.encoded)

pub returns-clause-fault : goal.returns-clause-fault
returns-clause-fault c =
    IfErr-weaker c.scan_tree.result _ _ (scan_fault_told c.args.text.now)
    (subst (λ (s : PlainSchema). IfErr c.scan_tree.result (IsScanFault s c.args.text.now)) c.negotiation.ensures c.scan_tree.ensures.fault)

pub scan_tree-requires : goal.scan_tree-requires
scan_tree-requires c = record { consistent = subst (λ (s : PlainSchema). are_consistent s.kinds ≡ true) (sym c.negotiation.ensures) is_consistent_negotiation }
