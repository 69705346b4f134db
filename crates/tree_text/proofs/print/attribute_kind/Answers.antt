use Rattle.std.proofs.Common.{arith}
use Rattle.exi_schema.specs.Told.{schema_of}
use Rattle.tree_text.proofs.Attributes.{one_attribute, found_offered, offered_below}
use Rattle.tree_text.proofs.print.attribute_kind.Goals as goal

pub returns-in-loop-code-clause-one : goal.returns-in-loop-code-clause-one
returns-in-loop-code-clause-one c kind next h =
    (one_attribute (schema_of c.args.schema.now) c.args.here c.args.name kind c.in-Attribute.kind next c.in-Attribute.next c.requires.place h
    (found_offered (schema_of c.args.schema.now) c.args.here c.in-Attribute.next c.in-Attribute.other c.args.name c.in-Attribute.kind _ c.in-Attribute.ensures.taken c.if-other-name.true)).0

pub unreachable-requires : goal.unreachable-requires
unreachable-requires c =
    offered_below (schema_of c.args.schema.now) c.args.here c.requires.offered.1 c.args.name c.requires.offered.0 c.loop-code.code c.loop-code.invariant (omega (arith, c.alternatives-code-end.ensures, c.loop-code-test.false)) c.requires.offered.2
