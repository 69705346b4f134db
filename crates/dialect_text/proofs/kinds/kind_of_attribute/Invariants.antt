use Rattle.std.proofs.Common.{◌≡◌, drop}
use Rattle.dialect_text.specs.Dialect.{attribute_named}
use Rattle.dialect_text.proofs.kinds.kind_of_attribute.Given as goal

abbrev pub invariant-loop-attribute : goal.invariant-loop-attribute
invariant-loop-attribute l = attribute_named (drop l.attribute-index l.attributes) l.name ≡ attribute_named l.attributes l.name
