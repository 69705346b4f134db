use Rattle.std.proofs.Common.{◌≡◌, take, map}
use Rattle.dialect_text.specs.Awaited.{awaited_attribute}
use Rattle.dialect_text.proofs.names.awaited_attributes.Given as goal

abbrev pub invariant-loop-attribute : goal.invariant-loop-attribute
invariant-loop-attribute l = l.awaited.items ≡ map awaited_attribute (take l.attribute-index l.attributes)
