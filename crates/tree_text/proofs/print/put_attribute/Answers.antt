use Rattle.exi_schema.specs.Told.{schema_of}
use Rattle.tree_text.proofs.Attributes.{on_ok, value_has_text, attribute_put}
use Rattle.tree_text.proofs.print.put_attribute.Goals as goal

pub put_equals-requires-clause-has_text : goal.put_equals-requires-clause-has_text
put_equals-requires-clause-has_text c =
    value_has_text (schema_of c.args.schema.now) c.args.end c.args.here c.args.name c.attribute_kind-kind.result _ c.attribute_kind-kind.ensures.one c.requires.has_text

pub returns : goal.returns
returns c =
    on_ok c.put_equals.result _ _ (λ h. attribute_put (schema_of c.args.schema.now) c.args.end c.args.here c.attribute_kind-kind.ensures.offered.0 c.args.name c.attribute_kind-kind.result _ _ _ _ _ _ _ c.attribute_kind-kind.ensures.offered.1
    c.gap.ensures c.in_ok-push_str.ensures.bytes c.in_ok-push_str-2.ensures.bytes c.in_ok-put_name.ensures h) c.put_equals.ensures
