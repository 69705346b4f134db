use Rattle.std.proofs.Common.{rules, ◌∙◌, length, sym}
use Rattle.exi_schema.specs.Told.{schema_of}
use Rattle.exi_tables.proofs.Sequenced.{child_follows, end_follows, none_of_many, none_besides, none_past, none_within}
use Rattle.exi_tables.proofs.sequences.following_at.Goals as goal

pub returns-then-alternatives-ne1-clause-none : goal.returns-then-alternatives-ne1-clause-none
returns-then-alternatives-ne1-clause-none c = λ _.
    none_of_many (schema_of c.args.schema.now).kinds c.args.place c.alternatives.result c.alternatives.ensures c.if-alternatives-ne1.true

pub returns-then-not-may_stand-clause-none : goal.returns-then-not-may_stand-clause-none
returns-then-not-may_stand-clause-none c = λ _.
    none_past (schema_of c.args.schema.now).kinds c.args.place c.advance.result c.in-Element.name c.in-Element.kind c.in-Element.next c.in-Element.standing c.in-Element.past_limit
    c.advance.ensures.taken c.in-Element.is (c.may_stand.ensures.other (search (rules, c.if-not-may_stand.true)))

pub returns-in_err-datatype-in-Element-clause-none : goal.returns-in_err-datatype-in-Element-clause-none
returns-in_err-datatype-in-Element-clause-none c = λ _.
    let s = (schema_of c.args.schema.now) in
    none_within s.kinds c.args.place c.advance.result c.in-Element.name c.in-Element.kind c.in-Element.next c.in-Element.standing c.in-Element.past_limit
    c.advance.ensures.taken c.in-Element.is (sym c.datatype.ensures ∙ search rules)

pub returns-in_ok-datatype-in-Element-clause-followed : goal.returns-in_ok-datatype-in-Element-clause-followed
returns-in_ok-datatype-in-Element-clause-followed c =
    let s = schema_of c.args.schema.now in
    let element = c.in-Element in
    let stands = c.may_stand.ensures.here (search (rules, c.if-not-may_stand.false)) in
    child_follows s.kinds (length s.names) c.args.place c.alternatives.result c.advance.result element.name element.kind element.next element.standing element.past_limit c.in_ok-datatype-in-Element.datatype
    c.alternatives.ensures c.if-alternatives-ne1.false c.advance.ensures.taken element.is stands.0 stands.1
    c.advance.ensures.of_schema (sym c.datatype.ensures ∙ c.in_ok-datatype-in-Element.was)

pub returns-in-Attribute-clause-none : goal.returns-in-Attribute-clause-none
returns-in-Attribute-clause-none c = λ _. none_besides (schema_of c.args.schema.now).kinds c.args.place c.advance.result c.advance.ensures.taken c.in-Attribute.is

pub returns-in-End-clause-followed : goal.returns-in-End-clause-followed
returns-in-End-clause-followed c =
    end_follows (schema_of c.args.schema.now).kinds c.args.place c.alternatives.result c.advance.result
    c.alternatives.ensures c.if-alternatives-ne1.false c.advance.ensures.taken c.in-End.is
