use Rattle.std.proofs.Common.{length}
use Rattle.std.proofs.lemmas.Result.{err_from_is_err_and}
use Rattle.exi_events.proofs.Innermost.{step_refused, attribute_refused, content_refused, attribute_took, content_took, element_took, goes_open, push_room, push_open, took_stays, as_step, is_step, is_plain, same_value, same_refused}
use Rattle.exi_events.proofs.inside.take_inside.Goals as goal

pub returns-in_err-name-clause-refused : goal.returns-in_err-name-clause-refused
returns-in_err-name-clause-refused g c =
    let p = err_from_is_err_and c.from_residual.result c.from_residual.ensures.1 in
    rw (p.1, p.2) (step_refused (g.P.Places.schema c.args.places.now) c.args.elements.now c.args.top _ _ _ _ _ c.requires.top c.in_err-name.ensures.refused c.in_err-name.ensures.at)

pub returns-in_err-value-in-Attribute-clause-refused : goal.returns-in_err-value-in-Attribute-clause-refused
returns-in_err-value-in-Attribute-clause-refused g c =
    let p = err_from_is_err_and c.from_residual-in_err-value-in-Attribute.result c.from_residual-in_err-value-in-Attribute.ensures.1 in
    rw (p.1, p.2) (attribute_refused (g.P.Places.schema c.args.places.now) c.args.reader.now c.take_step.new.reader c.args.elements.now c.args.top _ c.in-Attribute.name c.in-Attribute.kind c.in-Attribute.next _ _ c.requires.top
    (as_step _ _ _ _ _ _ c.in-Attribute.is c.in_ok-name.ensures.ok) (same_refused (g.P.Places.schema c.args.places.now).kinds c.in-Attribute.kind _ _ _ _ _ _ _ _ c.in_ok-name.ensures.same c.in_err-value-in-Attribute.ensures.refused))

pub push-requires : goal.push-requires
push-requires g c =
    (push_room (g.P.Places.schema c.args.places.now).kinds (length (g.P.Places.schema c.args.places.now).names) c.args.elements.now c.goes_to-in-Element.new.self c.args.top c.in-Element.name c.in-Element.kind c.in-Element.next c.in-Element.standing c.in-Element.past_limit
    c.requires.top c.goes_to-in-Element.ensures c.requires.elements (is_step _ _ _ _ _ c.in-Element.is c.in_ok-name.ensures.of_schema)).0

pub returns-in_err-value-in-Characters-clause-refused : goal.returns-in_err-value-in-Characters-clause-refused
returns-in_err-value-in-Characters-clause-refused g c =
    let p = err_from_is_err_and c.from_residual-in_err-value-in-Characters.result c.from_residual-in_err-value-in-Characters.ensures.1 in
    rw (p.1, p.2) (content_refused (g.P.Places.schema c.args.places.now) c.args.reader.now c.take_step.new.reader c.args.elements.now c.args.top _ c.in-Characters.next _ _ c.requires.top
    (as_step _ _ _ _ _ _ c.in-Characters.is c.in_ok-name.ensures.ok) (same_refused (g.P.Places.schema c.args.places.now).kinds c.args.top.place.kind _ _ _ _ _ _ _ _ c.in_ok-name.ensures.same c.in_err-value-in-Characters.ensures.refused))

pub returns-in_ok-value-in-Attribute-clause-ok : goal.returns-in_ok-value-in-Attribute-clause-ok
returns-in_ok-value-in-Attribute-clause-ok g c =
    attribute_took (g.P.Places.schema c.args.places.now) c.args.reader.now c.take_step.new.reader c.take_value.new.reader c.args.elements.now c.goes_to.new.self c.args.top _ _ c.in-Attribute.name c.in-Attribute.kind c.in-Attribute.next c.in_ok-value-in-Attribute.value
    c.requires.top c.goes_to.ensures (as_step _ _ _ _ _ _ c.in-Attribute.is c.in_ok-name.ensures.ok) (same_value (g.P.Places.schema c.args.places.now).kinds c.in-Attribute.kind _ _ _ _ _ _ _ _ c.in_ok-name.ensures.same c.in_ok-value-in-Attribute.ensures.ok)

pub returns-in_ok-value-in-Attribute-clause-elements : goal.returns-in_ok-value-in-Attribute-clause-elements
returns-in_ok-value-in-Attribute-clause-elements g c =
    goes_open (g.P.Places.schema c.args.places.now).kinds c.args.elements.now c.goes_to.new.self c.args.top c.in-Attribute.next c.requires.top c.goes_to.ensures c.requires.elements
    (is_step _ _ _ _ _ c.in-Attribute.is c.in_ok-name.ensures.of_schema).3 (took_stays _ _ _ _ _ (as_step _ _ _ _ _ _ c.in-Attribute.is c.in_ok-name.ensures.ok))

pub returns-in-Element-clause-ok : goal.returns-in-Element-clause-ok
returns-in-Element-clause-ok g c =
    element_took (g.P.Places.schema c.args.places.now) c.args.reader.now c.take_step.new.reader c.args.elements.now c.goes_to-in-Element.new.self c.push.new.self c.args.top _ c.in-Element.name c.in-Element.kind c.in-Element.next c.first.result c.in-Element.standing c.in-Element.past_limit
    c.requires.top c.goes_to-in-Element.ensures c.push.ensures c.first.ensures.first (is_plain _ _ c.in-Element.is c.in_ok-name.ensures.taken) (as_step _ _ _ _ _ _ c.in-Element.is c.in_ok-name.ensures.ok)

pub returns-in-Element-clause-elements : goal.returns-in-Element-clause-elements
returns-in-Element-clause-elements g c =
    let is = is_step _ _ _ _ _ c.in-Element.is c.in_ok-name.ensures.of_schema in
    push_open (g.P.Places.schema c.args.places.now) c.args.elements.now c.goes_to-in-Element.new.self c.push.new.self c.args.top c.in-Element.name c.in-Element.kind c.in-Element.next c.first.result c.in-Element.standing c.in-Element.past_limit
    c.requires.top c.goes_to-in-Element.ensures c.push.ensures c.first.ensures.first (c.first.ensures.of_schema (g.P.Places.schema c.args.places.now) is.1) c.requires.elements is
    (took_stays _ _ _ _ _ (as_step _ _ _ _ _ _ c.in-Element.is c.in_ok-name.ensures.ok))

pub returns-in_ok-value-in-Characters-clause-ok : goal.returns-in_ok-value-in-Characters-clause-ok
returns-in_ok-value-in-Characters-clause-ok g c =
    content_took (g.P.Places.schema c.args.places.now) c.args.reader.now c.take_step.new.reader c.take_value-in-Characters.new.reader c.args.elements.now c.goes_to-in-Characters.new.self c.args.top _ _ c.in-Characters.next c.in_ok-value-in-Characters.value
    c.requires.top c.goes_to-in-Characters.ensures (as_step _ _ _ _ _ _ c.in-Characters.is c.in_ok-name.ensures.ok) (same_value (g.P.Places.schema c.args.places.now).kinds c.args.top.place.kind _ _ _ _ _ _ _ _ c.in_ok-name.ensures.same c.in_ok-value-in-Characters.ensures.ok)
