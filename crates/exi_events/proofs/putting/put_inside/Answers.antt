use Rattle.std.proofs.Common.{◌≡◌, true, false, length, refl, arith}
use Rattle.std.proofs.lemmas.Bool.{false≢true}
use Rattle.std.proofs.lemmas.Result.{err_from_is_err_and}
use Rattle.exi_bits.specs.Pens.{written_bits}
use Rattle.exi_writing.specs.Meaning.{texts_in}
use Rattle.exi_writing.proofs.Strings.{texts_kept, are_kept}
use Rattle.exi_events.proofs.Limits.{few_code_bits}
use Rattle.exi_events.proofs.Innermost.{goes_open, push_room, push_open, is_step}
use Rattle.exi_events.proofs.Coded.{found_by, found_as, found_stays, found_lacks, found_plain, code_range, attribute_asks, attribute_lacking, attribute_written, characters_asks, characters_lacking, characters_written, element_put, end_put}
use Rattle.exi_events.proofs.putting.put_inside.Goals as goal

pub put_bits-requires-clause-few : goal.put_bits-requires-clause-few
put_bits-requires-clause-few g c =
    few_code_bits _ _ c.requires.found.is_width (omega (arith, c.requires.found.few))

pub put_bits-requires-clause-range : goal.put_bits-requires-clause-range
put_bits-requires-clause-range g c =
    code_range (g.P.Places.schema c.args.places.now) c.args.top.place c.args.offer.step c.args.offer.code c.from.result c.args.offer.width c.from.ensures c.requires.found.is_width c.requires.found.offered

pub returns-in_err-put_bits-clause-full : goal.returns-in_err-put_bits-clause-full
returns-in_err-put_bits-clause-full g c =
    let p = err_from_is_err_and c.from_residual.result c.from_residual.ensures.1 in (
      λ err. found_lacks (g.P.Places.schema c.args.places.now) c.args.elements.now c.args.top (texts_in (written_bits c.args.pen.now) c.args.table.now.entries) c.args.offer.step c.args.event.now c.args.offer.code c.args.offer.width c.args.pen.now c.requires.top c.requires.elements c.requires.found.is_width c.requires.found.offered c.requires.found.meant c.requires.offered (c.in_err-put_bits.ensures.full.0 refl),
      λ lacks. rw p.1 refl,
    )

pub put_value_of-requires-clause-texts : goal.put_value_of-requires-clause-texts
put_value_of-requires-clause-texts g c =
    (are_kept c.args.pen.now c.put_bits.new.self c.args.table.now.entries (_, c.in_ok-put_bits.ensures.ok) c.requires.texts)

pub put_value_of-requires-clause-value : goal.put_value_of-requires-clause-value
put_value_of-requires-clause-value g c =
    attribute_asks (g.P.Places.schema c.args.places.now) c.args.elements.now c.args.top (texts_in (written_bits c.args.pen.now) c.args.table.now.entries) (texts_in (written_bits c.put_bits.new.self) c.args.table.now.entries) (texts_kept c.args.pen.now c.put_bits.new.self _ c.args.table.now.entries c.in_ok-put_bits.ensures.ok c.requires.texts) c.args.event.now c.args.offer.code c.args.offer.width c.args.pen.now c.put_bits.new.self c.in-Attribute.name c.in-Attribute.kind c.in-Attribute.next (found_as (g.P.Places.schema c.args.places.now) c.args.elements.now c.args.top (texts_in (written_bits c.args.pen.now) c.args.table.now.entries) _ _ c.args.event.now c.args.offer.code c.args.offer.width c.args.pen.now c.put_bits.new.self c.in-Attribute.is (found_by (g.P.Places.schema c.args.places.now) c.args.elements.now c.args.top (texts_in (written_bits c.args.pen.now) c.args.table.now.entries) _ c.args.event.now c.args.offer.code c.from.result c.args.offer.width c.args.pen.now c.put_bits.new.self c.from.ensures c.requires.top c.requires.elements c.requires.found.is_width c.requires.found.offered c.requires.found.meant c.requires.offered c.in_ok-put_bits.ensures.ok))

pub returns-in_err-put_value_of-in-Attribute-clause-full : goal.returns-in_err-put_value_of-in-Attribute-clause-full
returns-in_err-put_value_of-in-Attribute-clause-full g c =
    let p = err_from_is_err_and c.from_residual-in_err-put_value_of-in-Attribute.result c.from_residual-in_err-put_value_of-in-Attribute.ensures.1 in
    let full = attribute_lacking (g.P.Places.schema c.args.places.now) c.args.elements.now c.args.top (texts_in (written_bits c.args.pen.now) c.args.table.now.entries) (texts_in (written_bits c.put_bits.new.self) c.args.table.now.entries) (texts_kept c.args.pen.now c.put_bits.new.self _ c.args.table.now.entries c.in_ok-put_bits.ensures.ok c.requires.texts) c.args.event.now c.args.offer.code c.args.offer.width c.args.pen.now c.put_bits.new.self c.in-Attribute.name c.in-Attribute.kind c.in-Attribute.next (true ≡ true) (found_as (g.P.Places.schema c.args.places.now) c.args.elements.now c.args.top (texts_in (written_bits c.args.pen.now) c.args.table.now.entries) _ _ c.args.event.now c.args.offer.code c.args.offer.width c.args.pen.now c.put_bits.new.self c.in-Attribute.is (found_by (g.P.Places.schema c.args.places.now) c.args.elements.now c.args.top (texts_in (written_bits c.args.pen.now) c.args.table.now.entries) _ c.args.event.now c.args.offer.code c.from.result c.args.offer.width c.args.pen.now c.put_bits.new.self c.from.ensures c.requires.top c.requires.elements c.requires.found.is_width c.requires.found.offered c.requires.found.meant c.requires.offered c.in_ok-put_bits.ensures.ok)) c.in_err-put_value_of-in-Attribute.ensures.full in
    (λ err. full.0 refl, λ lacks. rw p.1 refl)

pub returns-in_ok-put_value_of-in-Attribute-clause-ok : goal.returns-in_ok-put_value_of-in-Attribute-clause-ok
returns-in_ok-put_value_of-in-Attribute-clause-ok g c =
    attribute_written (g.P.Places.schema c.args.places.now) c.args.elements.now c.args.top (texts_in (written_bits c.args.pen.now) c.args.table.now.entries) (texts_in (written_bits c.put_bits.new.self) c.args.table.now.entries) (texts_kept c.args.pen.now c.put_bits.new.self _ c.args.table.now.entries c.in_ok-put_bits.ensures.ok c.requires.texts) c.args.event.now c.args.offer.code c.args.offer.width c.args.pen.now c.put_bits.new.self c.in-Attribute.name c.in-Attribute.kind c.in-Attribute.next c.goes_to.new.self (texts_in (written_bits c.put_value_of.new.pen) c.put_value_of.new.table.entries) c.put_value_of.new.pen (found_as (g.P.Places.schema c.args.places.now) c.args.elements.now c.args.top (texts_in (written_bits c.args.pen.now) c.args.table.now.entries) _ _ c.args.event.now c.args.offer.code c.args.offer.width c.args.pen.now c.put_bits.new.self c.in-Attribute.is (found_by (g.P.Places.schema c.args.places.now) c.args.elements.now c.args.top (texts_in (written_bits c.args.pen.now) c.args.table.now.entries) _ c.args.event.now c.args.offer.code c.from.result c.args.offer.width c.args.pen.now c.put_bits.new.self c.from.ensures c.requires.top c.requires.elements c.requires.found.is_width c.requires.found.offered c.requires.found.meant c.requires.offered c.in_ok-put_bits.ensures.ok)) c.goes_to.ensures c.in_ok-put_value_of-in-Attribute.ensures.ok

pub returns-in_ok-put_value_of-in-Attribute-clause-elements : goal.returns-in_ok-put_value_of-in-Attribute-clause-elements
returns-in_ok-put_value_of-in-Attribute-clause-elements g c =
    goes_open (g.P.Places.schema c.args.places.now).kinds c.args.elements.now c.goes_to.new.self c.args.top c.in-Attribute.next c.requires.top c.goes_to.ensures c.requires.elements
    (is_step _ _ _ _ _ c.in-Attribute.is c.requires.found.of_schema).3 (found_stays (g.P.Places.schema c.args.places.now) c.args.elements.now c.args.top (texts_in (written_bits c.args.pen.now) c.args.table.now.entries) _ c.args.event.now c.args.offer.code c.args.offer.width c.args.pen.now c.put_bits.new.self (found_as (g.P.Places.schema c.args.places.now) c.args.elements.now c.args.top (texts_in (written_bits c.args.pen.now) c.args.table.now.entries) _ _ c.args.event.now c.args.offer.code c.args.offer.width c.args.pen.now c.put_bits.new.self c.in-Attribute.is (found_by (g.P.Places.schema c.args.places.now) c.args.elements.now c.args.top (texts_in (written_bits c.args.pen.now) c.args.table.now.entries) _ c.args.event.now c.args.offer.code c.from.result c.args.offer.width c.args.pen.now c.put_bits.new.self c.from.ensures c.requires.top c.requires.elements c.requires.found.is_width c.requires.found.offered c.requires.found.meant c.requires.offered c.in_ok-put_bits.ensures.ok)))

pub returns-in_ok-put_value_of-in-Attribute-clause-full : goal.returns-in_ok-put_value_of-in-Attribute-clause-full
returns-in_ok-put_value_of-in-Attribute-clause-full g c =
    attribute_lacking (g.P.Places.schema c.args.places.now) c.args.elements.now c.args.top (texts_in (written_bits c.args.pen.now) c.args.table.now.entries) (texts_in (written_bits c.put_bits.new.self) c.args.table.now.entries) (texts_kept c.args.pen.now c.put_bits.new.self _ c.args.table.now.entries c.in_ok-put_bits.ensures.ok c.requires.texts) c.args.event.now c.args.offer.code c.args.offer.width c.args.pen.now c.put_bits.new.self c.in-Attribute.name c.in-Attribute.kind c.in-Attribute.next (false ≡ true) (found_as (g.P.Places.schema c.args.places.now) c.args.elements.now c.args.top (texts_in (written_bits c.args.pen.now) c.args.table.now.entries) _ _ c.args.event.now c.args.offer.code c.args.offer.width c.args.pen.now c.put_bits.new.self c.in-Attribute.is (found_by (g.P.Places.schema c.args.places.now) c.args.elements.now c.args.top (texts_in (written_bits c.args.pen.now) c.args.table.now.entries) _ c.args.event.now c.args.offer.code c.from.result c.args.offer.width c.args.pen.now c.put_bits.new.self c.from.ensures c.requires.top c.requires.elements c.requires.found.is_width c.requires.found.offered c.requires.found.meant c.requires.offered c.in_ok-put_bits.ensures.ok)) c.in_ok-put_value_of-in-Attribute.ensures.full

pub put_value_of-requires-in-Characters-clause-texts : goal.put_value_of-requires-in-Characters-clause-texts
put_value_of-requires-in-Characters-clause-texts g c =
    (are_kept c.args.pen.now c.put_bits.new.self c.args.table.now.entries (_, c.in_ok-put_bits.ensures.ok) c.requires.texts)

pub put_value_of-requires-in-Characters-clause-value : goal.put_value_of-requires-in-Characters-clause-value
put_value_of-requires-in-Characters-clause-value g c =
    characters_asks (g.P.Places.schema c.args.places.now) c.args.elements.now c.args.top (texts_in (written_bits c.args.pen.now) c.args.table.now.entries) (texts_in (written_bits c.put_bits.new.self) c.args.table.now.entries) (texts_kept c.args.pen.now c.put_bits.new.self _ c.args.table.now.entries c.in_ok-put_bits.ensures.ok c.requires.texts) c.args.event.now c.args.offer.code c.args.offer.width c.args.pen.now c.put_bits.new.self c.in-Characters.next (found_as (g.P.Places.schema c.args.places.now) c.args.elements.now c.args.top (texts_in (written_bits c.args.pen.now) c.args.table.now.entries) _ _ c.args.event.now c.args.offer.code c.args.offer.width c.args.pen.now c.put_bits.new.self c.in-Characters.is (found_by (g.P.Places.schema c.args.places.now) c.args.elements.now c.args.top (texts_in (written_bits c.args.pen.now) c.args.table.now.entries) _ c.args.event.now c.args.offer.code c.from.result c.args.offer.width c.args.pen.now c.put_bits.new.self c.from.ensures c.requires.top c.requires.elements c.requires.found.is_width c.requires.found.offered c.requires.found.meant c.requires.offered c.in_ok-put_bits.ensures.ok))

pub returns-in_err-put_value_of-in-Characters-clause-full : goal.returns-in_err-put_value_of-in-Characters-clause-full
returns-in_err-put_value_of-in-Characters-clause-full g c =
    let p = err_from_is_err_and c.from_residual-in_err-put_value_of-in-Characters.result c.from_residual-in_err-put_value_of-in-Characters.ensures.1 in
    let full = characters_lacking (g.P.Places.schema c.args.places.now) c.args.elements.now c.args.top (texts_in (written_bits c.args.pen.now) c.args.table.now.entries) (texts_in (written_bits c.put_bits.new.self) c.args.table.now.entries) (texts_kept c.args.pen.now c.put_bits.new.self _ c.args.table.now.entries c.in_ok-put_bits.ensures.ok c.requires.texts) c.args.event.now c.args.offer.code c.args.offer.width c.args.pen.now c.put_bits.new.self c.in-Characters.next (true ≡ true) (found_as (g.P.Places.schema c.args.places.now) c.args.elements.now c.args.top (texts_in (written_bits c.args.pen.now) c.args.table.now.entries) _ _ c.args.event.now c.args.offer.code c.args.offer.width c.args.pen.now c.put_bits.new.self c.in-Characters.is (found_by (g.P.Places.schema c.args.places.now) c.args.elements.now c.args.top (texts_in (written_bits c.args.pen.now) c.args.table.now.entries) _ c.args.event.now c.args.offer.code c.from.result c.args.offer.width c.args.pen.now c.put_bits.new.self c.from.ensures c.requires.top c.requires.elements c.requires.found.is_width c.requires.found.offered c.requires.found.meant c.requires.offered c.in_ok-put_bits.ensures.ok)) c.in_err-put_value_of-in-Characters.ensures.full in
    (λ err. full.0 refl, λ lacks. rw p.1 refl)

pub returns-in_ok-put_value_of-in-Characters-clause-ok : goal.returns-in_ok-put_value_of-in-Characters-clause-ok
returns-in_ok-put_value_of-in-Characters-clause-ok g c =
    characters_written (g.P.Places.schema c.args.places.now) c.args.elements.now c.args.top (texts_in (written_bits c.args.pen.now) c.args.table.now.entries) (texts_in (written_bits c.put_bits.new.self) c.args.table.now.entries) (texts_kept c.args.pen.now c.put_bits.new.self _ c.args.table.now.entries c.in_ok-put_bits.ensures.ok c.requires.texts) c.args.event.now c.args.offer.code c.args.offer.width c.args.pen.now c.put_bits.new.self c.in-Characters.next c.goes_to-in-Characters.new.self (texts_in (written_bits c.put_value_of-in-Characters.new.pen) c.put_value_of-in-Characters.new.table.entries) c.put_value_of-in-Characters.new.pen (found_as (g.P.Places.schema c.args.places.now) c.args.elements.now c.args.top (texts_in (written_bits c.args.pen.now) c.args.table.now.entries) _ _ c.args.event.now c.args.offer.code c.args.offer.width c.args.pen.now c.put_bits.new.self c.in-Characters.is (found_by (g.P.Places.schema c.args.places.now) c.args.elements.now c.args.top (texts_in (written_bits c.args.pen.now) c.args.table.now.entries) _ c.args.event.now c.args.offer.code c.from.result c.args.offer.width c.args.pen.now c.put_bits.new.self c.from.ensures c.requires.top c.requires.elements c.requires.found.is_width c.requires.found.offered c.requires.found.meant c.requires.offered c.in_ok-put_bits.ensures.ok)) c.goes_to-in-Characters.ensures c.in_ok-put_value_of-in-Characters.ensures.ok

pub returns-in_ok-put_value_of-in-Characters-clause-elements : goal.returns-in_ok-put_value_of-in-Characters-clause-elements
returns-in_ok-put_value_of-in-Characters-clause-elements g c =
    goes_open (g.P.Places.schema c.args.places.now).kinds c.args.elements.now c.goes_to-in-Characters.new.self c.args.top c.in-Characters.next c.requires.top c.goes_to-in-Characters.ensures c.requires.elements
    (is_step _ _ _ _ _ c.in-Characters.is c.requires.found.of_schema).1 (found_stays (g.P.Places.schema c.args.places.now) c.args.elements.now c.args.top (texts_in (written_bits c.args.pen.now) c.args.table.now.entries) _ c.args.event.now c.args.offer.code c.args.offer.width c.args.pen.now c.put_bits.new.self (found_as (g.P.Places.schema c.args.places.now) c.args.elements.now c.args.top (texts_in (written_bits c.args.pen.now) c.args.table.now.entries) _ _ c.args.event.now c.args.offer.code c.args.offer.width c.args.pen.now c.put_bits.new.self c.in-Characters.is (found_by (g.P.Places.schema c.args.places.now) c.args.elements.now c.args.top (texts_in (written_bits c.args.pen.now) c.args.table.now.entries) _ c.args.event.now c.args.offer.code c.from.result c.args.offer.width c.args.pen.now c.put_bits.new.self c.from.ensures c.requires.top c.requires.elements c.requires.found.is_width c.requires.found.offered c.requires.found.meant c.requires.offered c.in_ok-put_bits.ensures.ok)))

pub returns-in_ok-put_value_of-in-Characters-clause-full : goal.returns-in_ok-put_value_of-in-Characters-clause-full
returns-in_ok-put_value_of-in-Characters-clause-full g c =
    characters_lacking (g.P.Places.schema c.args.places.now) c.args.elements.now c.args.top (texts_in (written_bits c.args.pen.now) c.args.table.now.entries) (texts_in (written_bits c.put_bits.new.self) c.args.table.now.entries) (texts_kept c.args.pen.now c.put_bits.new.self _ c.args.table.now.entries c.in_ok-put_bits.ensures.ok c.requires.texts) c.args.event.now c.args.offer.code c.args.offer.width c.args.pen.now c.put_bits.new.self c.in-Characters.next (false ≡ true) (found_as (g.P.Places.schema c.args.places.now) c.args.elements.now c.args.top (texts_in (written_bits c.args.pen.now) c.args.table.now.entries) _ _ c.args.event.now c.args.offer.code c.args.offer.width c.args.pen.now c.put_bits.new.self c.in-Characters.is (found_by (g.P.Places.schema c.args.places.now) c.args.elements.now c.args.top (texts_in (written_bits c.args.pen.now) c.args.table.now.entries) _ c.args.event.now c.args.offer.code c.from.result c.args.offer.width c.args.pen.now c.put_bits.new.self c.from.ensures c.requires.top c.requires.elements c.requires.found.is_width c.requires.found.offered c.requires.found.meant c.requires.offered c.in_ok-put_bits.ensures.ok)) c.in_ok-put_value_of-in-Characters.ensures.full

pub push-requires : goal.push-requires
push-requires g c =
    (push_room (g.P.Places.schema c.args.places.now).kinds (length (g.P.Places.schema c.args.places.now).names) c.args.elements.now c.goes_to-in-Element.new.self c.args.top c.in-Element.name c.in-Element.kind c.in-Element.next c.in-Element.standing c.in-Element.past_limit
    c.requires.top c.goes_to-in-Element.ensures c.requires.elements (is_step _ _ _ _ _ c.in-Element.is c.requires.found.of_schema)).0

pub returns-in-Element-clause-ok : goal.returns-in-Element-clause-ok
returns-in-Element-clause-ok g c =
    element_put (g.P.Places.schema c.args.places.now) c.args.elements.now c.args.top (texts_in (written_bits c.args.pen.now) c.args.table.now.entries) c.args.event.now c.args.offer.code c.args.offer.width c.args.pen.now c.put_bits.new.self c.in-Element.name c.in-Element.kind c.in-Element.next c.first.result c.in-Element.standing c.in-Element.past_limit c.goes_to-in-Element.new.self c.push.new.self _ (found_as (g.P.Places.schema c.args.places.now) c.args.elements.now c.args.top (texts_in (written_bits c.args.pen.now) c.args.table.now.entries) _ _ c.args.event.now c.args.offer.code c.args.offer.width c.args.pen.now c.put_bits.new.self c.in-Element.is (found_by (g.P.Places.schema c.args.places.now) c.args.elements.now c.args.top (texts_in (written_bits c.args.pen.now) c.args.table.now.entries) _ c.args.event.now c.args.offer.code c.from.result c.args.offer.width c.args.pen.now c.put_bits.new.self c.from.ensures c.requires.top c.requires.elements c.requires.found.is_width c.requires.found.offered c.requires.found.meant c.requires.offered c.in_ok-put_bits.ensures.ok)) c.goes_to-in-Element.ensures c.push.ensures c.first.ensures.first (texts_kept c.args.pen.now c.put_bits.new.self _ c.args.table.now.entries c.in_ok-put_bits.ensures.ok c.requires.texts)

pub returns-in-Element-clause-elements : goal.returns-in-Element-clause-elements
returns-in-Element-clause-elements g c =
    let is = is_step _ _ _ _ _ c.in-Element.is c.requires.found.of_schema in
    push_open (g.P.Places.schema c.args.places.now) c.args.elements.now c.goes_to-in-Element.new.self c.push.new.self c.args.top c.in-Element.name c.in-Element.kind c.in-Element.next c.first.result c.in-Element.standing c.in-Element.past_limit
    c.requires.top c.goes_to-in-Element.ensures c.push.ensures c.first.ensures.first (c.first.ensures.of_schema (g.P.Places.schema c.args.places.now) is.1) c.requires.elements is
    (found_stays (g.P.Places.schema c.args.places.now) c.args.elements.now c.args.top (texts_in (written_bits c.args.pen.now) c.args.table.now.entries) _ c.args.event.now c.args.offer.code c.args.offer.width c.args.pen.now c.put_bits.new.self (found_as (g.P.Places.schema c.args.places.now) c.args.elements.now c.args.top (texts_in (written_bits c.args.pen.now) c.args.table.now.entries) _ _ c.args.event.now c.args.offer.code c.args.offer.width c.args.pen.now c.put_bits.new.self c.in-Element.is (found_by (g.P.Places.schema c.args.places.now) c.args.elements.now c.args.top (texts_in (written_bits c.args.pen.now) c.args.table.now.entries) _ c.args.event.now c.args.offer.code c.from.result c.args.offer.width c.args.pen.now c.put_bits.new.self c.from.ensures c.requires.top c.requires.elements c.requires.found.is_width c.requires.found.offered c.requires.found.meant c.requires.offered c.in_ok-put_bits.ensures.ok)))

pub returns-in-Element-clause-texts : goal.returns-in-Element-clause-texts
returns-in-Element-clause-texts g c =
    (are_kept c.args.pen.now c.put_bits.new.self c.args.table.now.entries (_, c.in_ok-put_bits.ensures.ok) c.requires.texts)

pub returns-in-Element-clause-full : goal.returns-in-Element-clause-full
returns-in-Element-clause-full g c =
    (λ no. absurd (false≢true no), λ lacks. absurd (found_plain (g.P.Places.schema c.args.places.now) c.args.elements.now c.args.top (texts_in (written_bits c.args.pen.now) c.args.table.now.entries) _ c.args.event.now c.args.offer.code c.args.offer.width c.args.pen.now c.put_bits.new.self (found_as (g.P.Places.schema c.args.places.now) c.args.elements.now c.args.top (texts_in (written_bits c.args.pen.now) c.args.table.now.entries) _ _ c.args.event.now c.args.offer.code c.args.offer.width c.args.pen.now c.put_bits.new.self c.in-Element.is (found_by (g.P.Places.schema c.args.places.now) c.args.elements.now c.args.top (texts_in (written_bits c.args.pen.now) c.args.table.now.entries) _ c.args.event.now c.args.offer.code c.from.result c.args.offer.width c.args.pen.now c.put_bits.new.self c.from.ensures c.requires.top c.requires.elements c.requires.found.is_width c.requires.found.offered c.requires.found.meant c.requires.offered c.in_ok-put_bits.ensures.ok)) tt lacks))

pub returns-in-End-clause-ok : goal.returns-in-End-clause-ok
returns-in-End-clause-ok g c =
    end_put (g.P.Places.schema c.args.places.now) c.args.elements.now c.args.top (texts_in (written_bits c.args.pen.now) c.args.table.now.entries) c.args.event.now c.args.offer.code c.args.offer.width c.args.pen.now c.put_bits.new.self c.pop.new.self _ (found_as (g.P.Places.schema c.args.places.now) c.args.elements.now c.args.top (texts_in (written_bits c.args.pen.now) c.args.table.now.entries) _ _ c.args.event.now c.args.offer.code c.args.offer.width c.args.pen.now c.put_bits.new.self c.in-End.is (found_by (g.P.Places.schema c.args.places.now) c.args.elements.now c.args.top (texts_in (written_bits c.args.pen.now) c.args.table.now.entries) _ c.args.event.now c.args.offer.code c.from.result c.args.offer.width c.args.pen.now c.put_bits.new.self c.from.ensures c.requires.top c.requires.elements c.requires.found.is_width c.requires.found.offered c.requires.found.meant c.requires.offered c.in_ok-put_bits.ensures.ok)) c.pop.ensures (texts_kept c.args.pen.now c.put_bits.new.self _ c.args.table.now.entries c.in_ok-put_bits.ensures.ok c.requires.texts)

pub returns-in-End-clause-texts : goal.returns-in-End-clause-texts
returns-in-End-clause-texts g c =
    (are_kept c.args.pen.now c.put_bits.new.self c.args.table.now.entries (_, c.in_ok-put_bits.ensures.ok) c.requires.texts)

pub returns-in-End-clause-full : goal.returns-in-End-clause-full
returns-in-End-clause-full g c =
    (λ no. absurd (false≢true no), λ lacks. absurd (found_plain (g.P.Places.schema c.args.places.now) c.args.elements.now c.args.top (texts_in (written_bits c.args.pen.now) c.args.table.now.entries) _ c.args.event.now c.args.offer.code c.args.offer.width c.args.pen.now c.put_bits.new.self (found_as (g.P.Places.schema c.args.places.now) c.args.elements.now c.args.top (texts_in (written_bits c.args.pen.now) c.args.table.now.entries) _ _ c.args.event.now c.args.offer.code c.args.offer.width c.args.pen.now c.put_bits.new.self c.in-End.is (found_by (g.P.Places.schema c.args.places.now) c.args.elements.now c.args.top (texts_in (written_bits c.args.pen.now) c.args.table.now.entries) _ c.args.event.now c.args.offer.code c.from.result c.args.offer.width c.args.pen.now c.put_bits.new.self c.from.ensures c.requires.top c.requires.elements c.requires.found.is_width c.requires.found.offered c.requires.found.meant c.requires.offered c.in_ok-put_bits.ensures.ok)) tt lacks))
