use Rattle.std.proofs.Common.{ap, sym, ◌∙◌}
use Rattle.exi_schema.specs.Told.{schema_of}
use Rattle.exi_values.specs.Meaning.{event_of}
use Rattle.exi_events.proofs.Told.{only_finished}
use Rattle.tree_text.proofs.Turns.{has_added_in, told_on_in, all_told}
use Rattle.tree_text.proofs.print.print_with_table.Goals as goal

pub put_event-requires-clause-has_text : goal.put_event-requires-clause-has_text
put_event-requires-clause-has_text c =
    let told = c.loop-event.invariant.told in
    has_added_in _ _ (schema_of c.next.new.self.places.now) _ told.0 c.loop-event.end c.place-place.result _ _ _ _ (ap schema_of c.loop-event.invariant.places) told.1 c.place-place.ensures.place c.in-Ok.ensures.next

pub loop-event-smaller : goal.loop-event-smaller
loop-event-smaller c = c.in-Ok.ensures.fewer c.in_default.not-Finished

pub loop-event-preserved : goal.loop-event-preserved
loop-event-preserved c =
    let before = c.loop-event.invariant in
    record {
      places = c.next.ensures.places ∙ before.places;
      payload = c.next.ensures.payload ∙ before.payload;
      ready = c.next.ensures.ready;
      open_still = c.in-Ok.ensures.open_still.1;
      told = told_on_in _ _ _ _ _ _ c.place-place.result _ _ _ _ _ _ (ap schema_of before.places) (ap schema_of c.next.ensures.places) before.told c.place-place.ensures.place c.in-Ok.ensures.next
          (λ none. c.in_default.not-Finished (only_finished _ none)) c.in-Ok.ensures.told c.in_ok-put_event-in_default.ensures c.end_behind-end.ensures;
    }

pub returns-in-Finished-clause-printed : goal.returns-in-Finished-clause-printed
returns-in-Finished-clause-printed c =
    let before = c.loop-event.invariant in
    all_told _ _ before.told.0 c.args.payload.now _ _ (ap schema_of before.places)
    (c.in-Ok.ensures.document c.args.payload.now before.told.0 (sym before.payload) before.told.1 (ap event_of c.in-Finished.is)) before.told.2
