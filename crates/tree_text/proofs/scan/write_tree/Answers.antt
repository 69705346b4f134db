use Rattle.std.proofs.Common.{◌≤◌, ◌∷◌, length, ap, ◌∙◌, sym, arith}
use Rattle.std.proofs.lemmas.List.{length-take}
use Rattle.exi_schema.specs.Told.{schema_of}
use Rattle.exi_events.specs.Writer.{draft_of}
use Rattle.exi_events.proofs.Drafts.{lent_both}
use Rattle.dialect_text.specs.Scanning.{event_of}
use Rattle.tree_text.proofs.Scanned.{still_ready, said_on, said_all, stuck_in, put_in, piece_put}
use Rattle.tree_text.proofs.scan.write_tree.Goals as goal

pub returns-then-not-is_put-clause-stuck : goal.returns-then-not-is_put-clause-stuck
returns-then-not-is_put-clause-stuck c =
    let before = c.loop-said.invariant in
    let events = before.both.0 in (
      event_of c.in-Some.said ∷ events,
      said_on _ _ _ _ _ c.in-Some.said _ _ _ _ (ap schema_of before.same_schema) before.same_text c.in-Some.is c.in_ok-said.ensures.said events before.both.1,
      stuck_in _ _ _ (ap schema_of before.places) (c.put_said-is_put.ensures.stuck c.if-not-is_put.true events before.both.2),
    )

pub loop-said-preserved : goal.loop-said-preserved
loop-said-preserved c =
    let before = c.loop-said.invariant in
    let put = c.put_said-is_put.ensures in
    let events = before.both.0 in
    record {
      same_schema = c.next.ensures.same_schema ∙ before.same_schema;
      same_text = c.next.ensures.same_text ∙ before.same_text;
      scanning = still_ready _ _ _ _ _ _ _ (ap schema_of before.same_schema) before.same_text c.next.ensures.ready;
      lent = lent_both _ _ _ before.lent put.lent;
      places = put.lent.places ∙ before.places;
      ready = put.ready;
      open_still = put.open_still c.if-not-is_put.false;
      room = put.room;
      both = (
        event_of c.in-Some.said ∷ events,
        said_on _ _ _ _ _ c.in-Some.said _ _ _ _ (ap schema_of before.same_schema) before.same_text c.in-Some.is c.in_ok-said.ensures.said events before.both.1,
        put_in _ _ (event_of c.in-Some.said ∷ events) (draft_of c.put_said-is_put.new.writer) (ap schema_of (sym put.lent.places)) (put.put c.if-not-is_put.false events before.both.2),
      );
    }

pub returns-clause-written : goal.returns-clause-written
returns-clause-written c =
    let before = c.loop-said.invariant in
    let events = before.both.0 in
    let is = said_all _ _ _ _ _ _ _ (ap schema_of before.same_schema) before.same_text c.in_default.is c.in_ok-said.ensures.ended events before.both.1 in
    let few : length c.written.result.now ≤ 65536 = omega (arith, ap length c.written.ensures.front, length-take (length c.written.result.now) c.loop-said.writer.room.now, before.room) in
    piece_put _ _ events (draft_of c.loop-said.writer) _ c.written.result.now _ c.requires.consistent (ap schema_of before.places) few before.both.2 is (c.written.ensures.document events) (c.of.ensures ∙ c.in_ok-bytes.ensures.items)
