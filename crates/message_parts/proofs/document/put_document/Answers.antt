use Rattle.std.proofs.Common.{ap, refl, ◌∙◌, ◌≡◌, ◌*◌, ◌<◌, ◌≤◌, length, Some, None, ℕ, []}
use Rattle.exi_events.specs.Trees.{Document}
use Rattle.exi_events.specs.Writer.{draft_of}
use Rattle.message_parts.specs.Writing.{put_of}
use Rattle.message_parts.proofs.Written.{begun, behind_all, finished, no_room, needs}
use Rattle.message_parts.proofs.document.put_document.Goals as goal

pub put-requires-clause-offered : goal.put-requires-clause-offered
put-requires-clause-offered g c = λ none.
    let s = g.P.Places.schema c.args.writer.now.places.now in
    let m = c.args.message.now in
    let of = begun s (g.T.Root.number m) (g.T.PutChoice.name m) (g.T.PutChoice.inside m) c.requires.message.0 c.requires.message.1 (put_of c.args.writer.now) refl c.requires.nothing.0 c.requires.nothing.1 c.requires.open_still in
    let left = c.put_choice.ensures.write _ [] (c.put_event.ensures.write _ _ _ of (ap (λ (n : ℕ). Some (Document n)) c.number.ensures)) in
    behind_all _ (put_of c.put_choice.new.writer) refl left none

pub returns-clause-room : goal.returns-clause-room
returns-clause-room g c =
    let s = g.P.Places.schema c.args.writer.now.places.now in
    let m = c.args.message.now in
    let of = begun s (g.T.Root.number m) (g.T.PutChoice.name m) (g.T.PutChoice.inside m) c.requires.message.0 c.requires.message.1 (put_of c.args.writer.now) refl c.requires.nothing.0 c.requires.nothing.1 c.requires.open_still in
    let left = c.put_choice.ensures.write _ [] (c.put_event.ensures.write _ _ _ of (ap (λ (n : ℕ). Some (Document n)) c.number.ensures)) in
    c.put.ensures.more.1.room ∙ left.room_is

pub returns-clause-put : goal.returns-clause-put
returns-clause-put g c = λ bits spelled.
    let s = g.P.Places.schema c.args.writer.now.places.now in
    let m = c.args.message.now in
    let of = begun s (g.T.Root.number m) (g.T.PutChoice.name m) (g.T.PutChoice.inside m) bits spelled (put_of c.args.writer.now) refl c.requires.nothing.0 c.requires.nothing.1 c.requires.open_still in
    let left = c.put_choice.ensures.write _ [] (c.put_event.ensures.write _ _ _ of (ap (λ (n : ℕ). Some (Document n)) c.number.ensures)) in
    finished c.put.result _ (put_of c.put_choice.new.writer) left (draft_of c.put_choice.new.writer) (draft_of c.put.new.self) s (c.put.new.self.full ≡ None) refl c.put.ensures.put c.put.ensures.open_still

pub returns-clause-full : goal.returns-clause-full
returns-clause-full g c = λ bits spelled.
    let s = g.P.Places.schema c.args.writer.now.places.now in
    let m = c.args.message.now in
    let of = begun s (g.T.Root.number m) (g.T.PutChoice.name m) (g.T.PutChoice.inside m) bits spelled (put_of c.args.writer.now) refl c.requires.nothing.0 c.requires.nothing.1 c.requires.open_still in
    let left = c.put_choice.ensures.write _ [] (c.put_event.ensures.write _ _ _ of (ap (λ (n : ℕ). Some (Document n)) c.number.ensures)) in
    no_room c.put.result _ (put_of c.put_choice.new.writer) left (λ none err. (c.put.ensures.full none).0 err)

pub returns-clause-bits : goal.returns-clause-bits
returns-clause-bits g c =
    let s = g.P.Places.schema c.args.writer.now.places.now in
    let m = c.args.message.now in
    let of = begun s (g.T.Root.number m) (g.T.PutChoice.name m) (g.T.PutChoice.inside m) c.requires.message.0 c.requires.message.1 (put_of c.args.writer.now) refl c.requires.nothing.0 c.requires.nothing.1 c.requires.open_still in
    let left = c.put_choice.ensures.write _ [] (c.put_event.ensures.write _ _ _ of (ap (λ (n : ℕ). Some (Document n)) c.number.ensures)) in
    needs c.put.result _ (put_of c.put_choice.new.writer) left (λ full. 8 * length c.args.writer.now.room.now < full.bits) (λ full tells. tells.0) (λ none err. (c.put.ensures.full none).0 err) (λ f is. (c.put.ensures.again f is).0)

pub returns-clause-most : goal.returns-clause-most
returns-clause-most g c = λ bits spelled.
    let s = g.P.Places.schema c.args.writer.now.places.now in
    let m = c.args.message.now in
    let of = begun s (g.T.Root.number m) (g.T.PutChoice.name m) (g.T.PutChoice.inside m) bits spelled (put_of c.args.writer.now) refl c.requires.nothing.0 c.requires.nothing.1 c.requires.open_still in
    let left = c.put_choice.ensures.write _ [] (c.put_event.ensures.write _ _ _ of (ap (λ (n : ℕ). Some (Document n)) c.number.ensures)) in
    needs c.put.result _ (put_of c.put_choice.new.writer) left (λ full. full.bits ≤ length bits) (λ full tells. tells.1) (λ none err. (c.put.ensures.full none).0 err) (λ f is. (c.put.ensures.again f is).0)
