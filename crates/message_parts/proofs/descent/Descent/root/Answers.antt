use Rattle.std.proofs.Common.{ap, refl}
use Rattle.message_parts.proofs.Next.{stays_open}
use Rattle.message_parts.specs.Reading.{seen_of}
use Rattle.message_parts.proofs.Rooted.{rooted}
use Rattle.message_parts.proofs.descent.Descent.root.Goals as goal

pub returns-clause-open : goal.returns-clause-open
returns-clause-open g c = record {
  ready = c.in_ok-event.ensures.ready;
  kept = stays_open (seen_of g.P.Places.schema c.args.self.now) (seen_of g.P.Places.schema record { reader = c.next.new.self; child = c.child_of-self.result }) _
      (ap g.P.Places.schema c.in_ok-event.ensures.places) c.in_ok-event.ensures.open_still.0 c.in_ok-event.ensures.open_still.1 c.requires.open.kept c.in_ok-event.ensures.next c.in_ok-event.ensures.told;
}

pub returns-clause-root : goal.returns-clause-root
returns-clause-root g c = λ s bits numbered.
    rooted s bits (seen_of g.P.Places.schema c.args.self.now) (seen_of g.P.Places.schema record { reader = c.next.new.self; child = c.child_of-self.result })
    (ap g.P.Places.schema c.in_ok-event.ensures.places) c.in_ok-event.ensures.payload c.in_ok-event.ensures.open_still.1 numbered _ _ refl c.child_of-self.ensures c.in_ok-event.ensures.next c.in_ok-event.ensures.told
