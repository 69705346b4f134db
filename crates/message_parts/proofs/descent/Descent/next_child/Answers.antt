use Rattle.std.proofs.Common.{ap}
use Rattle.message_parts.proofs.Next.{stays_open, reads_next}
use Rattle.message_parts.specs.Reading.{seen_of}
use Rattle.message_parts.proofs.descent.Descent.next_child.Goals as goal

pub returns-clause-open : goal.returns-clause-open
returns-clause-open g c = record {
  ready = c.in_ok-event.ensures.ready;
  kept = stays_open (seen_of g.P.Places.schema c.args.self.now) (seen_of g.P.Places.schema record { reader = c.next.new.self; child = c.child_of-self.result }) _
      (ap g.P.Places.schema c.in_ok-event.ensures.places) c.in_ok-event.ensures.open_still.0 c.in_ok-event.ensures.open_still.1 c.requires.open.kept c.in_ok-event.ensures.next c.in_ok-event.ensures.told;
}

pub returns-clause-child : goal.returns-clause-child
returns-clause-child g c = λ ks F attributes declared at copies told h.
    reads_next ks F attributes declared at copies told _ (seen_of g.P.Places.schema c.args.self.now) (seen_of g.P.Places.schema record { reader = c.next.new.self; child = c.child_of-self.result }) h
    c.child_of-self.ensures (ap g.P.Places.schema c.in_ok-event.ensures.places) c.in_ok-event.ensures.payload c.in_ok-event.ensures.open_still.1 c.in_ok-event.ensures.next c.in_ok-event.ensures.told
