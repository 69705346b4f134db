use Rattle.std.proofs.Common.{ap}
use Rattle.message_parts.proofs.Next.{stays_open}
use Rattle.message_parts.proofs.Attributes.{given_next}
use Rattle.message_parts.specs.Reading.{seen_of}
use Rattle.message_parts.proofs.descent.Descent.attribute.Goals as goal

pub returns-clause-open : goal.returns-clause-open
returns-clause-open g c = record {
  ready = c.in_ok-event.ensures.ready;
  kept = stays_open (seen_of g.P.Places.schema c.args.self.now) (seen_of g.P.Places.schema record { reader = c.next.new.self; child = c.args.self.now.child }) _
      (ap g.P.Places.schema c.in_ok-event.ensures.places) c.in_ok-event.ensures.open_still.0 c.in_ok-event.ensures.open_still.1 c.requires.open.kept c.in_ok-event.ensures.next c.in_ok-event.ensures.told;
}

pub returns-clause-lent : goal.returns-clause-lent
returns-clause-lent g c = c.attribute_in.ensures.lent _ c.in_ok-event.ensures.lent

pub returns-clause-attribute : goal.returns-clause-attribute
returns-clause-attribute g c = λ ks F attributes declared at d told h must simple.
    given_next ks F attributes declared at told (seen_of g.P.Places.schema c.args.self.now) (seen_of g.P.Places.schema record { reader = c.next.new.self; child = c.args.self.now.child }) h must d simple
    _ _ c.attribute_in.ensures.value
    (ap g.P.Places.schema c.in_ok-event.ensures.places) c.in_ok-event.ensures.payload c.in_ok-event.ensures.open_still.1 c.in_ok-event.ensures.next c.in_ok-event.ensures.told
