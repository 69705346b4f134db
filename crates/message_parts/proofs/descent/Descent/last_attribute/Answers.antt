use Rattle.std.proofs.Common.{ap, subst, sym, MatchOption, Option}
use Rattle.exi_events.specs.Value.{Value}
use Rattle.message_parts.proofs.Next.{stays_open}
use Rattle.message_parts.proofs.Attributes.{maybe_next, Given}
use Rattle.message_parts.specs.Reading.{Reads, seen_of}
use Rattle.message_parts.proofs.descent.Descent.last_attribute.Goals as goal

pub returns-clause-open : goal.returns-clause-open
returns-clause-open g c = record {
  ready = c.in_ok-event.ensures.ready;
  kept = stays_open (seen_of g.P.Places.schema c.args.self.now) (seen_of g.P.Places.schema record { reader = c.next.new.self; child = c.child_of-self.result }) _
      (ap g.P.Places.schema c.in_ok-event.ensures.places) c.in_ok-event.ensures.open_still.0 c.in_ok-event.ensures.open_still.1 c.requires.open.kept c.in_ok-event.ensures.next c.in_ok-event.ensures.told;
}

pub returns-clause-lent : goal.returns-clause-lent
returns-clause-lent g c = c.attribute_if.ensures.lent _ c.in_ok-event.ensures.lent

pub returns-clause-attribute : goal.returns-clause-attribute
returns-clause-attribute g c = λ ks F attributes declared at d told h may simple.
    let old = seen_of g.P.Places.schema c.args.self.now in
    let new = seen_of g.P.Places.schema record { reader = c.next.new.self; child = c.child_of-self.result } in
    subst (λ (o : Option Value). MatchOption o (Reads ks F attributes declared 0 told new) (Given ks F attributes declared at told old new h d)) (sym c.attribute_if.ensures.value)
    (maybe_next ks F attributes declared at told old new h may d simple _ c.child_of-self.ensures
    (ap g.P.Places.schema c.in_ok-event.ensures.places) c.in_ok-event.ensures.payload c.in_ok-event.ensures.open_still.1 c.in_ok-event.ensures.next c.in_ok-event.ensures.told)
