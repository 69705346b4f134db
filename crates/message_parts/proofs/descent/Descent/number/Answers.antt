use Rattle.std.proofs.Common.{ap}
use Rattle.message_parts.proofs.Next.{stays_open}
use Rattle.message_parts.specs.Reading.{seen_of}
use Rattle.message_parts.proofs.Rooted.{numbered}
use Rattle.message_parts.proofs.descent.Descent.number.Goals as goal

pub returns-clause-open : goal.returns-clause-open
returns-clause-open g c = record {
  ready = c.in_ok-_number.ensures.ready;
  kept = stays_open (seen_of g.P.Places.schema c.args.self.now) (seen_of g.P.Places.schema record { reader = c.next.new.self; child = c.args.self.now.child }) _
      (ap g.P.Places.schema c.in_ok-_number.ensures.places) c.in_ok-_number.ensures.open_still.0 c.in_ok-_number.ensures.open_still.1 c.requires.open.kept c.in_ok-_number.ensures.next c.in_ok-_number.ensures.told;
}

pub returns-clause-number : goal.returns-clause-number
returns-clause-number g c = λ s bits begins.
    numbered s bits (seen_of g.P.Places.schema c.args.self.now) (seen_of g.P.Places.schema record { reader = c.next.new.self; child = c.args.self.now.child })
    (ap g.P.Places.schema c.in_ok-_number.ensures.places) c.in_ok-_number.ensures.payload c.in_ok-_number.ensures.open_still.1 begins _ c.in_ok-_number.ensures.next c.in_ok-_number.ensures.told
