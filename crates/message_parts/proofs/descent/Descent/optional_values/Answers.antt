use Rattle.std.proofs.Common.{ap, refl, ◌∙◌, None}
use Rattle.message_parts.proofs.Next.{stays_open_by}
use Rattle.message_parts.proofs.Perhaps.{second_next}
use Rattle.message_parts.specs.Reading.{seen_of}
use Rattle.message_parts.proofs.descent.Descent.optional_values.Goals as goal

pub returns-clause-open : goal.returns-clause-open
returns-clause-open g c = record {
  ready = c.in_ok-values.ensures.ready;
  kept = stays_open_by (seen_of g.P.Places.schema c.args.self.now) (seen_of g.P.Places.schema record { reader = c.optional_values.new.self; child = None })
      c.in_ok-values.ensures.open_still (c.in_ok-values.ensures.refusals ∙ c.in_ok-values.ensures.open_still) c.requires.open.kept c.in_ok-values.ensures.told;
}

pub returns-clause-values : goal.returns-clause-values
returns-clause-values g c = λ ks F declared told first second third h holds.
    let old = seen_of g.P.Places.schema c.args.self.now in
    let new = seen_of g.P.Places.schema record { reader = c.optional_values.new.self; child = None } in
    second_next ks F declared told c.args.name first second third c.in_ok-values.values old new h holds
    (ap g.P.Places.schema c.in_ok-values.ensures.places) c.in_ok-values.ensures.payload (c.in_ok-values.ensures.refusals ∙ c.in_ok-values.ensures.open_still) refl
    c.in_ok-values.ensures.values
