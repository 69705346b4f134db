use Rattle.std.proofs.Common.{ap, refl, ◌∙◌}
use Rattle.std.proofs.lemmas.Result.{err_from_is_err_and}
use Rattle.exi_schema.specs.Plain.{PlainKind}
use Rattle.exi_schema.specs.Steps.{simple_at}
use Rattle.std.specs.Prelude.{List}
use Rattle.exi_schema.specs.Schemas.{PlainSchema}
use Rattle.message_parts.proofs.Next.{stays_open_by, value_next, refusal_of, refused_by, stays_refused, one_error}
use Rattle.message_parts.specs.Reading.{seen_of}
use Rattle.message_parts.proofs.descent.Descent.value.Goals as goal

pub returns-clause-open : goal.returns-clause-open
returns-clause-open g c = record {
  ready = c.in_ok-value.ensures.ready;
  kept = stays_open_by (seen_of g.P.Places.schema c.args.self.now) (seen_of g.P.Places.schema record { reader = c.value.new.self; child = c.args.self.now.child })
      c.in_ok-value.ensures.open_still.0 c.in_ok-value.ensures.open_still.1 c.requires.open.kept c.in_ok-value.ensures.told;
}

pub returns-clause-value : goal.returns-clause-value
returns-clause-value g c = λ ks F kind d told simple h.
    let there = ap (λ (s : PlainSchema). s.kinds) h.goes.schema_is ∙ h.goes.kinds_are in
    value_next ks F kind d told _ (seen_of g.P.Places.schema c.args.self.now) (seen_of g.P.Places.schema record { reader = c.value.new.self; child = c.args.self.now.child }) simple h
    (ap g.P.Places.schema c.in_ok-value.ensures.places) c.in_ok-value.ensures.payload c.in_ok-value.ensures.open_still.1
    (c.in_ok-value.ensures.value F.name kind F.above d h.standing (ap (λ (k : List PlainKind). simple_at k kind) there ∙ simple))

pub returns-in_err-value-clause-refused : goal.returns-in_err-value-clause-refused
returns-in_err-value-clause-refused g c =
    let p = err_from_is_err_and c.from_residual.result c.from_residual.ensures.1 in
    rw (p.1, p.2) (refusal_of (seen_of g.P.Places.schema c.args.self.now) c.in_err-value.field-0.0 c.requires.open.kept
    (λ q is. one_error _ q c.in_err-value.field-0.0 (c.in_err-value.ensures.again q is).0 refl)
    (λ payload events bits none has. c.in_err-value.ensures.refusal payload events bits none has))

pub returns-in_err-value-clause-open : goal.returns-in_err-value-clause-open
returns-in_err-value-clause-open g c = record {
  ready = c.in_err-value.ensures.ready;
  kept = stays_refused (seen_of g.P.Places.schema c.args.self.now) (seen_of g.P.Places.schema record { reader = c.value.new.self; child = c.args.self.now.child }) c.in_err-value.field-0.0
      (ap g.P.Places.schema c.in_err-value.ensures.places) c.in_err-value.ensures.payload
      (refused_by c.args.self.now.reader.refused c.value.new.self.refused c.in_err-value.field-0.0
      (λ q is. (one_error _ q c.in_err-value.field-0.0 (c.in_err-value.ensures.again q is).0 refl, (c.in_err-value.ensures.again q is).1)) c.in_err-value.ensures.kept)
      (refusal_of (seen_of g.P.Places.schema c.args.self.now) c.in_err-value.field-0.0 c.requires.open.kept
      (λ q is. one_error _ q c.in_err-value.field-0.0 (c.in_err-value.ensures.again q is).0 refl)
      (λ payload events bits none has. c.in_err-value.ensures.refusal payload events bits none has));
}
