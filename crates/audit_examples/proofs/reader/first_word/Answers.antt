use Rattle.std.proofs.Common.{◌≡◌, ◌==◌, Bool, true, false, if◌then◌else◌, Option, [], ◌∷◌, sym, ap, ◌∙◌, eq-eqb}
use Rattle.charge_world.specs.declared.offer.Dialect.{Dialect}
use Rattle.post_spec.specs.Codecs.{Negotiated, Refused}
use Rattle.post_spec.specs.Words.{Payload}
use Rattle.audit_examples.specs.Reader as small
use Rattle.audit_examples.proofs.reader.first_word.Goals as goal

negotiated_if : (b : Bool) (chosen found : Option Dialect) → b ≡ true → found ≡ chosen
    → Payload (if b then Negotiated chosen (5 ∷ []) else Refused) ≡ Payload (Negotiated found (5 ∷ []))
negotiated_if true chosen found is same = ap (λ (o : Option Dialect). Payload (Negotiated o (5 ∷ []))) (sym same)
negotiated_if false chosen found is same = cc

pub returns-then-kind_of-eq1 : goal.returns-then-kind_of-eq1
returns-then-kind_of-eq1 c = (
  5 ∷ [],
  negotiated_if (small.kind_of c.args.payload.now == 1) (small.chosen_in c.args.offers.now) c.chosen_in.result
      (eq-eqb (small.kind_of c.args.payload.now) 1 (sym c.kind_of.ensures ∙ c.if-kind_of-eq1.true)) c.chosen_in.ensures,
)
