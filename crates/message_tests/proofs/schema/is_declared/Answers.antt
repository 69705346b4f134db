use Rattle.std.proofs.Common.{◌<◌, length, sym, subst, arith}
use Rattle.exi_schema.specs.Schemas.{PlainSchema}
use Rattle.exi_schema.specs.Steps.{texts_at}
use Rattle.message_tests.proofs.schema.is_declared.Goals as goal

pub value_name-requires : goal.value_name-requires
value_name-requires c =
    let few : 2 < 3 = omega arith in
    subst (λ (s : PlainSchema). 2 < length (texts_at s.values 4)) (sym c.negotiation-schema.ensures) few
