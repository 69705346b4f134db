use Rattle.std.proofs.Common.{sym, ap, ◌∙◌, ◌∷◌, []}
use Rattle.exi_schema.specs.Offers.{offers}
use Rattle.exi_schema.specs.Told.{schema_of}
use Rattle.exi_tables.proofs.Sequenced.{only_one}
use Rattle.exi_tables.proofs.optional.is_end.Goals as goal

pub returns-in-End-clause-end : goal.returns-in-End-clause-end
returns-in-End-clause-end c = λ _.
    only_one (offers (schema_of c.args.schema.now).kinds c.args.place) c.advance.result (sym c.alternatives.ensures ∙ c.if-alternatives-ne1.false) c.advance.ensures.taken ∙ ap (λ x. x ∷ []) c.in-End.is
