use Rattle.std.proofs.Common.{◌∙◌, ◌++◌, ◌∷◌, [], ap}
use Rattle.exi_schema.specs.Offers.{offers}
use Rattle.exi_schema.specs.Told.{schema_of}
use Rattle.exi_tables.proofs.Tables.{take_next}
use Rattle.exi_tables.proofs.filling.row_of.Goals as goal

pub loop-code-preserved : goal.loop-code-preserved
loop-code-preserved c =
    c.in_ok-push.ensures.items ∙ ap (λ steps. steps ++ c.advance.result ∷ []) c.loop-code.invariant
    ∙ take_next (offers (schema_of c.args.schema.now).kinds c.args.place) c.loop-code.code c.advance.result c.advance.ensures.taken
