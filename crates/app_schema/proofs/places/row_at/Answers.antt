use Rattle.std.proofs.Common.{◌∙◌}
use Rattle.app_schema.proofs.Placed.{protocol_place, response_place, is_response}
use Rattle.app_schema.proofs.places.row_at.Goals as goal

pub returns-then-place-eq-PROTOCOL : goal.returns-then-place-eq-PROTOCOL
returns-then-place-eq-PROTOCOL c = c.one-then-place-eq-PROTOCOL.ensures ∙ c.protocol_step.ensures ∙ protocol_place c.args.place c.if-place-eq-PROTOCOL.true c.requires

pub returns : goal.returns
returns c = c.response_row.ensures ∙ response_place c.args.place (is_response c.args.place c.if-place-lt-PROTOCOL.false c.if-place-eq-PROTOCOL.false c.if-place-eq-REQUEST_KIND.false c.requires) c.requires
