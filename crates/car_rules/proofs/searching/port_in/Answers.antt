use Rattle.std.proofs.Common.{arith, ap, ◌∙◌}
use Rattle.sdp_discovery.specs.declared.message.SdpResponse.{SdpResponse}
use Rattle.sdp_discovery.proofs.Spelled.{one_response}
use Rattle.car_rules.proofs.Responses.{port_found, port_missing}
use Rattle.car_rules.proofs.searching.port_in.Goals as goal

pub returns-then-response : goal.returns-then-response
returns-then-response c =
    port_missing c.args.datagram.now (λ i. omega (arith, c.type_inv.datagram i)) (λ r is e.
    ap (λ (x : SdpResponse). x.tls) (one_response c.args.datagram.now r c.args.response.now is c.requires.within e c.requires.spelled) ∙ c.if-response.true)

pub returns-else-response : goal.returns-else-response
returns-else-response c =
    port_found c.args.datagram.now c.args.response.now c.requires.within c.if-response.false c.requires.spelled
