use Rattle.std.proofs.Common.{◌≡◌, ◌+◌, ◌++◌, ◌∷◌, [], List, take, map, refl, sym, ap, ◌∙◌}
use Rattle.std.proofs.lemmas.List.{take_more, take_all, map_push}
use Rattle.app_protocol.specs.Messages.{protocol_of}
use Rattle.app_protocol.proofs.negotiation.negotiate_among.Goals as goal

pub loop-protocol-preserved : goal.loop-protocol-preserved
loop-protocol-preserved c =
    let items = c.as_slice-protocol-items.result.now in
    let i = c.loop-protocol.protocol-index in
    let item = c.protocol-item.result in
    let more : map protocol_of (take (i + 1) items) ≡ map protocol_of (take i items) ++ protocol_of item ∷ [] =
    ap (λ (ps : List _). map protocol_of ps) (take_more items i item c.loop-protocol-test.true ∙ ap (λ (x : _). take i items ++ x ∷ []) (sym c.protocol-item.is)) ∙ map_push protocol_of (take i items) item in
    rw more (c.winner_with-best.ensures (map protocol_of (take i items)) c.loop-protocol.invariant)

pub returns-in-None : goal.returns-in-None
returns-in-None c =
    let items = c.as_slice-protocol-items.result.now in
    let all : take c.loop-protocol.protocol-index items ≡ c.args.request.now.protocols.items = take_all c.loop-protocol.protocol-index items c.loop-protocol-test.false ∙ c.as_slice-protocol-items.ensures.value in
    (rw (all, c.in-None.is) at c.loop-protocol.invariant, refl)
