use Rattle.std.proofs.Common.{◌+◌, ◌<◌, true, false, length, sym, ◌∙◌}
use Rattle.charge_world.specs.declared.entry.Entry.TheVariants as entry
use Rattle.charge_world.specs.declared.ports.Order.TheVariants as order
use Rattle.endpoint.specs.Telling.{HasClosing, IsTraced}
use Rattle.endpoint.proofs.Carry.{carries_none, carries_one, text_none}
use Rattle.site_serving.specs.Serving.{ClosesTo}
use Rattle.site_serving.proofs.Shutting.{live_at, closes_live, closes_idle, among_places}
use Rattle.site_turns.proofs.closing.close_one.Goals as goal

pub returns-then-live-clause-closed : goal.returns-then-live-clause-closed
returns-then-live-clause-closed g c posts blocks are =
    let places = c.args.places.now in
    let i = c.args.i in
    let less : i < length places = c.requires.within in
    let a = among_places places posts i are less in
    let taken = c.open.ensures.opened.0 in
    carries_one _ _ (entry.Drove (i + 1) order.Open taken) (ClosesTo posts i blocks) (ClosesTo posts (i + 1) blocks) c.open.ensures.opened.1
    (λ past h. closes_live posts blocks past i taken a (live_at places posts i c.index-places-i.result true are a less c.index-places-i.is (sym c.live.ensures ∙ c.if-live.true)) h)

pub returns-else-live-clause-closed : goal.returns-else-live-clause-closed
returns-else-live-clause-closed g c posts blocks are =
    let places = c.args.places.now in
    let i = c.args.i in
    let less : i < length places = c.requires.within in
    let a = among_places places posts i are less in
    carries_none _ (ClosesTo posts i blocks) (ClosesTo posts (i + 1) blocks)
    (λ past h. closes_idle posts blocks past i a (live_at places posts i c.index-places-i.result false are a less c.index-places-i.is (sym c.live.ensures ∙ c.if-live.false)) h)

pub returns-else-live-clause-orders : goal.returns-else-live-clause-orders
returns-else-live-clause-orders g c blocks = carries_none _ (HasClosing blocks) (HasClosing blocks) (λ past h. h)

pub returns-else-live-clause-traced : goal.returns-else-live-clause-traced
returns-else-live-clause-traced g c = text_none _ _ (IsTraced c.args.hearing) (IsTraced c.args.hearing) (λ past text t. t)
