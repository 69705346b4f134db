use Rattle.std.proofs.Common.{◌≡◌, true, All, get_or}
use Rattle.std.proofs.lemmas.List.{take_all}
use Rattle.std.proofs.lemmas.List.Elements.{All-more, All-contains}
use Rattle.charge_world.specs.declared.offer.Dialect.{Dialect}
use Rattle.charge_world.specs.declared.offer.Dialect.TheVariants.{Iso}
use Rattle.app_protocol.specs.Messages.{protocol_of}
use Rattle.app_protocol.specs.Negotiation.{Names}
use Rattle.app_protocol.proofs.negotiation.dialect_of.Goals as goal

pub loop-dialect-preserved : goal.loop-dialect-preserved
loop-dialect-preserved c =
    let Not : Dialect → Type 0 = λ d. Names (protocol_of c.args.protocol.now) d → ⊥ in
    let i = c.loop-dialect.dialect-index in
    let here : Not (get_or c.args.offers.now i Iso) = λ named. let is : c.names.result ≡ true = c.names.ensures.1 named in absurd (cc) in
    All-more Not c.args.offers.now i Iso c.loop-dialect-test.true c.loop-dialect.invariant here

pub returns : goal.returns
returns c dialect matches =
    let Not : Dialect → Type 0 = λ d. Names (protocol_of c.args.protocol.now) d → ⊥ in
    let all : All Not c.args.offers.now = rw (take_all c.loop-dialect.dialect-index c.args.offers.now c.loop-dialect-test.false) at c.loop-dialect.invariant in
    All-contains Not c.args.offers.now dialect all matches.offered matches.named
