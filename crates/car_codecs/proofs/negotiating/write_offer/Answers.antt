use Rattle.std.proofs.Common.{ℕ, List, rules, arith, sym, subst}
use Rattle.app_documents.specs.Trees.{Offered, Request, IsMessage}
use Rattle.app_protocol.specs.Documents.{PassesBytes}
use Rattle.app_protocol.specs.Messages.{protocols_of}
use Rattle.car_codecs.proofs.Bytes.{front_bytes}
use Rattle.car_codecs.proofs.Offers.{few_dialects, offer_within, offer_small}
use Rattle.car_codecs.proofs.Results.{is_ok}
use Rattle.car_codecs.proofs.negotiating.write_offer.Goals as goal

pub offer_of-requires : goal.offer_of-requires
offer_of-requires c = few_dialects c.args.dialects.now c.requires.once

pub write_app-requires-clause-message : goal.write_app-requires-clause-message
write_app-requires-clause-message c =
    subst (λ (ps : List Offered). IsMessage (Request ps)) (sym c.offer_of.ensures) (offer_within c.args.dialects.now c.requires.once)

-- the room holds it
pub unwrap-requires : goal.unwrap-requires
unwrap-requires c =
    is_ok c.write_app.result
    (λ full. offer_small c.args.dialects.now c.requires.once
    (subst (λ (ps : List Offered). PassesBytes (Request ps) 1024) c.offer_of.ensures
    (subst (λ (n : ℕ). PassesBytes (Request (protocols_of c.offer_of.result)) n) c.requires.room (c.write_app.ensures.full.0 full))))

pub returns-clause-encoded : goal.returns-clause-encoded
returns-clause-encoded c = record {
  bytes = front_bytes c.unwrap.result c.write_app.new.room (λ i. omega (arith, c.type_inv.room i));
  encoded = search rules;
}
