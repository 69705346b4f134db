use Rattle.std.proofs.Common.{◌≡◌, ℕ, ◌<◌, ◌≤◌, ◌^◌, ap, subst, sym, length, List, Option, Some, None, IfSome, slice_get, arith}
use Rattle.exi_schema.specs.declared.places.Step.{Step}
use Rattle.exi_schema.specs.declared.places.Offer.{Offer}
use Rattle.exi_schema.specs.Offers.{IsWidth, offers}
use Rattle.exi_schema.specs.Steps.{IsStep, IsSought}
use Rattle.app_schema.specs.Declarations.{kinds, negotiation_schema}
use Rattle.app_schema.proofs.Placed.{found_fits, found_few}
use Rattle.app_schema.proofs.places.NegotiationPlacesPlaces.find.Goals as goal

pub returns-clause-offered : goal.returns-clause-offered
returns-clause-offered c =
    subst (λ (steps : List Step). IfSome c.find.result (λ (offer : Offer). slice_get steps offer.code ≡ Some offer.step)) c.row_at.ensures c.find.ensures.offered

pub returns-clause-width : goal.returns-clause-width
returns-clause-width c =
    subst (λ (steps : List Step). IfSome c.find.result (λ (offer : Offer). IsWidth (length steps) offer.width)) c.row_at.ensures c.find.ensures.width

pub returns-clause-of_schema : goal.returns-clause-of_schema
returns-clause-of_schema c =
    found_fits c.args.place c.find.result c.requires
    (subst (λ (steps : List Step). IfSome c.find.result (λ (offer : Offer). slice_get steps offer.code ≡ Some offer.step)) c.row_at.ensures c.find.ensures.offered)

pub returns-clause-few : goal.returns-clause-few
returns-clause-few c =
    found_few c.args.place c.find.result (subst (λ (steps : List Step). length steps ≤ 2) c.row_at.ensures c.find.ensures.few)

pub returns-clause-none : goal.returns-clause-none
returns-clause-none c =
    subst (λ (steps : List Step). c.find.result ≡ None → (code : ℕ) (step : Step) → slice_get steps code ≡ Some step → IsSought step c.args.sought → ⊥) c.row_at.ensures c.find.ensures.none
