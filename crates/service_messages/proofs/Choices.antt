-- What is picked of a message is what is picked of the sets that it offers.
use Rattle.std.proofs.Common.{◌≡◌, List, Option, Some, None, sym, subst, ◌∙◌}
use Rattle.std.specs.Prelude.{ℤ, MatchOption}
use Rattle.iso_message.specs.declared.message.BodyElement.{BodyElement}
use Rattle.iso_message.specs.declared.message.BodyElement.TheVariants as element
use Rattle.iso_message.specs.declared.message.IsoMessage.{IsoMessage}
use Rattle.service_spec.specs.Services.{Said, SaidSet, IsPicked, PicksNone}
use Rattle.service_messages.specs.Offers.{OffersIn, Offers, IsChoice, HasNoChoice}

pub one_offered : (e : Option BodyElement) (a b : List SaidSet) → OffersIn e a → OffersIn e b → a ≡ b
one_offered None a b h k = absurd h
one_offered (Some (element.Brief x)) a b h k = absurd h
one_offered (Some (element.ChargeParameterDiscoveryRes x)) a b h k = absurd h
one_offered (Some (element.ServiceDiscoveryRes x)) a b h k = absurd h
one_offered (Some (element.ServiceDetailRes reply)) a b h k = h.1 ∙ sym k.1

pub chosen : (m : IsoMessage) (want : List Said) (sets : List SaidSet) (r : Option ℤ) → Offers m sets
    → MatchOption r (PicksNone want sets) (IsPicked want sets) → MatchOption r (HasNoChoice want m) (IsChoice want m)
chosen m want sets None offered h =
    λ other too. subst (λ (l : List SaidSet). PicksNone want l) (one_offered m.body.element sets other offered too) h
chosen m want sets (Some id) offered h = record { sets = sets; offered = offered; picked = h }
