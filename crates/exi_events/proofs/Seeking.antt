-- What an event is looked for as, and the steps that it means.
use Rattle.std.proofs.Common.{◌≡◌, Option, Some, None, IfSome, subst}
use Rattle.exi_schema.specs.declared.places.Step.{Step}
use Rattle.exi_schema.specs.declared.places.Step.TheVariants as step
use Rattle.exi_schema.specs.declared.places.Offer.{Offer}
use Rattle.exi_schema.specs.declared.places.Sought.{Sought}
use Rattle.exi_schema.specs.Steps.{IsSought}
use Rattle.exi_writing.specs.Event.{Event}
use Rattle.exi_writing.specs.Event.TheVariants as event
use Rattle.exi_events.specs.Writer.{IsStepOf, sought_in}

-- a step of an event is what the event is looked for as, if it is looked for
abbrev MeansBoth : Step → Event → Option Sought → Type 0
MeansBoth st e None = IsStepOf st e → ⊥
MeansBoth st e (Some s) = (IsSought st s → IsStepOf st e) × (IsStepOf st e → IsSought st s)

means_both : (st : Step) (e : Event) → MeansBoth st e (sought_in e)
means_both (step.Attribute name kind next) (event.Document number) = λ h. h
means_both (step.Attribute name kind next) (event.Start n) = (λ h. h, λ h. h)
means_both (step.Attribute name kind next) (event.Attribute n v) = (λ h. h, λ h. h)
means_both (step.Attribute name kind next) (event.Value v) = (λ h. h, λ h. h)
means_both (step.Attribute name kind next) event.EndElement = (λ h. h, λ h. h)
means_both (step.Attribute name kind next) event.Finished = λ h. h
means_both (step.Element name kind next standing past_limit) (event.Document number) = λ h. h
means_both (step.Element name kind next standing past_limit) (event.Start n) = (λ h. h, λ h. h)
means_both (step.Element name kind next standing past_limit) (event.Attribute n v) = (λ h. h, λ h. h)
means_both (step.Element name kind next standing past_limit) (event.Value v) = (λ h. h, λ h. h)
means_both (step.Element name kind next standing past_limit) event.EndElement = (λ h. h, λ h. h)
means_both (step.Element name kind next standing past_limit) event.Finished = λ h. h
means_both step.End (event.Document number) = λ h. h
means_both step.End (event.Start n) = (λ h. h, λ h. h)
means_both step.End (event.Attribute n v) = (λ h. h, λ h. h)
means_both step.End (event.Value v) = (λ h. h, λ h. h)
means_both step.End event.EndElement = (λ h. h, λ h. h)
means_both step.End event.Finished = λ h. h
means_both (step.Characters next) (event.Document number) = λ h. h
means_both (step.Characters next) (event.Start n) = (λ h. h, λ h. h)
means_both (step.Characters next) (event.Attribute n v) = (λ h. h, λ h. h)
means_both (step.Characters next) (event.Value v) = (λ h. h, λ h. h)
means_both (step.Characters next) event.EndElement = (λ h. h, λ h. h)
means_both (step.Characters next) event.Finished = λ h. h

pub means_none : (st : Step) (e : Event) → sought_in e ≡ None → IsStepOf st e → ⊥
means_none st e is = let P : Option Sought → Type 0 = λ o. MeansBoth st e o in subst P is (means_both st e)

pub meant_by : (st : Step) (e : Event) (s : Sought) → sought_in e ≡ Some s → IsSought st s → IsStepOf st e
meant_by st e s is = let P : Option Sought → Type 0 = λ o. MeansBoth st e o in (subst P is (means_both st e)).0

pub sought_by : (st : Step) (e : Event) (s : Sought) → sought_in e ≡ Some s → IsStepOf st e → IsSought st s
sought_by st e s is = let P : Option Sought → Type 0 = λ o. MeansBoth st e o in (subst P is (means_both st e)).1

pub meant_if : (o : Option Offer) (e : Event) (s : Sought) → sought_in e ≡ Some s → IfSome o (λ offer. IsSought offer.step s) → IfSome o (λ offer. IsStepOf offer.step e)
meant_if None e s is meant = tt
meant_if (Some offer) e s is meant = meant_by offer.step e s is meant
