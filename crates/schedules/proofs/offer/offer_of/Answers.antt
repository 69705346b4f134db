use Rattle.std.proofs.Common.{◌≡◌, ℕ, List, [], ◌∷◌, ◌++◌, sym, ap, ◌∙◌, subst}
use Rattle.schedules.specs.declared.power.Step.{Step}
use Rattle.schedules.specs.Steps.{watts_at}
use Rattle.schedules.specs.Offers.{IsOffer}
use Rattle.schedules.specs.Turning.{merged}
use Rattle.schedules.proofs.Turned.{offered, step_of}
use Rattle.schedules.proofs.offer.offer_of.Goals as goal

pub returns : goal.returns
returns c =
    let now : ℕ = watts_at c.args.calendar.now c.args.moment in
    subst (IsOffer c.args.calendar.now c.args.moment)
    (sym (c.merged_with.ensures ∙ ap (λ (w : ℕ). step_of 0 w ∷ merged w c.as_slice.result.now) c.watts_at.ensures
    ∙ ap (λ (xs : List Step). step_of 0 now ∷ merged now xs) (c.as_slice.ensures.value ∙ c.turned.ensures)))
    (offered c.args.calendar.now c.args.moment c.requires.calendar c.requires.moment)
