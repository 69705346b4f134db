-- What holds from before the wire was started.
use Rattle.std.proofs.Common.{◌≡◌, ℕ, List, [], Option, Some, None, IsSome, refl, ◌∙◌, subst}
use Rattle.charge_world.specs.declared.entry.Entry.{Entry}
use Rattle.charge_world.specs.Outside.{Grows}
use Rattle.endpoint.specs.Telling.{Carries}
use Rattle.station_command.proofs.Begun.{IsNew}

-- of what depends on the moments that the wire waited for
pub started_waits : (before then after : Option (List Entry)) (earlier told : List ℕ) (Q : List ℕ → List Entry → Type 0) → Grows before then []
    → (IsSome then → told ≡ earlier) → Carries then after IsNew (Q told) → Carries before after IsNew (Q earlier)
started_waits before then None earlier told Q h same k = tt
started_waits before None (Some new) earlier told Q h same k = absurd k
started_waits None (Some mid) (Some new) earlier told Q h same k = absurd h
started_waits (Some old) (Some mid) (Some new) earlier told Q h same k = λ none. subst (λ (waits : List ℕ). Q waits new) (same refl) (k (h ∙ none))
