-- What is looked for among steps.
use Rattle.std.proofs.Common.{◌≡◌, ℕ, ◌+◌, ◌<◌, ◌≤◌, List, length, Some, slice_get, ap, subst, sym, ◌∙◌, arith, inl, inr}
use Rattle.std.proofs.lemmas.Bool.{cases_lt}
use Rattle.std.proofs.lemmas.Option.{slice_get_within}
use Rattle.exi_schema.specs.declared.places.Step.{Step}
use Rattle.exi_schema.specs.declared.places.Sought.{Sought}
use Rattle.exi_schema.specs.Steps.{IsSought}

-- it is none of the first n
abbrev pub IsLater : List Step → Sought → ℕ → Type 0
IsLater steps sought n = (code : ℕ) (step : Step) → code < n → slice_get steps code ≡ Some step → IsSought step sought → ⊥

pub later_still : (steps : List Step) (sought : Sought) (n : ℕ) (here : Step) → IsLater steps sought n → Some here ≡ slice_get steps n → (IsSought here sought → ⊥) → IsLater steps sought (n + 1)
later_still steps sought n here later at other = λ code step less is meant. elim (cases_lt code n) [
  | inl low ↦ later code step low is meant
  | inr high ↦
      let here_is : code ≡ n = omega (arith, less, high) in
      let same : Some here ≡ Some step = at ∙ ap (λ (k : ℕ). slice_get steps k) (sym here_is) ∙ is in
      let step_is : step ≡ here = cc in
      other (subst (λ (s : Step). IsSought s sought) step_is meant)
]

pub nowhere : (steps : List Step) (sought : Sought) (n : ℕ) → IsLater steps sought n → length steps ≤ n → (code : ℕ) (step : Step) → slice_get steps code ≡ Some step → IsSought step sought → ⊥
nowhere steps sought n later all code step is meant = later code step (omega (arith, all, slice_get_within steps code step is)) is meant
