-- ISO 15118-2:2014, sections 8.7 and 8.8: ends of sessions that no run has, by example, and one that is as it should be.
use Rattle.std.specs.Prelude.{◌≡◌, ℕ, true, false, List, [], ◌∷◌, None}
use Rattle.charge_world.specs.declared.ports.Order.TheVariants as order
use Rattle.session_words.specs.declared.plan.PostPlan.{PostPlan}
use Rattle.post_spec.specs.Codecs.{Codecs}
use Rattle.post_spec.specs.Steps.{Came, Gone, Clock, Give, End, Step, Hears, Does}
use Rattle.caused_ends.specs.Ending.{EndByCauses}

-- a connection came, and 100 ms later the clock was looked at, or the connection ended
abbrev pub begun : ℕ → List Step
begun token = Hears 100 Clock ∷ Hears 0 (Came token) ∷ []

abbrev pub gone : ℕ → List Step
gone token = Hears 100 Gone ∷ Hears 0 (Came token) ∷ []

-- at 30 s nothing was asked yet
abbrev pub overdue : ℕ → List Step
overdue token = Hears 30000 Clock ∷ Hears 0 (Came token) ∷ []

abbrev pub Refuses : Codecs → (ℕ → List Step) → Type 0
Refuses c past = (plan : PostPlan) (token : ℕ) → EndByCauses c plan (past token) → ⊥

-- a session ends, and nothing ended it
abbrev pub EndsForNothing : Codecs → Type 0
EndsForNothing c = (number : ℕ) → Refuses c (λ token. Does None (End number) true ∷ begun token)

-- it ends by another number than that of what ended it: the end of a connection is 15
abbrev pub EndsByAnother : Codecs → Type 0
EndsByAnother c = (number : ℕ) → (number ≡ 15 → ⊥) → Refuses c (λ token. Does None (End number) true ∷ gone token)

-- it ends by what came later: an order that failed is 17
abbrev pub EndsByLater : Codecs → Type 0
EndsByLater c = Refuses c (λ token. Does None (End 17) true ∷ Does None (Give order.Open) false ∷ gone token)

-- the connection ended, or a deadline passed, and the session goes on
abbrev pub GoesOn : Codecs → Type 0
GoesOn c = Refuses c (λ token. Hears 200 Clock ∷ gone token)

abbrev pub GoesOnLate : Codecs → Type 0
GoesOnLate c = Refuses c (λ token. Hears 30100 Clock ∷ overdue token)

-- an end with the number of its cause
abbrev pub EndsRightly : Codecs → Type 0
EndsRightly c = (plan : PostPlan) (token : ℕ) → EndByCauses c plan (Does None (End 15) true ∷ gone token)
