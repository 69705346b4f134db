-- A turn of another post brings a post closer.
use Rattle.std.proofs.Common.{◌≡◌, ◌≢◌, ℕ, ◌<◌, inl, inr, true, false, sym, ◌∙◌, arith}
use Rattle.std.proofs.lemmas.Bool.{cases_lt}
use Rattle.wire_events.specs.Seats.{IsSooner}
use Rattle.wire_events.specs.Law.{IsBehind, TurnsComeCloser}

closer : (last turn place after before : ℕ) → last < 8 → turn < 8 → place ≢ turn → (IsSooner last place turn → ⊥) →
    IsBehind turn place after → IsBehind last place before → after < before
closer last turn place after before small less other never (inl a) (inl b) =
    elim (cases_lt last turn) [
      | inl l ↦ omega (arith, a.1, b.1, l)
      | inr l ↦ absurd (never (inr (inr (l, b.0))))
    ]
closer last turn place after before small less other never (inl a) (inr b) = omega (arith, a.0, a.1, b.0, b.1, small)
closer last turn place after before small less other never (inr a) (inl b) = absurd (never (inl (b.0, omega (arith, a.0, other))))
closer last turn place after before small less other never (inr a) (inr b) =
    elim (cases_lt last turn) [
      | inl l ↦ omega (arith, a.1, b.1, l)
      | inr l ↦ absurd (never (inr (inl (omega (arith, a.0, other), l))))
    ]

absurd_bool : true ≡ false → ⊥
absurd_bool e = cc e

pub turns_come_closer : TurnsComeCloser
turns_come_closer w now turn place after before h =
    closer w.last turn place after before h.last (omega (arith, h.turn_is.within, h.posts)) h.other
    (λ sooner. absurd_bool (sym h.due ∙ h.turn_is.first place h.within sooner h.waits))
