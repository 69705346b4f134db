-- IEC 61851-1, annex A, and own: what holds at each step of basic charging.
use Rattle.std.specs.Prelude.{◌≡◌, ◌≢◌, ℕ, ◌+◌, ◌≤◌, true, List, [], ◌∷◌, ◌++◌, Some, IsTrue}
use Rattle.std.specs.List.{AllByRecursion}
use Rattle.contactor.specs.Standing.{last_order, Close}
use Rattle.contactor.specs.Calls.{acts_of}
use Rattle.contactor.specs.Rights.{is_ready}
use Rattle.pilot_basic.specs.declared.words.BasicEvent.TheVariants.{Offer, DigitalEnded}
use Rattle.pilot_basic.specs.declared.words.BasicOrder.{BasicOrder}
use Rattle.pilot_basic.specs.declared.words.BasicOrder.TheVariants as order
use Rattle.pilot_basic.specs.declared.words.Mode.TheVariants as mode
use Rattle.pilot_basic.specs.Duty.{offered, OffersUpTo}
use Rattle.pilot_basic.specs.Machine.{Step, calls_of, mode_of, now_of, pilot_of}

-- an order to the pilot offers a current, no more than this one
abbrev pub OffersNoMore : ℕ → BasicOrder → Type 0
OffersNoMore amps (order.Duty d) = OffersUpTo amps (offered d)
OffersNoMore amps order.Open = Unit {0}
OffersNoMore amps order.Close = Unit {0}

-- After each step the last order to the contactor is Close only in basic charging, for a vehicle that is ready. What is ordered for an offer
-- offers no more than that. After digital communication ended nothing is ordered for 3,000 ms.
pub record IsCharged (past : List Step) : Type 0 where
  pub closes : (later before : List Step) → past ≡ later ++ before → last_order (acts_of (calls_of before)) ≡ Some (Close, true)
      → (mode_of before ≡ mode.Basic) × IsTrue (is_ready (pilot_of before))
  pub offers : (later before : List Step) (step : Step) (amps : ℕ) → past ≡ later ++ step ∷ before → step.event ≡ Offer amps
      → AllByRecursion (OffersNoMore amps) step.orders
  pub pauses : (later between before : List Step) (next ended : Step) → past ≡ later ++ next ∷ (between ++ ended ∷ before) → ended.event ≡ DigitalEnded
      → mode_of before ≡ mode.Digital → next.orders ≢ [] → now_of (ended ∷ before) + 3000 ≤ now_of (next ∷ (between ++ ended ∷ before))
