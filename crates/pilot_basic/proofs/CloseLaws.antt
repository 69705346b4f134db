-- A contactor is closed in basic charging alone, and for a vehicle that is ready.
use Rattle.std.proofs.Common.{◌≡◌, ℕ, ◌⊎◌, max, Bool, true, false, List, [], ◌∷◌, ◌++◌, Some, fold, refl, sym, ap, ◌∙◌, inl, inr}
use Rattle.std.proofs.lemmas.Bool.{false≢true}
use Rattle.std.proofs.lemmas.List.Sums.{fold-append}
use Rattle.charge_world.specs.declared.heard.PilotState.{PilotState}
use Rattle.charge_world.specs.declared.heard.PilotState.TheVariants as pilot
use Rattle.pilot_basic.specs.declared.words.BasicEvent.{BasicEvent}
use Rattle.pilot_basic.specs.declared.words.BasicEvent.TheVariants.{Offer, GoDigital, DigitalEnded, Pilot, Feedback, Tick}
use Rattle.pilot_basic.specs.declared.words.BasicOrder.{BasicOrder}
use Rattle.pilot_basic.specs.declared.words.BasicOrder.TheVariants.{Open, Close, Duty}
use Rattle.pilot_basic.specs.declared.words.Mode.{Mode}
use Rattle.pilot_basic.specs.declared.words.Mode.TheVariants.{Off, Basic, Digital, Pause}
use Rattle.session_words.specs.declared.phase.Standing.{Standing}
use Rattle.contactor.specs.Standing as acts
use Rattle.contactor.specs.Calls.{Call, close, release, acts_of}
use Rattle.contactor.specs.Rights.{is_ready}
use Rattle.pilot_basic.specs.Machine.{Step, IsRun, with_step, now_of, mode_of, pilot_of, live_at, standing_at, calls_of, told_by, ordered_by, mode_at, mode_after, Acts, follows}

-- whether the contactor is live after an order
abbrev live_then : Bool → BasicOrder → Bool
live_then live Open = false
live_then live Close = true
live_then live (Duty d) = live

abbrev live_after : Bool → List BasicOrder → Bool
live_after live orders = fold live_then live orders

lives_after : (orders : List BasicOrder) (calls : List Call) → acts.is_live (acts_of (fold ordered_by calls orders)) ≡ live_after (acts.is_live (acts_of calls)) orders
lives_after [] calls = refl
lives_after (Open ∷ orders) calls = lives_after orders (release ∷ calls)
lives_after (Close ∷ orders) calls = lives_after orders (close ∷ calls)
lives_after (Duty d ∷ orders) calls = lives_after orders calls

-- an event alone changes nothing about that
live_told : (event : BasicEvent) (calls : List Call) → acts.is_live (acts_of (told_by event calls)) ≡ acts.is_live (acts_of calls)
live_told (Feedback closed) calls = refl
live_told (Offer amps) calls = refl
live_told GoDigital calls = refl
live_told DigitalEnded calls = refl
live_told (Pilot state) calls = refl
live_told Tick calls = refl

-- a contactor whose last order was a Close is live
pub live_by_last : (done : List acts.Act) → acts.last_order done ≡ Some (acts.Close, true) → acts.is_live done ≡ true
live_by_last [] h = absurd (cc)
live_by_last (acts.ordered acts.Close taken ∷ before) h = refl
live_by_last (acts.ordered acts.Open taken ∷ before) h =
    let both : ◌≡◌ {A = acts.Kind × Bool} (acts.Open, taken) (acts.Close, true) = cc in
    let kinds : acts.Open ≡ acts.Close = ap (λ (p : acts.Kind × Bool). p.0) both in
    absurd (cc)
live_by_last (acts.feedback closed ∷ before) h = live_by_last before h

-- what is live after these orders is so after orders that are the same
as_these : (live : Bool) (orders these : List BasicOrder) → orders ≡ these → live_after live orders ≡ true → live_after live these ≡ true
as_these live orders these same h = sym (ap (λ (o : List BasicOrder). live_after live o) same) ∙ h

-- where the contactor is live after what an event led to, it was so before, and basic charging goes on
acted_live : (mode : Mode) (now : ℕ) (event : BasicEvent) (live : Bool) (acted : List BasicOrder) →
    Acts mode live event acted → live_after live acted ≡ true →
    (live ≡ true) × (mode ≡ Basic → mode_after mode event now ≡ Basic)
acted_live Off now (Offer amps) live acted acts h = (as_these live acted (Duty acts.0 ∷ []) acts.2 h, λ _. refl)
acted_live Basic now (Offer amps) live acted acts h = (as_these live acted (Duty acts.0 ∷ []) acts.2 h, λ _. refl)
acted_live Digital now (Offer amps) live acted acts h = (as_these live acted [] acts h, λ e. e)
acted_live (Pause since) now (Offer amps) live acted acts h = (as_these live acted [] acts h, λ e. e)
acted_live Off now GoDigital true acted acts h = absurd (false≢true (as_these true acted (Open ∷ Duty 50 ∷ []) acts h))
acted_live Off now GoDigital false acted acts h = absurd (false≢true (as_these false acted (Duty 50 ∷ []) acts h))
acted_live Basic now GoDigital true acted acts h = absurd (false≢true (as_these true acted (Open ∷ Duty 50 ∷ []) acts h))
acted_live Basic now GoDigital false acted acts h = absurd (false≢true (as_these false acted (Duty 50 ∷ []) acts h))
acted_live Digital now GoDigital live acted acts h = (as_these live acted [] acts h, λ e. e)
acted_live (Pause since) now GoDigital live acted acts h = (as_these live acted [] acts h, λ e. e)
acted_live Off now DigitalEnded live acted acts h = (as_these live acted [] acts h, λ e. e)
acted_live Basic now DigitalEnded live acted acts h = (as_these live acted [] acts h, λ e. e)
acted_live Digital now DigitalEnded live acted acts h = (as_these live acted (Duty 1000 ∷ []) acts h, λ e. absurd (cc))
acted_live (Pause since) now DigitalEnded live acted acts h = (as_these live acted [] acts h, λ e. e)
acted_live mode now (Pilot state) live acted acts h = (as_these live acted [] acts h, λ e. e)
acted_live mode now (Feedback closed) live acted acts h = (as_these live acted [] acts h, λ e. e)
acted_live mode now Tick live acted acts h = (as_these live acted [] acts h, λ e. e)

-- the order that follows: the contactor is live after it in basic charging for a ready vehicle, or because it was so
-- before and nothing followed
followed_live : (mode : Mode) (state : PilotState) (live : Bool) (standing : Standing) →
    live_after live (follows mode state live standing) ≡ true →
    ((mode ≡ Basic) × (is_ready state ≡ true)) ⊎ ((live ≡ true) × (mode ≡ Basic → live ≡ false))
followed_live Off state live standing h = inr (h, λ e. absurd (cc))
followed_live Digital state live standing h = inr (h, λ e. absurd (cc))
followed_live (Pause since) state live standing h = inr (h, λ e. absurd (cc))
followed_live Basic pilot.C live standing h = inl (refl, refl)
followed_live Basic pilot.D live standing h = inl (refl, refl)
followed_live Basic pilot.A true standing h = absurd (false≢true h)
followed_live Basic pilot.B true standing h = absurd (false≢true h)
followed_live Basic pilot.E true standing h = absurd (false≢true h)
followed_live Basic pilot.F true standing h = absurd (false≢true h)
followed_live Basic pilot.A false standing h = inr (h, λ _. refl)
followed_live Basic pilot.B false standing h = inr (h, λ _. refl)
followed_live Basic pilot.E false standing h = inr (h, λ _. refl)
followed_live Basic pilot.F false standing h = inr (h, λ _. refl)

-- one step
step_live : (mode : Mode) (now : ℕ) (event : BasicEvent) (state : PilotState) (standing : Standing) (live : Bool) (acted orders : List BasicOrder) →
    (live ≡ true → mode ≡ Basic) → Acts mode live event acted →
    orders ≡ acted ++ follows (mode_after mode event now) state (live_after live acted) standing →
    live_after live orders ≡ true → (mode_after mode event now ≡ Basic) × (is_ready state ≡ true)
step_live mode now event state standing live acted orders before acts whole h =
    let after = live_after live acted in
    let f = follows (mode_after mode event now) state after standing in
    let split : live_after after f ≡ true =
    sym (fold-append live_then live acted f) ∙ as_these live orders (acted ++ f) whole h in
    elim (followed_live (mode_after mode event now) state after standing split) [
      | inl ready ↦ ready
      | inr more ↦
          let was = acted_live mode now event live acted acts more.0 in
          absurd (false≢true (sym (more.1 (was.1 (before was.0))) ∙ more.0))
    ]

pub closed_when_ready : (past : List Step) → IsRun past → live_at past ≡ true → (mode_of past ≡ Basic) × (is_ready (pilot_of past) ≡ true)
closed_when_ready [] run h = absurd (false≢true h)
closed_when_ready (step ∷ past) run h =
    let now = max (now_of past) step.at in
    let told = told_by step.event (calls_of past) in
    let after = with_step past step.at step.event run.1.acted in
    step_live (mode_at (mode_of past) now) now step.event (pilot_of (step ∷ past)) (standing_at after) (acts.is_live (acts_of told)) run.1.acted step.orders
    (λ live. ap (λ (m : Mode). mode_at m now) (closed_when_ready past run.0 (sym (live_told step.event (calls_of past)) ∙ live)).0)
    run.1.acts
    (run.1.whole
    ∙ ap (λ (b : Bool). run.1.acted ++ follows (mode_of after) (pilot_of after) b (standing_at after)) (lives_after run.1.acted told))
    (sym (lives_after step.orders told) ∙ h)
