-- Nothing is ordered for 3,000 ms after digital communication ended.
use Rattle.std.proofs.Common.{◌≡◌, ◌≢◌, ℕ, ◌+◌, ◌≤◌, ◌⊎◌, max, Bool, cond, List, [], ◌∷◌, ◌++◌, refl, ap, ◌∙◌, subst, inl, inr, arith}
use Rattle.std.proofs.lemmas.Bool.{cases_lt, lt-leb}
use Rattle.pilot_basic.specs.declared.words.BasicEvent.{BasicEvent}
use Rattle.pilot_basic.specs.declared.words.BasicEvent.TheVariants.{Offer, GoDigital, DigitalEnded, Pilot, Feedback, Tick}
use Rattle.pilot_basic.specs.declared.words.BasicOrder.{BasicOrder}
use Rattle.pilot_basic.specs.declared.words.Mode.{Mode}
use Rattle.pilot_basic.specs.declared.words.Mode.TheVariants.{Off, Digital, Pause}
use Rattle.pilot_basic.specs.Machine.{Step, IsRun, with_step, now_of, mode_of, pilot_of, live_at, standing_at, mode_at, mode_after, Acts, follows}

-- a pause at a moment: over, or as it was
pause_at : (since now : ℕ) → (since + 3000 ≤ now) ⊎ (mode_at (Pause since) now ≡ Pause since)
pause_at since now =
    elim (cases_lt now (since + 3000)) [
      | inl early ↦ inr (ap (λ (b : Bool). cond b Off (Pause since)) (lt-leb (since + 3000) now early))
      | inr over ↦ inl over
    ]

-- no event changes a pause
pause_after : (since now : ℕ) (event : BasicEvent) → mode_after (Pause since) event now ≡ Pause since
pause_after since now (Offer amps) = refl
pause_after since now GoDigital = refl
pause_after since now DigitalEnded = refl
pause_after since now (Pilot state) = refl
pause_after since now (Feedback closed) = refl
pause_after since now Tick = refl

-- no event leads to an order in a pause
pause_acts : (since : ℕ) (live : Bool) (event : BasicEvent) (acted : List BasicOrder) → Acts (Pause since) live event acted → acted ≡ []
pause_acts since live (Offer amps) acted acts = acts
pause_acts since live GoDigital acted acts = acts
pause_acts since live DigitalEnded acted acts = acts
pause_acts since live (Pilot state) acted acts = acts
pause_acts since live (Feedback closed) acted acts = acts
pause_acts since live Tick acted acts = acts

-- the end of digital communication begins a pause
ended_pauses : (mode : Mode) (event : BasicEvent) (now : ℕ) → event ≡ DigitalEnded → mode ≡ Digital → mode_after (mode_at mode now) event now ≡ Pause now
ended_pauses mode event now e m =
    ap (λ (x : Mode). mode_after (mode_at x now) event now) m ∙ ap (λ (x : BasicEvent). mode_after Digital x now) e

-- later: the pause goes on, or it is over
goes_on : (past later : List Step) (ended : Step) → ended.event ≡ DigitalEnded → mode_of past ≡ Digital →
    (mode_of (later ++ ended ∷ past) ≡ Pause (now_of (ended ∷ past))) ⊎ (now_of (ended ∷ past) + 3000 ≤ now_of (later ++ ended ∷ past))
goes_on past [] ended e m = inl (ended_pauses (mode_of past) ended.event (now_of (ended ∷ past)) e m)
goes_on past (step ∷ later) ended e m =
    let since = now_of (ended ∷ past) in
    let now = max (now_of (later ++ ended ∷ past)) step.at in
    elim (goes_on past later ended e m) [
      | inr over ↦ inr (omega arith)
      | inl pause ↦ elim (pause_at since now) [
        | inl over ↦ inr over
        | inr still ↦ inl (
            ap (λ (x : Mode). mode_after (mode_at x now) step.event now) pause
            ∙ ap (λ (x : Mode). mode_after x step.event now) still
            ∙ pause_after since now step.event)
      ]
    ]

pub pauses : (past later : List Step) (ended next : Step) → IsRun (next ∷ (later ++ ended ∷ past)) → ended.event ≡ DigitalEnded → mode_of past ≡ Digital → next.orders ≢ [] → now_of (ended ∷ past) + 3000 ≤ now_of (next ∷ (later ++ ended ∷ past))
pauses past later ended next run e m some =
    let since = now_of (ended ∷ past) in
    let q = later ++ ended ∷ past in
    let now = max (now_of q) next.at in
    elim (goes_on past later ended e m) [
      | inr over ↦ omega arith
      | inl pause ↦ elim (pause_at since now) [
        | inl over ↦ over
        | inr still ↦
            let after = with_step q next.at next.event run.1.acted in
            let mode_is : mode_at (mode_of q) now ≡ Pause since = ap (λ (x : Mode). mode_at x now) pause ∙ still in
            let after_is : mode_of after ≡ Pause since =
            ap (λ (x : Mode). mode_after x next.event now) mode_is ∙ pause_after since now next.event in
            let heard = live_at (with_step q next.at next.event []) in
            let none : run.1.acted ≡ [] =
            pause_acts since heard next.event run.1.acted (subst (λ (x : Mode). Acts x heard next.event run.1.acted) mode_is run.1.acts) in
            absurd (some (
            run.1.whole
            ∙ ap (λ (x : Mode). run.1.acted ++ follows x (pilot_of after) (live_at after) (standing_at after)) after_is
            ∙ ap (λ (a : List BasicOrder). a ++ []) none))
      ]
    ]
