-- A step from what a machine keeps is a step over its past.
use Rattle.std.proofs.Common.{◌≡◌, ℕ, max, Bool, List, [], ◌∷◌, ◌++◌, Option, fold, refl, sym, ap, ◌∙◌, subst}
use Rattle.std.specs.Option.{option_to_list}
use Rattle.std.proofs.lemmas.List.Sums.{fold-append}
use Rattle.charge_world.specs.declared.heard.PilotState.{PilotState}
use Rattle.session_words.specs.declared.phase.Standing.{Standing}
use Rattle.contactor.specs.Calls.{Call, close, release, Kept, kept_after}
use Rattle.contactor.specs.Law.{StandsRight, IsLiveRight}
use Rattle.pilot_basic.specs.declared.words.BasicEvent.{BasicEvent}
use Rattle.pilot_basic.specs.declared.words.BasicEvent.TheVariants.{Offer, GoDigital, DigitalEnded, Pilot, Feedback, Tick}
use Rattle.pilot_basic.specs.declared.words.BasicOrder.{BasicOrder}
use Rattle.pilot_basic.specs.declared.words.BasicOrder.TheVariants.{Open, Close, Duty}
use Rattle.pilot_basic.specs.declared.words.Mode.{Mode}
use Rattle.pilot_basic.specs.Contactor.{told, driven}
use Rattle.pilot_basic.specs.Machine.{Step, State, state_of, with_step, now_of, mode_of, pilot_of, live_at, standing_at, calls_of, told_by, ordered_by, mode_at, mode_after, pilot_after, Acts, follows, LeadsTo}

-- what the contactor keeps after an event
told_calls : (event : BasicEvent) (calls : List Call) → kept_after (told_by event calls) ≡ told (kept_after calls) event
told_calls (Feedback closed) calls = refl
told_calls (Offer amps) calls = refl
told_calls GoDigital calls = refl
told_calls DigitalEnded calls = refl
told_calls (Pilot state) calls = refl
told_calls Tick calls = refl

-- and after orders
driven_calls : (orders : List BasicOrder) (calls : List Call) → kept_after (fold ordered_by calls orders) ≡ fold driven (kept_after calls) orders
driven_calls [] calls = refl
driven_calls (Open ∷ orders) calls = driven_calls orders (release ∷ calls)
driven_calls (Close ∷ orders) calls = driven_calls orders (close ∷ calls)
driven_calls (Duty d ∷ orders) calls = driven_calls orders calls

kept_of : (past : List Step) (at : ℕ) (event : BasicEvent) (orders : List BasicOrder) → kept_after (calls_of (with_step past at event orders)) ≡ fold driven (told (kept_after (calls_of past)) event) orders
kept_of past at event orders =
    driven_calls orders (told_by event (calls_of past)) ∙ ap (λ (k : Kept). fold driven k orders) (told_calls event (calls_of past))

-- the parts of a step
pub record IsStep (s : State) (at : ℕ) (event : BasicEvent) (orders : List BasicOrder) (new : State) : Type 0 where
  pub acted : List BasicOrder
  pub acts : Acts (mode_at s.mode (max s.now at)) (told s.contactor event).live event acted
  pub whole : orders ≡ acted ++ follows (mode_after (mode_at s.mode (max s.now at)) event (max s.now at)) (pilot_after event s.pilot) (fold driven (told s.contactor event) acted).live (fold driven (told s.contactor event) acted).standing
  pub new_is : new ≡ record { now = max s.now at; mode = mode_after (mode_at s.mode (max s.now at)) event (max s.now at); pilot = pilot_after event s.pilot; contactor = fold driven (told s.contactor event) orders }

leads_at : StandsRight → IsLiveRight → (past : List Step) (at : ℕ) (event : BasicEvent) (orders : List BasicOrder) (new : State) → IsStep (state_of past) at event orders new → LeadsTo past at event orders
leads_at stands lives past at event orders new step =
    let kept = fold driven (told (kept_after (calls_of past)) event) step.acted in
    let mode = mode_of (with_step past at event step.acted) in
    let state = pilot_of (with_step past at event step.acted) in
    let live_heard : (told (kept_after (calls_of past)) event).live ≡ live_at (with_step past at event []) =
    sym (ap (λ (k : Kept). k.live) (kept_of past at event [])) ∙ lives (calls_of (with_step past at event [])) in
    let live_is : kept.live ≡ live_at (with_step past at event step.acted) =
    sym (ap (λ (k : Kept). k.live) (kept_of past at event step.acted)) ∙ lives (calls_of (with_step past at event step.acted)) in
    let standing_is : kept.standing ≡ standing_at (with_step past at event step.acted) =
    sym (ap (λ (k : Kept). k.standing) (kept_of past at event step.acted)) ∙ stands (calls_of (with_step past at event step.acted)) in
    record {
      acted = step.acted;
      acts = subst (λ (b : Bool). Acts (mode_at (mode_of past) (max (now_of past) at)) b event step.acted) live_heard step.acts;
      whole =
          step.whole
          ∙ ap (λ (b : Bool). step.acted ++ follows mode state b kept.standing) live_is
          ∙ ap (λ (t : Standing). step.acted ++ follows mode state (live_at (with_step past at event step.acted)) t) standing_is;
    }

state_at : (past : List Step) (at : ℕ) (event : BasicEvent) (orders : List BasicOrder) (new : State) → IsStep (state_of past) at event orders new → new ≡ state_of (with_step past at event orders)
state_at past at event orders new step =
    step.new_is
    ∙ ap (λ (k : Kept). record { now = max (now_of past) at; mode = mode_of (with_step past at event orders); pilot = pilot_of (with_step past at event orders); contactor = k })
    (sym (kept_of past at event orders))

pub step_leads : StandsRight → IsLiveRight → (past : List Step) (s : State) (at : ℕ) (event : BasicEvent) (orders : List BasicOrder) (new : State) → s ≡ state_of past → IsStep s at event orders new → LeadsTo past at event orders
step_leads stands lives past s at event orders new same step =
    leads_at stands lives past at event orders new (subst (λ (t : State). IsStep t at event orders new) same step)

pub step_state : (past : List Step) (s : State) (at : ℕ) (event : BasicEvent) (orders : List BasicOrder) (new : State) → s ≡ state_of past → IsStep s at event orders new → new ≡ state_of (with_step past at event orders)
step_state past s at event orders new same step =
    state_at past at event orders new (subst (λ (t : State). IsStep t at event orders new) same step)

-- the parts as the code computes them
pub made : (s : State) (at now : ℕ) (event : BasicEvent) (mode next : Mode) (pilot : PilotState) (heard acted_on last : Kept) (acted orders : List BasicOrder) (more : Option BasicOrder) →
    now ≡ max s.now at → mode ≡ mode_at s.mode now → next ≡ mode_after mode event now → pilot ≡ pilot_after event s.pilot →
    heard ≡ told s.contactor event → Acts mode heard.live event acted → acted_on ≡ fold driven heard acted →
    option_to_list more ≡ follows next pilot acted_on.live acted_on.standing → last ≡ fold driven acted_on (option_to_list more) →
    orders ≡ acted ++ option_to_list more →
    IsStep s at event orders (record { now = now; mode = next; pilot = pilot; contactor = last })
made s at now event mode next pilot heard acted_on last acted orders more now_is mode_is next_is pilot_is heard_is acts acted_is more_is last_is whole =
    let m = mode_at s.mode (max s.now at) in
    let kept = fold driven (told s.contactor event) acted in
    let mode_is_at : mode ≡ m = mode_is ∙ ap (mode_at s.mode) now_is in
    let next_is_after : next ≡ mode_after m event (max s.now at) =
    next_is ∙ ap (λ (x : Mode). mode_after x event now) mode_is_at ∙ ap (λ (n : ℕ). mode_after m event n) now_is in
    let kept_is : acted_on ≡ kept = acted_is ∙ ap (λ (k : Kept). fold driven k acted) heard_is in
    let last_is_all : last ≡ fold driven (told s.contactor event) orders =
    last_is
    ∙ ap (λ (k : Kept). fold driven k (option_to_list more)) kept_is
    ∙ sym (fold-append driven (told s.contactor event) acted (option_to_list more))
    ∙ ap (λ (l : List BasicOrder). fold driven (told s.contactor event) l) (sym whole) in
    record {
      acted = acted;
      acts = subst (λ (x : Mode). Acts x (told s.contactor event).live event acted) mode_is_at
          (subst (λ (k : Kept). Acts mode k.live event acted) heard_is acts);
      whole =
          whole
          ∙ ap (λ (l : List BasicOrder). acted ++ l)
          (more_is
          ∙ ap (λ (x : Mode). follows x pilot acted_on.live acted_on.standing) next_is_after
          ∙ ap (λ (p : PilotState). follows (mode_after m event (max s.now at)) p acted_on.live acted_on.standing) pilot_is
          ∙ ap (λ (k : Kept). follows (mode_after m event (max s.now at)) (pilot_after event s.pilot) k.live k.standing) kept_is);
      new_is =
          ap (λ (n : ℕ). record { now = n; mode = next; pilot = pilot; contactor = last }) now_is
          ∙ ap (λ (x : Mode). record { now = max s.now at; mode = x; pilot = pilot; contactor = last }) next_is_after
          ∙ ap (λ (p : PilotState). record { now = max s.now at; mode = mode_after m event (max s.now at); pilot = p; contactor = last }) pilot_is
          ∙ ap (λ (k : Kept). record { now = max s.now at; mode = mode_after m event (max s.now at); pilot = pilot_after event s.pilot; contactor = k }) last_is_all;
    }
