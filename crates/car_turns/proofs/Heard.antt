-- A hearing carries a run to a run, as a lost one does.
use Rattle.std.proofs.Common.{◌≡◌, ◌<◌, ℕ, max, false, List, [], ◌∷◌, Option, None, refl, sym, ap, subst, ◌∙◌}
use Rattle.charge_world.specs.declared.entry.Entry.{Entry}
use Rattle.charge_world.specs.declared.entry.Entry.TheVariants as entry
use Rattle.charge_world.specs.declared.heard.Heard.{Heard}
use Rattle.charge_world.specs.Outside.{IsOfPosts}
use Rattle.session_words.specs.declared.plan.CarPlan.{CarPlan}
use Rattle.post_spec.specs.Steps.{Event, moment, event_at}
use Rattle.station_spec.specs.Blocks.{IsHearing}
use Rattle.endpoint.specs.Knowing.{Known, known_first, known_behind, known_lost}
use Rattle.endpoint.proofs.Knowing.{known_none, known_heard, known_nothing}
use Rattle.endpoint.specs.Telling.{Carries}
use Rattle.endpoint.proofs.Carry.{carries_none}
use Rattle.end_turns.specs.Turns as turns
use Rattle.car_spec.specs.Acting.{state}
use Rattle.car_spec.specs.Codecs.{Codecs}
use Rattle.car_spec.specs.Hearing.{hearing}
use Rattle.car_spec.specs.Next.{IsQuiet}
use Rattle.car_spec.specs.Report.{Report}
use Rattle.car_spec.specs.Runs.{MayHear}
use Rattle.car_spec.specs.States.{State, fresh}
use Rattle.car_spec.specs.Steps.{Hears, Loses}
use Rattle.car_spec.specs.Until.{until, untils}
use Rattle.car_acts.specs.Driving.{InRun}
use Rattle.car_acts.specs.Sound.{IsSound}
use Rattle.car_acts.proofs.Runs.{unreported, still_unreported}
use Rattle.car_acts.proofs.Sound.{heard_sound}

-- a next hearing may come
hearable : (c : Codecs) (plan : CarPlan) (k : Known) (s : State) (told : Option Report) (past : List Entry) → k.last ≡ false → k.heard < plan.turns → s.over ≡ false → IsQuiet plan s → (r : InRun c plan k s told past)
    → MayHear plan past (state plan r.steps)
hearable c plan k s told past goes_on left lives quiet r = record {
  whole = subst (IsQuiet plan) r.state_is quiet;
  lives = sym (ap (λ (t : State). t.over) r.state_is) ∙ lives;
  goes_on = r.known_is.last_is ∙ goes_on;
  turns_left = subst (λ (n : ℕ). n < plan.turns) (sym r.known_is.heard_is) left;
}

heard_run : (c : Codecs) (plan : CarPlan) (k : Known) (s : State) (told : Option Report) (past : List Entry) (h : Heard) (bytes : List ℕ) → k.last ≡ false → k.heard < plan.turns → s.over ≡ false → IsQuiet plan s
    → IsOfPosts 1 h.what → IsHearing h bytes → InRun c plan k s told past
    → InRun c plan (known_behind k h bytes (until plan s)) (hearing (max k.clock h.at) (event_at 1 h.what bytes) s) told (entry.Heard h bytes ∷ past)
heard_run c plan k s told past h bytes goes_on left lives quiet of is r =
    let at = max (moment past) h.at in
    let event = event_at 1 h.what bytes in
    let none = unreported s.over told r.steps past lives r.report_is in
    record {
      steps = Hears at event ∷ r.steps;
      run = (
        past,
        r.run,
        hearable c plan k s told past goes_on left lives quiet r,
        record {
          heard = h;
          bytes = bytes;
          of_car = of;
          within = is;
          at_is = refl;
          event_is = refl;
          past_is = refl;
        },
      );
      state_is = ap (λ (m : ℕ). hearing (max m h.at) event s) (sym r.known_is.clock_is) ∙ ap (hearing at event) r.state_is;
      report_is = still_unreported s.over told (Hears at event ∷ r.steps) (entry.Heard h bytes ∷ past) lives none;
      known_is = known_heard k h bytes (until plan s) past r.known_is;
      untils_are = ap (λ (t : State). until plan t ∷ untils plan r.steps) (sym r.state_is) ∙ ap (λ (us : List ℕ). until plan s ∷ us) r.untils_are;
    }

-- behind a lost hearing
pub lost_run : (c : Codecs) (plan : CarPlan) (k : Known) (s : State) (told : Option Report) (past : List Entry) → k.last ≡ false → k.heard < plan.turns → s.over ≡ false → IsQuiet plan s → InRun c plan k s told past
    → InRun c plan (known_lost k (until plan s)) s told (entry.Lost ∷ past)
lost_run c plan k s told past goes_on left lives quiet r = record {
  steps = Loses ∷ r.steps;
  run = (past, r.run, hearable c plan k s told past goes_on left lives quiet r, refl);
  state_is = r.state_is;
  report_is = still_unreported s.over told (Loses ∷ r.steps) (entry.Lost ∷ past) lives (unreported s.over told r.steps past lives r.report_is);
  known_is = known_nothing k (until plan s) past r.known_is;
  untils_are = ap (λ (t : State). until plan t ∷ untils plan r.steps) (sym r.state_is) ∙ ap (λ (us : List ℕ). until plan s ∷ us) r.untils_are;
}

-- what was heard next, once the car knows it
pub hears_run : (a : Option (List Entry)) (c : Codecs) (plan : CarPlan) (k : Known) (s new : State) (told later : Option Report) (h : Heard) (bytes : List ℕ) (now : ℕ) → k.last ≡ false → k.heard < plan.turns → s.over ≡ false → IsQuiet plan s
    → IsOfPosts 1 h.what → IsHearing h bytes → max k.clock h.at ≡ now → new ≡ hearing now (event_at 1 h.what bytes) s → later ≡ told
    → Carries a a (turns.Hears (InRun c plan k s told) h bytes) (InRun c plan (known_behind k h bytes (until plan s)) new later)
hears_run a c plan k s new told later h bytes now goes_on left lives quiet of is clock new_is later_is =
    let known = known_behind k h bytes (until plan s) in
    let event = event_at 1 h.what bytes in
    carries_none a (turns.Hears (InRun c plan k s told) h bytes) (InRun c plan known new later)
    (λ past n.
    let after = heard_run c plan k s told n.earlier h bytes goes_on left lives quiet of is n.run in
    let there = subst (λ (p : List Entry). InRun c plan known (hearing (max k.clock h.at) event s) told p) (sym n.past_is) after in
    let known_then : InRun c plan known new told past = subst (λ (t : State). InRun c plan known t told past) (ap (λ (m : ℕ). hearing m event s) clock ∙ sym new_is) there in
    subst (λ (o : Option Report). InRun c plan known new o past) (sym later_is) known_then)

-- before anything was heard
pub begins : (c : Codecs) (plan : CarPlan) (s : State) (told : Option Report) (past : List Entry) → s ≡ fresh → told ≡ None → past ≡ [] → InRun c plan known_first s told past
begins c plan s told past fresh_is none e =
    let k = known_first in
    let first : InRun c plan k fresh None [] = record {
      steps = [];
      run = refl;
      state_is = refl;
      report_is = (refl, refl);
      known_is = known_none;
      untils_are = refl;
    } in
    subst (λ (p : List Entry). InRun c plan k s told p) (sym e) (subst (λ (o : Option Report). InRun c plan k s o []) (sym none) (subst (λ (t : State). InRun c plan k t None []) (sym fresh_is) first))

-- by the same plan
pub same_plan : (a b : Option (List Entry)) (c : Codecs) (p q : CarPlan) (k : Known) (s t : State) (told later : Option Report) → p ≡ q → Carries a b (InRun c p k s told) (InRun c p k t later) → Carries a b (InRun c q k s told) (InRun c q k t later)
same_plan a b c p q k s t told later e h = subst (λ (x : CarPlan). Carries a b (InRun c x k s told) (InRun c x k t later)) e h

-- a car that heard it stays sound
pub heard_so : (plan : CarPlan) (s new : State) (now : ℕ) (event : Event) → s.over ≡ false → IsSound plan s → new ≡ hearing now event s → IsSound plan new
heard_so plan s new now event lives h e = subst (IsSound plan) (sym e) (heard_sound plan s now event lives h)
