-- Where the turns end, and the closing order stands on them.
use Rattle.std.proofs.Common.{◌≡◌, ◌<◌, ℕ, ◌==◌, Bool, true, false, not, ◌&&◌, if◌then◌else◌, List, ◌∷◌, ◌++◌, Option, None, refl, sym, ap, subst, ◌∙◌, inl, inr}
use Rattle.std.specs.Prelude.{MatchBool}
use Rattle.charge_world.specs.declared.entry.Entry.{Entry}
use Rattle.charge_world.specs.declared.entry.Entry.TheVariants as entry
use Rattle.charge_world.specs.declared.ports.Order.TheVariants as order
use Rattle.session_words.specs.declared.plan.CarPlan.{CarPlan}
use Rattle.endpoint.proofs.Knowing.{last_heard, last_lost}
use Rattle.end_turns.specs.declared.ending.Ended.{Ended as Stopped}
use Rattle.end_turns.specs.declared.ending.Ended.TheVariants as stopped
use Rattle.end_turns.specs.Ending as turns
use Rattle.end_turns.specs.Ending.{is_whole, HasRun}
use Rattle.end_turns.proofs.Finished.{ended_past}
use Rattle.car_spec.specs.Acting.{state}
use Rattle.car_spec.specs.Codecs.{Codecs}
use Rattle.car_spec.specs.Next.{IsQuiet}
use Rattle.car_spec.specs.Report.{Report, cause, report}
use Rattle.car_spec.specs.Runs.{Closes, IsEnded}
use Rattle.car_spec.specs.States.{State}
use Rattle.car_spec.specs.Steps.{Step}
use Rattle.car_spec.specs.Told.{cycles, given}
use Rattle.car_laws.proofs.KeptActs.{run_keeps}
use Rattle.evcc_machine.specs.Views.{stage_in}
use Rattle.car_acts.specs.declared.driver.Driver.{Driver}
use Rattle.car_acts.specs.Driving.{InRun}
use Rattle.car_acts.specs.Reporting.{cycles_in, reported, Reports}
use Rattle.car_acts.proofs.Runs.{kept_cycles}
use Rattle.car_acts.proofs.Sound.{fresh_sound}
use Rattle.car_turns.specs.Ending.{EndedAs, stopped_by, ended_by, opens_if, IsDriven}
use Rattle.car_turns.specs.Made.{IsMadeOf, IsReady}

-- ---- the closing order

pub opens_live : (due : Bool) (blocks past : List Entry) (taken : Bool) → due ≡ true → past ≡ blocks → Closes due blocks (entry.Drove 1 order.Open taken ∷ past)
opens_live true blocks past taken e p = (taken, ap (λ (x : List Entry). entry.Drove 1 order.Open taken ∷ x) p)
opens_live false blocks past taken e p = cc

pub leaves_idle : (due : Bool) (blocks past : List Entry) → due ≡ false → past ≡ blocks → Closes due blocks past
leaves_idle true blocks past e p = cc
leaves_idle false blocks past e p = p

-- a car whose contactor has to be opened didn't end, so the order is due also where its line couldn't be written
pub due_anyway : (whole : Bool) (s : State) → (s.live && not s.over) ≡ true → opens_if whole s ≡ true
due_anyway true s e = e
due_anyway false s e = left s.live (not s.over) e
  where
    left : (a b : Bool) → (a && b) ≡ true → a ≡ true
    left true b e = refl
    left false b e = e

closes_cause : (b : Bool) (blocks past : List Entry) → Closes b blocks past → cause past ≡ cause blocks
closes_cause true blocks past h = ap cause h.1
closes_cause false blocks past h = ap cause h

-- ---- how a run ends

is_ended : (plan : CarPlan) (how : Stopped) (blocks : List Entry) (s : State) (over : Bool) → s.over ≡ over → is_whole how ≡ true → turns.EndedAs plan.turns s.over how blocks → IsEnded plan blocks s
is_ended plan stopped.Over blocks s over o whole e = inr (inl (last_heard blocks e.0 e.1 e.2 e.3))
is_ended plan stopped.Lost blocks s over o whole e = inr (inl (last_lost blocks e))
is_ended plan stopped.TraceFault blocks s over o whole e = cc
is_ended plan stopped.Turns blocks s true o whole e = inl o
is_ended plan stopped.Turns blocks s false o whole e = inr (inr (inl (e.0 o)))

rests : (plan : CarPlan) (how : Stopped) (whole : Bool) (blocks : List Entry) (s : State) → is_whole how ≡ whole → turns.EndedAs plan.turns s.over how blocks → MatchBool whole (IsQuiet plan s) (Unit {0})
    → MatchBool whole (IsQuiet plan s × IsEnded plan blocks s) (Unit {0})
rests plan how true blocks s w e quiet = (quiet, is_ended plan how blocks s s.over refl w e)
rests plan how false blocks s w e quiet = tt

-- what the turns of a car stopped by, told by how driving ended
pub back : (how : Stopped) (over : Bool) → stopped_by (ended_by how over) ≡ how
back stopped.Over over = refl
back stopped.Lost over = refl
back stopped.TraceFault over = refl
back stopped.Turns true = refl
back stopped.Turns false = refl

-- ---- the report

reported_so : (c : Codecs) (plan : CarPlan) (s : State) (told : Option Report) (steps : List Step) (blocks past : List Entry) (over : Bool) → s.over ≡ over → s ≡ state plan steps → cause past ≡ cause blocks
    → ((state plan steps).over ≡ false → cycles_in (stage_in (state plan steps).session) ≡ cycles steps) → Reports over told steps blocks → reported told s ≡ report steps past
reported_so c plan s told steps blocks past true o e same counts r =
    ap (λ (x : Option Report). reported x s) r.0 ∙ ap (λ (n : ℕ). (let y : Report = record { cycles = cycles steps; cause = n; session = if n == 29 then given steps else None } in y)) (sym same)
reported_so c plan s told steps blocks past false o e same counts r =
    let none : cause past ≡ 0 = same ∙ r.1 in
    let lives : (state plan steps).over ≡ false = sym (ap (λ (t : State). t.over) e) ∙ o in
    ap (λ (x : Option Report). reported x s) r.0 ∙ ap (reported None) e
    ∙ ap (λ (n : ℕ). (let y : Report = record { cycles = n; cause = 0; session = None } in y)) (counts lives)
    ∙ ap (λ (n : ℕ). (let y : Report = record { cycles = cycles steps; cause = n; session = if n == 29 then given steps else None } in y)) (sym none)

ended_so : (plan : CarPlan) (told : Option Report) (steps : List Step) (how : Stopped) (over : Bool) (blocks past : List Entry) → cause past ≡ cause blocks → Reports over told steps blocks → turns.EndedAs plan.turns over how past
    → EndedAs plan.turns (ended_by how over) past
ended_so plan told steps stopped.Over over blocks past same r e = e
ended_so plan told steps stopped.Lost over blocks past same r e = e
ended_so plan told steps stopped.TraceFault over blocks past same r e = tt
ended_so plan told steps stopped.Turns true blocks past same r e = (e.1, subst (λ (n : ℕ). 0 < n) (sym same) r.1)
ended_so plan told steps stopped.Turns false blocks past same r e = (e.0 refl, e.1, same ∙ r.1)

-- ---- from what the turns made of a past to the run by which the car was driven

abbrev pub CarRun : Codecs → Driver → Stopped → List ℕ → List ℕ → List Entry → Type 0
CarRun c d = HasRun (λ k. InRun c d.plan k d.car d.report) (λ whole. Closes (opens_if whole d.car)) (IsReady d) d.plan.turns d.car.over

pub driven : (c : Codecs) (d : Driver) (how : Stopped) (before after : List ℕ) (past : List Entry) → CarRun c d how before after past → IsDriven c d.plan (ended_by how d.car.over) before after (reported d.report d.car) past
driven c d how before after past h =
    let plan = d.plan in
    let r = h.run in
    let lives : (state plan r.steps).over ≡ false → cycles_in (stage_in (state plan r.steps).session) ≡ cycles r.steps = λ l. kept_cycles plan r.steps (state plan r.steps) l (run_keeps c plan h.blocks r.steps r.run) in
    let same = closes_cause (opens_if (is_whole how) d.car) h.blocks past h.closes in
    record {
      blocks = h.blocks;
      steps = r.steps;
      run = r.run;
      closes = rw (back how d.car.over) (subst (λ (t : State). Closes (opens_if (is_whole how) t) h.blocks past) r.state_is h.closes);
      rests = rw (back how d.car.over)
          (subst (λ (t : State). MatchBool (is_whole how) (IsQuiet plan t × IsEnded plan h.blocks t) (Unit {0})) r.state_is
          (rests plan how (is_whole how) h.blocks d.car refl h.ended (quiet (is_whole how) h.rests)));
      untils_are = h.untils_are ∙ ap (λ (us : List ℕ). us ++ before) (sym r.untils_are);
      report_is = reported_so c plan d.car d.report r.steps h.blocks past d.car.over refl r.state_is same lives r.report_is;
    }
  where
    quiet : (whole : Bool) → MatchBool whole (IsReady d) (Unit {0}) → MatchBool whole (IsQuiet d.plan d.car) (Unit {0})
    quiet true r = r.quiet
    quiet false r = tt

pub ended_car : (c : Codecs) (d : Driver) (how : Stopped) (before after : List ℕ) (past : List Entry) → CarRun c d how before after past → EndedAs d.plan.turns (ended_by how d.car.over) past
ended_car c d how before after past h =
    ended_so d.plan d.report h.run.steps how d.car.over h.blocks past (closes_cause (opens_if (is_whole how) d.car) h.blocks past h.closes) h.run.report_is (ended_past d.plan.turns d.car.over how h.blocks past h.orders h.ended)

-- ---- before anything was heard

pub made_ready : (plan : CarPlan) (d : Driver) → IsMadeOf plan d → IsReady d
made_ready plan d m = record {
  rules = rw m.plan_is m.rules;
  sound = rw m.car_is (fresh_sound d.plan);
  quiet = rw m.car_is (record { none = refl; no_word = refl });
}
