-- What holds at each step of a run.
use Rattle.std.proofs.Common.{◌≡◌, ◌≢◌, ℕ, ◌+◌, ◌≤◌, Bool, cond, true, false, List, [], ◌∷◌, ◌++◌, Some, sym, subst}
use Rattle.std.specs.Prelude.{IsTrue, MatchBool}
use Rattle.std.specs.List.{AllByRecursion}
use Rattle.contactor.specs.Standing.{last_order, Close}
use Rattle.contactor.specs.Calls.{acts_of}
use Rattle.contactor.specs.Rights.{is_ready}
use Rattle.charge_world.specs.declared.heard.PilotState.{PilotState}
use Rattle.session_words.specs.declared.phase.Standing.{Standing}
use Rattle.pilot_basic.specs.declared.words.BasicEvent.{BasicEvent}
use Rattle.pilot_basic.specs.declared.words.BasicEvent.TheVariants.{Offer, DigitalEnded}
use Rattle.pilot_basic.specs.declared.words.BasicOrder.{BasicOrder}
use Rattle.pilot_basic.specs.declared.words.BasicOrder.TheVariants as order
use Rattle.pilot_basic.specs.declared.words.Mode.{Mode}
use Rattle.pilot_basic.specs.declared.words.Mode.TheVariants as mode
use Rattle.pilot_basic.specs.Duty.{offered, IsDuty, OffersUpTo}
use Rattle.pilot_basic.specs.Machine.{Step, IsInRange, IsRun, LeadsTo, calls_of, follows, is_free, is_opened, live_at, mode_at, mode_of, now_of, pilot_of, standing_at, with_step}
use Rattle.file_commands.specs.declared.lines.ScriptLine.{ScriptLine}
use Rattle.file_commands.specs.Scripts.{line_at, lines_of, IsLine, AreLines}
use Rattle.file_commands.specs.Charging.{IsCharged, OffersNoMore}

-- ---- the laws of the machine

abbrev pub Closes : Type 0
Closes = (past : List Step) → IsRun past → last_order (acts_of (calls_of past)) ≡ Some (Close, true) → (mode_of past ≡ mode.Basic) × IsTrue (is_ready (pilot_of past))

abbrev pub OffersLess : Type 0
OffersLess = (amps d : ℕ) → 60 ≤ amps → amps ≤ 800 → IsDuty amps d → OffersUpTo amps (offered d)

abbrev pub Pauses : Type 0
Pauses = (past later : List Step) (ended next : Step) → IsRun (next ∷ (later ++ ended ∷ past)) → ended.event ≡ DigitalEnded → mode_of past ≡ mode.Digital → next.orders ≢ []
    → now_of (ended ∷ past) + 3000 ≤ now_of (next ∷ (later ++ ended ∷ past))

-- ---- a run's earlier part

run_before : (later before : List Step) → IsRun (later ++ before) → IsRun before
run_before [] before h = h
run_before (step ∷ later) before h = run_before later before h.0

last_line : (lines : List ScriptLine) (line : ScriptLine) → AreLines (lines ++ line ∷ []) → AreLines lines × IsLine line
last_line [] line h = (tt, h.0)
last_line (l ∷ lines) line h = let rest = last_line lines line h.1 in ((h.0, rest.0), rest.1)

lines_before : (later before : List Step) → AreLines (lines_of (later ++ before)) → AreLines (lines_of before)
lines_before [] before h = h
lines_before (step ∷ later) before h = lines_before later before (last_line (lines_of (later ++ before)) (line_at step) h).0

-- ---- offers

all_more : (amps : ℕ) (a b : List BasicOrder) → AllByRecursion (OffersNoMore amps) a → AllByRecursion (OffersNoMore amps) b → AllByRecursion (OffersNoMore amps) (a ++ b)
all_more amps [] b x y = y
all_more amps (o ∷ a) b x y = (x.0, all_more amps a b x.1 y)

closing : (amps : ℕ) (opened : Bool) → AllByRecursion (OffersNoMore amps) (cond opened (order.Close ∷ []) [])
closing amps true = (tt, tt)
closing amps false = tt

basic_follows : (amps : ℕ) (ready live opened : Bool)
    → AllByRecursion (OffersNoMore amps) (cond ready (cond opened (order.Close ∷ []) []) (cond live (order.Open ∷ []) []))
basic_follows amps true live opened = closing amps opened
basic_follows amps false true opened = (tt, tt)
basic_follows amps false false opened = tt

no_duty_follows : (amps : ℕ) (m : Mode) (state : PilotState) (live : Bool) (standing : Standing) → AllByRecursion (OffersNoMore amps) (follows m state live standing)
no_duty_follows amps mode.Basic state live standing = basic_follows amps (is_ready state) live (is_opened standing)
no_duty_follows amps mode.Off state live standing = tt
no_duty_follows amps mode.Digital state live standing = tt
no_duty_follows amps (mode.Pause since) state live standing = tt

offered_acts : OffersLess → (amps : ℕ) → 60 ≤ amps → amps ≤ 800 → (free : Bool) (acted : List BasicOrder)
    → MatchBool free ((d : ℕ) × IsDuty amps d × (acted ≡ order.Duty d ∷ [])) (acted ≡ []) → AllByRecursion (OffersNoMore amps) acted
offered_acts law amps least most true acted h = subst (AllByRecursion (OffersNoMore amps)) (sym h.2) (law amps h.0 least most h.1, tt)
offered_acts law amps least most false acted h = subst (AllByRecursion (OffersNoMore amps)) (sym h) tt

offer_leads : OffersLess → (amps : ℕ) → IsInRange (Offer amps) → (before : List Step) (at : ℕ) (orders : List BasicOrder) → LeadsTo before at (Offer amps) orders → AllByRecursion (OffersNoMore amps) orders
offer_leads law amps range before at orders leads =
    let free = is_free (mode_at (mode_of before) (now_of (with_step before at (Offer amps) []))) in
    let past = with_step before at (Offer amps) leads.acted in
    let behind = follows (mode_of past) (pilot_of past) (live_at past) (standing_at past) in
    subst (AllByRecursion (OffersNoMore amps)) (sym leads.whole)
    (all_more amps leads.acted behind (offered_acts law amps range.0 range.1 free leads.acted leads.acts) (no_duty_follows amps (mode_of past) (pilot_of past) (live_at past) (standing_at past)))

offer_step : OffersLess → (step : Step) (before : List Step) (amps : ℕ) → IsRun (step ∷ before) → IsInRange step.event → step.event ≡ Offer amps → AllByRecursion (OffersNoMore amps) step.orders
offer_step law step before amps run range is =
    offer_leads law amps (subst IsInRange is range) before step.at step.orders (subst (λ (event : BasicEvent). LeadsTo before step.at event step.orders) is run.1)

-- ---- each run

pub is_charged : Closes → OffersLess → Pauses → (past : List Step) → IsRun past → AreLines (lines_of past) → IsCharged past
is_charged closes offers pauses past run lines = record {
  closes = λ later before is. closes before (run_before later before (subst IsRun is run));
  offers = λ later before step amps is.
      let own = run_before later (step ∷ before) (subst IsRun is run) in
      let read = lines_before later (step ∷ before) (subst (λ (p : List Step). AreLines (lines_of p)) is lines) in
      offer_step offers step before amps own (last_line (lines_of before) (line_at step) read).1.1;
  pauses = λ later between before next ended is.
      pauses before between ended next (run_before later (next ∷ (between ++ ended ∷ before)) (subst IsRun is run));
}
