-- What a phase has behind it, and what its order to close stands behind.
use Rattle.std.proofs.Common.{◌≡◌, ℕ, ◌==◌, Bool, true, false, List, ◌∷◌, Option, Some, None, refl, sym, ◌∙◌}
use Rattle.charge_world.specs.declared.offer.Dialect.{Dialect}
use Rattle.charge_world.specs.declared.ports.Order.{Order}
use Rattle.charge_world.specs.declared.ports.Order.TheVariants as order
use Rattle.session_words.specs.declared.cause.EndCause.TheVariants.{WrongReply, CodeFailed}
use Rattle.session_words.specs.declared.plan.CarPlan.{CarPlan}
use Rattle.session_words.specs.declared.session.SessionId.{SessionId}
use Rattle.session_words.specs.declared.word.Reply.{Reply}
use Rattle.session_words.specs.declared.word.Tell.{Tell}
use Rattle.session_rules.specs.Finishing.{is_ac}
use Rattle.session_rules.specs.Verdict.{is_accepted}
use Rattle.post_spec.specs.Kinds.{says_finished}
use Rattle.car_rules.specs.declared.stage.CarPhase.{CarPhase}
use Rattle.car_rules.specs.declared.stage.CarPhase.TheVariants as phase
use Rattle.car_rules.specs.declared.stage.CarStage.{CarStage}
use Rattle.car_rules.specs.Moves.{is_pre_charged, renews, welding_phase, first_power_phase, charging_leads, phase_behind_stop, until_done, leads}
use Rattle.car_rules.specs.Replies.{is_wrong, reply_cause}
use Rattle.car_rules.specs.Requests.{request_of}
use Rattle.car_spec.specs.Answered.{Exchange, has_check, may_close}

abbrev pub PhaseHas : CarPlan → List Exchange → CarPhase → Type 0
PhaseHas plan xs phase.CableChecking = is_ac plan.mode ≡ false
PhaseHas plan xs phase.PreCharging = (is_ac plan.mode ≡ false) × (has_check xs ≡ true)
PhaseHas plan xs phase.SettingUp = Unit {0}
PhaseHas plan xs phase.Discovering = Unit {0}
PhaseHas plan xs phase.Selecting = Unit {0}
PhaseHas plan xs phase.Authorizing = Unit {0}
PhaseHas plan xs phase.Asking = Unit {0}
PhaseHas plan xs phase.Starting = Unit {0}
PhaseHas plan xs phase.Charging = Unit {0}
PhaseHas plan xs phase.Stopping = Unit {0}
PhaseHas plan xs phase.Renegotiating = Unit {0}
PhaseHas plan xs (phase.Welding left) = Unit {0}
PhaseHas plan xs phase.Ending = Unit {0}

-- an order to close stands behind the words that mandate it
abbrev pub OrderHas : CarPlan → List Exchange → Option Order → Type 0
OrderHas plan xs None = Unit {0}
OrderHas plan xs (Some order.Open) = Unit {0}
OrderHas plan xs (Some order.Close) = may_close plan xs ≡ true
OrderHas plan xs (Some (order.Limits voltage current watts)) = Unit {0}

abbrev pub staged : CarPhase → Dialect → SessionId → ℕ → CarStage
staged ph d session n = record { phase = ph; dialect = d; session = session; cycles = n }

-- the request of a stage, with this reply
abbrev pub exchanged : CarPlan → CarStage → Reply → Exchange
exchanged plan stage r = record { request = request_of plan stage; reply = r }

-- a reply that changes no phase
more_in : (plan : CarPlan) (xs : List Exchange) (d : Dialect) (session : SessionId) (n : ℕ) (r : Reply) (ph : CarPhase) → PhaseHas plan xs ph → PhaseHas plan (exchanged plan (staged ph d session n) r ∷ xs) ph
more_in plan xs d session n r phase.CableChecking k = k
more_in plan xs d session n r phase.PreCharging k = k
more_in plan xs d session n r phase.SettingUp k = tt
more_in plan xs d session n r phase.Discovering k = tt
more_in plan xs d session n r phase.Selecting k = tt
more_in plan xs d session n r phase.Authorizing k = tt
more_in plan xs d session n r phase.Asking k = tt
more_in plan xs d session n r phase.Starting k = tt
more_in plan xs d session n r phase.Charging k = tt
more_in plan xs d session n r phase.Stopping k = tt
more_in plan xs d session n r phase.Renegotiating k = tt
more_in plan xs d session n r (phase.Welding left) k = tt
more_in plan xs d session n r phase.Ending k = tt

pub more : (plan : CarPlan) (xs : List Exchange) (stage : CarStage) (r : Reply) → PhaseHas plan xs stage.phase → PhaseHas plan (exchanged plan stage r ∷ xs) stage.phase
more plan xs stage r k = more_in plan xs stage.dialect stage.session stage.cycles r stage.phase k

-- a reply that is no cause is accepted
accepted_by : (plan : CarPlan) (stage : CarStage) (r : Reply) (w a : Bool) → is_wrong plan stage true r ≡ w → is_accepted r.code ≡ a → reply_cause plan stage true r ≡ None → a ≡ true
accepted_by plan stage r true a ew ea h = let x : reply_cause plan stage true r ≡ Some WrongReply = rw ew refl in let y : Some WrongReply ≡ None = sym x ∙ h in cc
accepted_by plan stage r false false ew ea h = let x : reply_cause plan stage true r ≡ Some CodeFailed = rw (ew, ea) refl in let y : Some CodeFailed ≡ None = sym x ∙ h in cc
accepted_by plan stage r false true ew ea h = refl

pub accepted : (plan : CarPlan) (stage : CarStage) (r : Reply) → reply_cause plan stage true r ≡ None → is_accepted r.code ≡ true
accepted plan stage r h = accepted_by plan stage r _ _ refl refl h

-- where an accepted reply leads
charging_has : (plan : CarPlan) (xs : List Exchange) (d : Dialect) (t : Tell) (stopping b : Bool) → renews d t ≡ b → PhaseHas plan xs (charging_leads d t stopping)
charging_has plan xs d t true b e = tt
charging_has plan xs d t false true e = rw e tt
charging_has plan xs d t false false e = rw e tt

welding_has : (plan : CarPlan) (xs : List Exchange) (n : ℕ) (b : Bool) → (n == 0) ≡ b → PhaseHas plan xs (welding_phase n)
welding_has plan xs n true e = rw e tt
welding_has plan xs n false e = rw e tt

stop_has : (plan : CarPlan) (xs : List Exchange) (b : Bool) → is_ac plan.mode ≡ b → PhaseHas plan xs (phase_behind_stop plan)
stop_has plan xs true e = rw e tt
stop_has plan xs false e = rw e (welding_has plan xs plan.welding _ refl)

asking_has : (plan : CarPlan) (xs : List Exchange) (done b : Bool) → is_ac plan.mode ≡ b → PhaseHas plan xs (until_done done (first_power_phase plan.mode) phase.Asking)
asking_has plan xs false b e = tt
asking_has plan xs true true e = rw e tt
asking_has plan xs true false e = rw e e

authorizing_has : (plan : CarPlan) (xs : List Exchange) (done : Bool) → PhaseHas plan xs (until_done done phase.Asking phase.Authorizing)
authorizing_has plan xs true = tt
authorizing_has plan xs false = tt

checking_has : (plan : CarPlan) (xs : List Exchange) (stage : CarStage) (r : Reply) (done : Bool) → stage.phase ≡ phase.CableChecking → says_finished r.tell ≡ done → is_accepted r.code ≡ true → is_ac plan.mode ≡ false
    → PhaseHas plan (exchanged plan stage r ∷ xs) (until_done done phase.PreCharging phase.CableChecking)
checking_has plan xs stage r false p e a k = k
checking_has plan xs stage r true p e a k = (k, rw (p, e, a) refl)

charging_until : (plan : CarPlan) (xs : List Exchange) (done : Bool) → PhaseHas plan xs phase.PreCharging → PhaseHas plan xs (until_done done phase.Starting phase.PreCharging)
charging_until plan xs true k = tt
charging_until plan xs false k = k

leads_in : (plan : CarPlan) (xs : List Exchange) (d : Dialect) (session : SessionId) (n : ℕ) (r : Reply) (stopping : Bool) (ph : CarPhase) → is_accepted r.code ≡ true → PhaseHas plan xs ph
    → PhaseHas plan (exchanged plan (staged ph d session n) r ∷ xs) (leads plan d ph r.tell stopping)
leads_in plan xs d session n r stopping phase.SettingUp a k = tt
leads_in plan xs d session n r stopping phase.Discovering a k = tt
leads_in plan xs d session n r stopping phase.Selecting a k = tt
leads_in plan xs d session n r stopping phase.Authorizing a k = authorizing_has plan (exchanged plan (staged phase.Authorizing d session n) r ∷ xs) (says_finished r.tell)
leads_in plan xs d session n r stopping phase.Asking a k = asking_has plan (exchanged plan (staged phase.Asking d session n) r ∷ xs) (says_finished r.tell) _ refl
leads_in plan xs d session n r stopping phase.CableChecking a k = checking_has plan xs (staged phase.CableChecking d session n) r _ refl refl a k
leads_in plan xs d session n r stopping phase.PreCharging a k =
    charging_until plan (exchanged plan (staged phase.PreCharging d session n) r ∷ xs) (is_pre_charged plan.target_voltage r.tell) (more_in plan xs d session n r phase.PreCharging k)
leads_in plan xs d session n r stopping phase.Starting a k = tt
leads_in plan xs d session n r stopping phase.Charging a k = charging_has plan (exchanged plan (staged phase.Charging d session n) r ∷ xs) d r.tell stopping _ refl
leads_in plan xs d session n r stopping phase.Stopping a k = stop_has plan (exchanged plan (staged phase.Stopping d session n) r ∷ xs) _ refl
leads_in plan xs d session n r stopping phase.Renegotiating a k = tt
leads_in plan xs d session n r stopping (phase.Welding left) a k = welding_has plan (exchanged plan (staged (phase.Welding left) d session n) r ∷ xs) left _ refl
leads_in plan xs d session n r stopping phase.Ending a k = tt

pub leads_has : (plan : CarPlan) (xs : List Exchange) (stage : CarStage) (r : Reply) (stopping : Bool) → is_accepted r.code ≡ true → PhaseHas plan xs stage.phase
    → PhaseHas plan (exchanged plan stage r ∷ xs) (leads plan stage.dialect stage.phase r.tell stopping)
leads_has plan xs stage r stopping a k = leads_in plan xs stage.dialect stage.session stage.cycles r stopping stage.phase a k
