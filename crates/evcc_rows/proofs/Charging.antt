-- What a charging reply leads to.
use Rattle.std.proofs.Common.{◌≡◌, ◌≤◌, ℕ, ◌+◌, nat_le, Bool, true, false, ◌||◌, if◌then◌else◌, None, refl, sym, ap, ◌∙◌, arith}
use Rattle.std.proofs.lemmas.Bool.{leb-false}
use Rattle.charge_world.specs.declared.offer.Dialect.{Dialect}
use Rattle.session_words.specs.declared.plan.CarPlan.{CarPlan}
use Rattle.session_words.specs.declared.word.Reply.{Reply}
use Rattle.session_words.specs.declared.word.Tell.{Tell}
use Rattle.session_words.specs.Plans.{IsCarPlan}
use Rattle.car_rules.specs.declared.stage.CarPhase.{CarPhase}
use Rattle.car_rules.specs.declared.stage.CarPhase.TheVariants as phase
use Rattle.car_rules.specs.declared.stage.CarStage.{CarStage}
use Rattle.car_rules.specs.Moves.{asks_stop, notify_in, stops, renews, charging_leads, leads, cycles_behind, stage_behind}
use Rattle.evcc_rows.specs.Carrying.{carried_stage}
use Rattle.evcc_rows.specs.Leading.{IsOnward}
use Rattle.evcc_rows.specs.declared.carried.Carried.{Carried}
use Rattle.evcc_rows.specs.declared.row.Row.TheVariants as row

-- one that doesn't stop charging leaves fewer replies than planned
few_by : (plan : CarPlan) (n : ℕ) (d : Dialect) (t : Tell) (stop b : Bool) → nat_le plan.cycles (n + 1) ≡ b → plan.cycles ≤ 10000
    → (charging_leads d t (b || stop || asks_stop (notify_in t)) ≡ phase.Stopping → ⊥) → n + 1 ≤ 9999
few_by plan n d t stop true e p h = absurd (h refl)
few_by plan n d t stop false e p h = omega (arith, p, leb-false plan.cycles (n + 1) e)

few_in : (plan : CarPlan) (s : CarStage) (p : CarPhase) (r : Reply) (stop : Bool) → plan.cycles ≤ 10000 → p ≡ leads plan s.dialect phase.Charging r.tell (stops plan s.cycles stop r.tell)
    → (p ≡ phase.Stopping → ⊥) → s.cycles + 1 ≤ 9999
few_in plan s p r stop h e n = few_by plan s.cycles s.dialect r.tell stop (nat_le plan.cycles (s.cycles + 1)) refl h (λ k. n (e ∙ k))

pub few_on : (plan : CarPlan) (s st : CarStage) (r : Reply) (stop : Bool) → IsCarPlan plan → s.phase ≡ phase.Charging → st ≡ stage_behind plan s r stop
    → (st.phase ≡ phase.Stopping → ⊥) → st.cycles ≤ 9999
few_on plan s st r stop p e b n =
    let phase_is = ap (λ (x : CarStage). x.phase) b ∙ ap (λ (x : CarPhase). leads plan s.dialect x r.tell (stops plan s.cycles stop r.tell)) e in
    let cycles_is : st.cycles ≡ s.cycles + 1 = ap (λ (x : CarStage). x.cycles) b ∙ ap (λ (x : CarPhase). cycles_behind x s.cycles) e in
    omega (arith, cycles_is, few_in plan s st.phase r stop p.cycles.1 phase_is n)

-- and where the post doesn't ask to negotiate anew either, charging goes on
charging_by : (stopping renewing : Bool) (p : CarPhase) → p ≡ (if stopping then phase.Stopping else (if renewing then phase.Renegotiating else phase.Charging))
    → (p ≡ phase.Stopping → ⊥) → (p ≡ phase.Renegotiating → ⊥) → p ≡ phase.Charging
charging_by true renewing p e s r = absurd (s e)
charging_by false true p e s r = absurd (r e)
charging_by false false p e s r = e

pub charges_on : (plan : CarPlan) (kept to : Carried) (from st : CarStage) (r : Reply) (stop : Bool) → from ≡ carried_stage phase.Charging kept
    → st ≡ stage_behind plan from r stop → (st.phase ≡ phase.Stopping → ⊥) → (st.phase ≡ phase.Renegotiating → ⊥) → carried_stage st.phase to ≡ st
    → IsOnward plan (carried_stage phase.Charging kept) r stop (row.Charging (record { carried = to })) true None
charges_on plan kept to from st r stop e b ns nr t =
    let behind : st ≡ stage_behind plan (carried_stage phase.Charging kept) r stop = b ∙ ap (λ (x : CarStage). stage_behind plan x r stop) e in
    let charging = charging_by (stops plan kept.cycles stop r.tell) (renews kept.dialect r.tell) st.phase (ap (λ (x : CarStage). x.phase) behind) ns nr in
    record {
      stage = ap (λ (x : CarPhase). carried_stage x to) (sym charging) ∙ (t ∙ behind);
      waits = refl;
      orders = refl;
    }
