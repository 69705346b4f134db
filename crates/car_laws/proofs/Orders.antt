-- The order of an accepted reply: an order to close stands behind the words that mandate it.
use Rattle.std.proofs.Common.{◌≡◌, ℕ, Bool, true, false, List, ◌∷◌, refl, ◌∙◌}
use Rattle.charge_world.specs.declared.offer.Dialect.{Dialect}
use Rattle.session_words.specs.declared.plan.CarPlan.{CarPlan}
use Rattle.session_words.specs.declared.session.SessionId.{SessionId}
use Rattle.session_words.specs.declared.word.Reply.{Reply}
use Rattle.session_words.specs.declared.word.Tell.{Tell}
use Rattle.session_words.specs.declared.word.Tell.TheVariants as tell
use Rattle.session_rules.specs.Finishing.{is_ac}
use Rattle.session_rules.specs.Verdict.{is_accepted}
use Rattle.car_rules.specs.declared.stage.CarPhase.{CarPhase}
use Rattle.car_rules.specs.declared.stage.CarPhase.TheVariants as phase
use Rattle.car_rules.specs.declared.stage.CarStage.{CarStage}
use Rattle.car_rules.specs.Moves.{is_pre_charged, order_of}
use Rattle.car_rules.specs.Requests.{ask_of}
use Rattle.car_spec.specs.Answered.{Exchange, has_check, may_close}
use Rattle.car_spec.specs.Mandated.{is_near_target}
use Rattle.car_laws.proofs.Phases.{PhaseHas, OrderHas, staged, exchanged}

-- the target of the request is the car's
same_near : (plan : CarPlan) (d : Dialect) (t : Tell) → is_near_target (ask_of plan d phase.PreCharging) t ≡ is_pre_charged plan.target_voltage t
same_near plan d (tell.PreCharge status voltage) = refl
same_near plan d (tell.SessionSetup evse) = refl
same_near plan d (tell.ServiceDiscovery free modes) = refl
same_near plan d (tell.ServiceDetail service) = refl
same_near plan d tell.PaymentSelection = refl
same_near plan d (tell.Authorization processing) = refl
same_near plan d (tell.ChargeParameters processing schedule limits) = refl
same_near plan d (tell.CableCheck status processing) = refl
same_near plan d (tell.PowerDelivery status) = refl
same_near plan d (tell.CurrentDemand status voltage current cc_ vc wc mv mc mw evse) = refl
same_near plan d (tell.ChargingStatus notify evse current) = refl
same_near plan d (tell.WeldingDetection status voltage) = refl
same_near plan d tell.SessionStop = refl

pre_charge_order : (plan : CarPlan) (xs : List Exchange) (d : Dialect) (session : SessionId) (n : ℕ) (r : Reply) (b : Bool) → is_pre_charged plan.target_voltage r.tell ≡ b → is_accepted r.code ≡ true
    → is_ac plan.mode ≡ false → has_check xs ≡ true → OrderHas plan (exchanged plan (staged phase.PreCharging d session n) r ∷ xs) (order_of plan phase.PreCharging r.tell)
pre_charge_order plan xs d session n r false e a m k = rw e tt
pre_charge_order plan xs d session n r true e a m k =
    let near : is_near_target (ask_of plan d phase.PreCharging) r.tell ≡ true = same_near plan d r.tell ∙ e in
    let may : may_close plan (exchanged plan (staged phase.PreCharging d session n) r ∷ xs) ≡ true = rw (m, near, a, k) refl in rw e may

start_order : (plan : CarPlan) (xs : List Exchange) (d : Dialect) (session : SessionId) (n : ℕ) (r : Reply) (b : Bool) → is_ac plan.mode ≡ b → is_accepted r.code ≡ true
    → OrderHas plan (exchanged plan (staged phase.Starting d session n) r ∷ xs) (order_of plan phase.Starting r.tell)
start_order plan xs d session n r false e a = rw e tt
start_order plan xs d session n r true e a =
    let may : may_close plan (exchanged plan (staged phase.Starting d session n) r ∷ xs) ≡ true = rw (e, a) refl in rw e may

order_in : (plan : CarPlan) (xs : List Exchange) (d : Dialect) (session : SessionId) (n : ℕ) (r : Reply) (ph : CarPhase) → is_accepted r.code ≡ true → PhaseHas plan xs ph
    → OrderHas plan (exchanged plan (staged ph d session n) r ∷ xs) (order_of plan ph r.tell)
order_in plan xs d session n r phase.PreCharging a k = pre_charge_order plan xs d session n r _ refl a k.0 k.1
order_in plan xs d session n r phase.Starting a k = start_order plan xs d session n r _ refl a
order_in plan xs d session n r phase.SettingUp a k = tt
order_in plan xs d session n r phase.Discovering a k = tt
order_in plan xs d session n r phase.Selecting a k = tt
order_in plan xs d session n r phase.Authorizing a k = tt
order_in plan xs d session n r phase.Asking a k = tt
order_in plan xs d session n r phase.CableChecking a k = tt
order_in plan xs d session n r phase.Charging a k = tt
order_in plan xs d session n r phase.Stopping a k = tt
order_in plan xs d session n r phase.Renegotiating a k = tt
order_in plan xs d session n r (phase.Welding left) a k = tt
order_in plan xs d session n r phase.Ending a k = tt

pub order_has : (plan : CarPlan) (xs : List Exchange) (stage : CarStage) (r : Reply) → is_accepted r.code ≡ true → PhaseHas plan xs stage.phase
    → OrderHas plan (exchanged plan stage r ∷ xs) (order_of plan stage.phase r.tell)
order_has plan xs stage r a k = order_in plan xs stage.dialect stage.session stage.cycles r stage.phase a k
