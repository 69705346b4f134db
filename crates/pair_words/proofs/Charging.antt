-- The row in which the car charges.
use Rattle.std.proofs.Common.{◌≡◌, ℕ, suc, ◌+◌, ◌-◌, ◌<◌, nat_le, Bool, true, false, not, ◌&&◌, ◌||◌, if◌then◌else◌, Option, option_map, refl, sym, ap, subst, arith}
use Rattle.std.proofs.lemmas.Grind.{common_steps}
use Rattle.charge_world.specs.declared.offer.Dialect.{Dialect}
use Rattle.charge_world.specs.declared.offer.Dialect.TheVariants as dialect
use Rattle.session_words.specs.declared.amount.Amount.{Amount}
use Rattle.session_words.specs.declared.code.Code.TheVariants as code
use Rattle.session_words.specs.declared.code.Notify.{Notify}
use Rattle.session_words.specs.declared.code.Notify.TheVariants as notify
use Rattle.session_words.specs.declared.facts.Facts.{Facts}
use Rattle.session_words.specs.declared.limits.DcStatus.{DcStatus}
use Rattle.session_words.specs.declared.limits.EvseId.{EvseId}
use Rattle.session_words.specs.declared.phase.Phase.TheVariants as row
use Rattle.session_words.specs.declared.plan.CarPlan.{CarPlan}
use Rattle.session_words.specs.declared.plan.PostPlan.{PostPlan}
use Rattle.session_words.specs.declared.session.SessionId.{SessionId}
use Rattle.session_words.specs.declared.word.Ask.{Ask}
use Rattle.session_words.specs.declared.word.Ask.TheVariants as ask
use Rattle.session_words.specs.declared.word.Reply.{Reply}
use Rattle.session_words.specs.declared.word.Tell.{Tell}
use Rattle.session_words.specs.declared.word.Tell.TheVariants as tell
use Rattle.session_rules.specs.declared.stage.PreCharged.{PreCharged}
use Rattle.session_rules.specs.Finishing.{is_ac}
use Rattle.session_rules.specs.Moves.{moved}
use Rattle.session_rules.specs.Offers.{amount}
use Rattle.session_rules.specs.Reply.{tell_of}
use Rattle.session_rules.specs.Status.{is_iso, notify_of}
use Rattle.session_rules.specs.Verdict.{accepting_code}
use Rattle.post_spec.specs.Spelled.{dropped}
use Rattle.car_rules.specs.declared.stage.CarPhase.TheVariants as phase
use Rattle.car_rules.specs.declared.stage.CarStage.{CarStage}
use Rattle.car_rules.specs.Moves.{asks_renewal, renews, stops, stage_behind}
use Rattle.car_rules.specs.Replies.{answers}
use Rattle.car_spec.specs.Spelled.{dropped_ask}
use Rattle.pair_words.specs.Exchanges.{Both, Outside}
use Rattle.pair_words.specs.Meeting.{Meets}
use Rattle.pair_words.specs.Left.{left_to_stop, GoesOn, Further}
use Rattle.pair_words.proofs.Requests.{charging_ac, charging_dc}
use Rattle.pair_words.proofs.Accepted.{heard_with, IsGood, IsWell, same_id, no_cause}
use Rattle.pair_words.proofs.Rows.{at, of, pair}

-- nobody asks for a renegotiation
unless_stopped : (stop : Bool) → asks_renewal (if stop then notify.StopCharging else notify.None) ≡ false
unless_stopped true = refl
unless_stopped false = refl

no_renewal : (d : Dialect) (facts : Facts) (a : Ask) → facts.renew ≡ false → (is_iso d && asks_renewal (notify_of d facts code.Ok a)) ≡ false
no_renewal dialect.Iso facts a e = rw e (unless_stopped facts.stop)
no_renewal dialect.Din facts a e = refl

-- the car goes on to charge, or stops
leads_to : (stopping : Bool) (plan : CarPlan) (d : Dialect) (id : SessionId) (n : ℕ) (r : Reply) (stop : Bool) → stops plan n stop r.tell ≡ stopping → renews d r.tell ≡ false
    → stage_behind plan (of phase.Charging d id n) r stop ≡ of (if stopping then phase.Stopping else phase.Charging) d id (n + 1)
leads_to true plan d id n r stop e k = rw e refl
leads_to false plan d id n r stop e k = rw (e, k) refl

-- it charges on only while replies are left
first_false : (a b c : Bool) → (a || b || c) ≡ false → a ≡ false
first_false true b c e = cc
first_false false b c e = refl

more_replies : (most n : ℕ) → nat_le most n ≡ false → n < most
more_replies most n e = grind (arith, common_steps)

replies_left : (plan : CarPlan) (n : ℕ) (stop : Bool) (t : Tell) → stops plan n stop t ≡ false → n + 1 < plan.cycles
replies_left plan n stop t e = more_replies plan.cycles (n + 1) (first_false (nat_le plan.cycles (n + 1)) stop _ e)

goes_on : (stopping : Bool) (post : PostPlan) (plan : CarPlan) (x : Outside) (d : Dialect) (id : SessionId) (n : ℕ) (t : Tell) → stops plan n x.stop t ≡ stopping
    → GoesOn post plan (of phase.Charging d id n) x (of (if stopping then phase.Stopping else phase.Charging) d id (n + 1))
goes_on true post plan x d id n t e = let less : left_to_stop plan < suc (plan.cycles - suc n) + left_to_stop plan = omega arith in Further less
goes_on false post plan x d id n t e =
    let more : n + 1 < plan.cycles = replies_left plan n x.stop t e in
    let less : suc (plan.cycles - suc (n + 1)) + left_to_stop plan < suc (plan.cycles - suc n) + left_to_stop plan = omega (arith, more) in
    Further less

meets_ac : (stopping : Bool) (post : PostPlan) (d : Dialect) (id : SessionId) (told schedule : ℕ) (pre : Option PreCharged) (n : ℕ) → is_ac post.mode ≡ true
    → Meets post (pair row.AcCharging (if stopping then phase.Stopping else phase.Charging) d id told schedule pre n)
meets_ac true post d id told schedule pre n f = record { dialect = refl; in_row = rw f refl; named = refl; near = tt }
meets_ac false post d id told schedule pre n f = record { dialect = refl; in_row = rw f refl; named = refl; near = tt }

meets_dc : (stopping : Bool) (post : PostPlan) (d : Dialect) (id : SessionId) (told schedule : ℕ) (pre : Option PreCharged) (n : ℕ) → is_ac post.mode ≡ false
    → Meets post (pair row.DcCharging (if stopping then phase.Stopping else phase.Charging) d id told schedule pre n)
meets_dc true post d id told schedule pre n f = record { dialect = refl; in_row = rw f refl; named = refl; near = tt }
meets_dc false post d id told schedule pre n f = record { dialect = refl; in_row = rw f refl; named = refl; near = tt }

charged_ac : (stopping : Bool) (post : PostPlan) (plan : CarPlan) (x : Outside) (d : Dialect) (id : SessionId) (told schedule : ℕ) (pre : Option PreCharged) (n : ℕ)
    (asks : Notify) (evse : EvseId) (current : Option Amount) → is_ac post.mode ≡ true → is_ac plan.mode ≡ true → stops plan n x.stop (tell.ChargingStatus asks evse current) ≡ stopping
    → renews d (tell.ChargingStatus asks evse current) ≡ false
    → IsGood post plan (pair row.AcCharging phase.Charging d id told schedule pre n) x (at row.AcCharging d id x.shown schedule pre) code.Ok (tell.ChargingStatus asks evse current)
charged_ac stopping post plan x d id told schedule pre n asks evse current f g e k =
    let leads : stage_behind plan (of phase.Charging d id n) (heard_with post x (at row.AcCharging d id x.shown schedule pre) code.Ok (tell.ChargingStatus asks evse current)) x.stop
    ≡ of (if stopping then phase.Stopping else phase.Charging) d id (n + 1) =
    leads_to stopping plan d id n (heard_with post x (at row.AcCharging d id x.shown schedule pre) code.Ok (tell.ChargingStatus asks evse current)) x.stop e k in
    record {
      accepted = tt;
      post_ends = rw g refl;
      code = tt;
      car_ends = no_cause plan (of phase.Charging d id n) (heard_with post x (at row.AcCharging d id x.shown schedule pre) code.Ok (tell.ChargingStatus asks evse current))
          (ap (λ (a : Ask). answers a (tell.ChargingStatus asks evse current)) (charging_ac plan g)) (ap not (same_id id)) refl refl refl;
      meets = subst (λ (c : CarStage). Meets post (record { post = at row.AcCharging d id x.shown schedule pre; car = c })) (sym leads) (meets_ac stopping post d id x.shown schedule pre (n + 1) f);
      goes = λ i. subst (λ (c : CarStage). GoesOn post plan (of phase.Charging d id n) x c) (sym leads) (goes_on stopping post plan x d id n (tell.ChargingStatus asks evse current) e);
    }

charged_dc : (stopping : Bool) (post : PostPlan) (plan : CarPlan) (x : Outside) (d : Dialect) (id : SessionId) (told schedule : ℕ) (pre : Option PreCharged) (n : ℕ)
    (status : DcStatus) (voltage current : Amount) (current_cut voltage_cut watts_cut : Bool) (most_voltage most_current most_watts : Option Amount) (evse : Option EvseId)
    → is_ac post.mode ≡ false → is_ac plan.mode ≡ false
    → stops plan n x.stop (tell.CurrentDemand status voltage current current_cut voltage_cut watts_cut most_voltage most_current most_watts evse) ≡ stopping
    → renews d (tell.CurrentDemand status voltage current current_cut voltage_cut watts_cut most_voltage most_current most_watts evse) ≡ false
    → IsGood post plan (pair row.DcCharging phase.Charging d id told schedule pre n) x (at row.DcCharging d id x.shown schedule pre) code.Ok
    (tell.CurrentDemand status voltage current current_cut voltage_cut watts_cut most_voltage most_current most_watts evse)
charged_dc stopping post plan x d id told schedule pre n status voltage current current_cut voltage_cut watts_cut most_voltage most_current most_watts evse f g e k =
    let leads : stage_behind plan (of phase.Charging d id n) (heard_with post x (at row.DcCharging d id x.shown schedule pre) code.Ok
    (tell.CurrentDemand status voltage current current_cut voltage_cut watts_cut most_voltage most_current most_watts evse)) x.stop
    ≡ of (if stopping then phase.Stopping else phase.Charging) d id (n + 1) =
    leads_to stopping plan d id n (heard_with post x (at row.DcCharging d id x.shown schedule pre) code.Ok
    (tell.CurrentDemand status voltage current current_cut voltage_cut watts_cut most_voltage most_current most_watts evse)) x.stop e k in
    record {
      accepted = tt;
      post_ends = rw g refl;
      code = tt;
      car_ends = no_cause plan (of phase.Charging d id n) (heard_with post x (at row.DcCharging d id x.shown schedule pre) code.Ok
          (tell.CurrentDemand status voltage current current_cut voltage_cut watts_cut most_voltage most_current most_watts evse))
          (ap (λ (a : Ask). answers a (tell.CurrentDemand status voltage current current_cut voltage_cut watts_cut most_voltage most_current (option_map dropped most_watts) evse)) (charging_dc plan g))
          (ap not (same_id id)) refl refl refl;
      meets = subst (λ (c : CarStage). Meets post (record { post = at row.DcCharging d id x.shown schedule pre; car = c })) (sym leads) (meets_dc stopping post d id x.shown schedule pre (n + 1) f);
      goes = λ i. subst (λ (c : CarStage). GoesOn post plan (of phase.Charging d id n) x c) (sym leads)
          (goes_on stopping post plan x d id n (tell.CurrentDemand status voltage current current_cut voltage_cut watts_cut most_voltage most_current most_watts evse) e);
    }

-- an exchange whose request asks this
abbrev pub IsWellOf : PostPlan → CarPlan → Both → Outside → Ask → Type 0
IsWellOf post plan b x a = IsGood post plan b x (moved b.post x.facts post (record { session = b.car.session; ask = dropped_ask a }) x.shown)
    (accepting_code b.post x.facts b.car.session (dropped_ask a))
    (tell_of b.post x.facts post (accepting_code b.post x.facts b.car.session (dropped_ask a)) x.shown (dropped_ask a))

pub charges_ac : (post : PostPlan) (plan : CarPlan) (x : Outside) (d : Dialect) (id : SessionId) (told schedule : ℕ) (pre : Option PreCharged) (n : ℕ) → is_ac post.mode ≡ true → is_ac plan.mode ≡ true
    → x.facts.renew ≡ false → IsWell post plan (pair row.AcCharging phase.Charging d id told schedule pre n) x
charges_ac post plan x d id told schedule pre n f g renew =
    subst (λ (a : Ask). IsWellOf post plan (pair row.AcCharging phase.Charging d id told schedule pre n) x a) (sym (charging_ac plan g))
    (charged_ac _ post plan x d id told schedule pre n _ _ _ f g refl (no_renewal d x.facts ask.ChargingStatus renew))

pub charges_dc : (post : PostPlan) (plan : CarPlan) (x : Outside) (d : Dialect) (id : SessionId) (told schedule : ℕ) (pre : Option PreCharged) (n : ℕ) → is_ac post.mode ≡ false → is_ac plan.mode ≡ false
    → x.facts.renew ≡ false → IsWell post plan (pair row.DcCharging phase.Charging d id told schedule pre n) x
charges_dc post plan x d id told schedule pre n f g renew =
    subst (λ (a : Ask). IsWellOf post plan (pair row.DcCharging phase.Charging d id told schedule pre n) x a) (sym (charging_dc plan g))
    (charged_dc _ post plan x d id told schedule pre n _ _ _ _ _ _ _ _ _ _ f g refl
    (no_renewal d x.facts (ask.CurrentDemand true plan.soc (amount plan.target_voltage) (amount plan.target_current)) renew))
