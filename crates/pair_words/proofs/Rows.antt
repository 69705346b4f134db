-- Each row of the post with the request that the car asks there.
use Rattle.std.proofs.Common.{◌≡◌, ℕ, suc, ◌+◌, ◌<◌, ◌≤◌, ◌==◌, nat_lt, nat_le, Bool, true, false, not, ◌||◌, if◌then◌else◌, [], ◌∷◌, Option, Some, None, refl, sym, ap, subst, ◌∙◌, inl, inr, arith}
use Rattle.std.proofs.lemmas.Grind.{common_steps}
use Rattle.charge_world.specs.declared.offer.Dialect.{Dialect}
use Rattle.charge_world.specs.declared.offer.Dialect.TheVariants as dialect
use Rattle.session_words.specs.declared.cause.EndCause.TheVariants as cause
use Rattle.session_words.specs.declared.code.Code.TheVariants as code
use Rattle.session_words.specs.declared.mode.Mode.{Mode}
use Rattle.session_words.specs.declared.mode.Mode.TheVariants as mode
use Rattle.session_words.specs.declared.phase.Phase.{Phase}
use Rattle.session_words.specs.declared.phase.Phase.TheVariants as row
use Rattle.session_words.specs.declared.plan.CarPlan.{CarPlan}
use Rattle.session_words.specs.declared.plan.PostPlan.{PostPlan}
use Rattle.session_words.specs.declared.session.SessionId.{SessionId}
use Rattle.session_words.specs.declared.word.Ask.TheVariants as ask
use Rattle.session_words.specs.declared.code.Progress.TheVariants as progress
use Rattle.session_rules.specs.Status.{dc_status, post_status}
use Rattle.car_rules.specs.Moves.{welding_phase, phase_behind_stop}
use Rattle.car_rules.specs.Requests.{tuple_of, pauses}
use Rattle.session_words.specs.declared.word.Tell.TheVariants as tell
use Rattle.arrayvec.specs.ArrayVec.{ArrayVec}
use Rattle.session_words.specs.declared.limits.PostLimits.{PostLimits}
use Rattle.session_words.specs.declared.limits.Tuple.{Tuple}
use Rattle.session_words.specs.declared.limits.DcStatus.{DcStatus}
use Rattle.session_words.specs.declared.code.Processing.TheVariants as processing
use Rattle.session_rules.specs.Reply.{processing_of, awaiting}
use Rattle.session_rules.specs.Offers.{evse_of, amount}
use Rattle.session_words.specs.Codes.{IsOkClass}
use Rattle.session_words.specs.Modes.{offered_of}
use Rattle.session_rules.specs.declared.stage.PreCharged.{PreCharged}
use Rattle.session_rules.specs.declared.stage.Stage.{Stage}
use Rattle.session_rules.specs.Delivery.{off_of}
use Rattle.session_rules.specs.Finishing.{is_ac, is_valid}
use Rattle.session_rules.specs.Verdict.{joins, setup_code, is_accepted}
use Rattle.car_rules.specs.declared.stage.CarPhase.{CarPhase}
use Rattle.car_rules.specs.declared.stage.CarPhase.TheVariants as phase
use Rattle.car_rules.specs.declared.stage.CarStage.{CarStage}
use Rattle.car_rules.specs.Replies.{lacks_mode}
use Rattle.pair_words.specs.Exchanges.{Both, Outside}
use Rattle.pair_words.specs.Meeting.{Meets}
use Rattle.pair_words.specs.Left.{left_in, left_to_charge, left_to_start, left_to_power, left_to_stop, GoesOn, Again, Further}
use Rattle.pair_words.proofs.Accepted.{heard_with, IsGood, IsWell, same_id, no_cause, stop_is_cause}

abbrev pub at : Phase → Dialect → SessionId → ℕ → ℕ → Option PreCharged → Stage
at r d id told schedule pre = record { row = r; dialect = d; session = id; told = told; schedule = schedule; pre_charge = pre }

abbrev pub of : CarPhase → Dialect → SessionId → ℕ → CarStage
of ph d id n = record { phase = ph; dialect = d; session = id; cycles = n }

-- both ends with one dialect and one identifier
abbrev pub pair : Phase → CarPhase → Dialect → SessionId → ℕ → ℕ → Option PreCharged → ℕ → Both
pair r ph d id told schedule pre n = record { post = at r d id told schedule pre; car = of ph d id n }

fewer : (a k : ℕ) → a + k < a + (k + 1)
fewer a k = omega arith

-- ---- the setup

setup_ok : (joining : Bool) → IsOkClass (setup_code joining)
setup_ok true = tt
setup_ok false = tt

setup_accepted : (joining : Bool) → is_accepted (setup_code joining) ≡ true
setup_accepted true = refl
setup_accepted false = refl

pub setting_up : (post : PostPlan) (plan : CarPlan) (x : Outside) (d : Dialect) (id own : SessionId) (told schedule : ℕ) (pre : Option PreCharged) (n : ℕ)
    → IsWell post plan (record { post = at row.Negotiated d id told schedule pre; car = of phase.SettingUp d own n }) x
setting_up post plan x d id own told schedule pre n =
    let ok : is_accepted (setup_code (joins d x.facts own)) ≡ true = setup_accepted (joins d x.facts own) in
    record {
      accepted = setup_ok (joins d x.facts own);
      post_ends = rw ok refl;
      code = setup_ok (joins d x.facts own);
      car_ends = no_cause plan (of phase.SettingUp d own n)
          (heard_with post x (at row.SetUp d (if joins d x.facts own then own else id) told schedule pre) (setup_code (joins d x.facts own)) (tell.SessionSetup (evse_of d post)))
          refl refl ok refl refl;
      meets = record { dialect = refl; in_row = refl; named = refl; near = tt };
      goes = λ i. Further (fewer (left_to_power plan n) 4);
    }

same_mode : (own : Mode) (free : Bool) → lacks_mode own (tell.ServiceDiscovery free (record { items = offered_of own ∷ [] })) ≡ false
same_mode mode.AcSinglePhaseCore free = refl
same_mode mode.AcThreePhaseCore free = refl
same_mode mode.DcCore free = refl
same_mode mode.DcExtended free = refl
same_mode mode.DcComboCore free = refl
same_mode mode.DcUnique free = refl

has_mode : (own given : Mode) (free : Bool) → given ≡ own → lacks_mode own (tell.ServiceDiscovery free (record { items = offered_of given ∷ [] })) ≡ false
has_mode own given free e = subst (λ (m : Mode). lacks_mode own (tell.ServiceDiscovery free (record { items = offered_of m ∷ [] })) ≡ false) (sym e) (same_mode own free)

pub discovering : (post : PostPlan) (plan : CarPlan) (x : Outside) (d : Dialect) (id : SessionId) (told schedule : ℕ) (pre : Option PreCharged) (n : ℕ) → post.mode ≡ plan.mode
    → IsWell post plan (pair row.SetUp phase.Discovering d id told schedule pre n) x
discovering post plan x d id told schedule pre n e = record {
  accepted = tt;
  post_ends = refl;
  code = tt;
  car_ends = no_cause plan (of phase.Discovering d id n)
      (heard_with post x (at row.Discovered d id told schedule pre) code.Ok (tell.ServiceDiscovery post.free (record { items = offered_of post.mode ∷ [] })))
      refl (ap not (same_id id)) refl (has_mode plan.mode post.mode post.free e) refl;
  meets = record { dialect = refl; in_row = refl; named = refl; near = tt };
  goes = λ i. Further (fewer (left_to_power plan n) 3);
}

pub selecting : (post : PostPlan) (plan : CarPlan) (x : Outside) (d : Dialect) (id : SessionId) (told schedule : ℕ) (pre : Option PreCharged) (n : ℕ)
    → IsWell post plan (pair row.Discovered phase.Selecting d id told schedule pre n) x
selecting post plan x d id told schedule pre n = record {
  accepted = tt;
  post_ends = refl;
  code = tt;
  car_ends = no_cause plan (of phase.Selecting d id n) (heard_with post x (at row.Selected d id told schedule pre) code.Ok tell.PaymentSelection) refl (ap not (same_id id)) refl refl refl;
  meets = record { dialect = refl; in_row = refl; named = refl; near = tt };
  goes = λ i. Further (fewer (left_to_power plan n) 2);
}

-- nobody paid
unpaid : (free paid joined : Bool) → (free || paid || joined) ≡ false → (free ≡ false) × (paid ≡ false)
unpaid true paid joined e = cc
unpaid false true joined e = cc
unpaid false false joined e = (refl, refl)

authorized_by : (finished : Bool) (post : PostPlan) (plan : CarPlan) (x : Outside) (d : Dialect) (id : SessionId) (told schedule : ℕ) (pre : Option PreCharged) (n : ℕ)
    → (finished ≡ false → (post.free ≡ false) × (x.facts.paid ≡ false))
    → IsGood post plan (pair row.Selected phase.Authorizing d id told schedule pre n) x (at (if finished then row.Authorized else row.Selected) d id told schedule pre) code.Ok
    (tell.Authorization (processing_of (awaiting d) true finished))
authorized_by true post plan x d id told schedule pre n u = record {
  accepted = tt;
  post_ends = refl;
  code = tt;
  car_ends = no_cause plan (of phase.Authorizing d id n) (heard_with post x (at row.Authorized d id told schedule pre) code.Ok (tell.Authorization processing.Finished))
      refl (ap not (same_id id)) refl refl refl;
  meets = record { dialect = refl; in_row = refl; named = refl; near = tt };
  goes = λ i. Further (fewer (left_to_power plan n) 1);
}
authorized_by false post plan x dialect.Iso id told schedule pre n u = record {
  accepted = tt;
  post_ends = refl;
  code = tt;
  car_ends = no_cause plan (of phase.Authorizing dialect.Iso id n)
      (heard_with post x (at row.Selected dialect.Iso id told schedule pre) code.Ok (tell.Authorization processing.OngoingWaitingForCustomerInteraction)) refl (ap not (same_id id)) refl refl refl;
  meets = record { dialect = refl; in_row = refl; named = refl; near = tt };
  goes = λ i. Again refl (u refl);
}
authorized_by false post plan x dialect.Din id told schedule pre n u = record {
  accepted = tt;
  post_ends = refl;
  code = tt;
  car_ends = no_cause plan (of phase.Authorizing dialect.Din id n)
      (heard_with post x (at row.Selected dialect.Din id told schedule pre) code.Ok (tell.Authorization processing.Ongoing)) refl (ap not (same_id id)) refl refl refl;
  meets = record { dialect = refl; in_row = refl; named = refl; near = tt };
  goes = λ i. Again refl (u refl);
}

pub authorizing : (post : PostPlan) (plan : CarPlan) (x : Outside) (d : Dialect) (id : SessionId) (told schedule : ℕ) (pre : Option PreCharged) (n : ℕ)
    → IsWell post plan (pair row.Selected phase.Authorizing d id told schedule pre n) x
authorizing post plan x d id told schedule pre n =
    authorized_by (post.free || x.facts.paid || x.facts.joined) post plan x d id told schedule pre n (λ e. unpaid post.free x.facts.paid x.facts.joined e)

-- ---- the parameters

power_ac : (plan : CarPlan) (n : ℕ) → is_ac plan.mode ≡ true → left_to_power plan n ≡ left_to_start plan n
power_ac plan n e = rw e refl

power_dc : (plan : CarPlan) (n : ℕ) → is_ac plan.mode ≡ false → left_to_power plan n ≡ left_to_start plan n + 2
power_dc plan n e = rw e refl

no_watts : (shown : ℕ) → nat_lt 0 shown ≡ false → shown ≡ 0
no_watts shown e = grind (arith, common_steps)

asked_by : (finished ac : Bool) (post : PostPlan) (plan : CarPlan) (x : Outside) (d : Dialect) (id : SessionId) (told schedule : ℕ) (pre : Option PreCharged) (n watts scheduled : ℕ)
    (tuples : Option (ArrayVec Tuple)) (most : PostLimits) → is_ac post.mode ≡ ac → is_ac plan.mode ≡ ac → (finished ≡ false → x.shown ≡ 0)
    → IsGood post plan (pair row.Authorized phase.Asking d id told schedule pre n) x
    (at (if finished then (if ac then row.AcReady else row.DcReady) else row.Authorized) d id watts scheduled pre) code.Ok
    (tell.ChargeParameters (processing_of processing.Ongoing true finished) tuples most)
asked_by true true post plan x d id told schedule pre n watts scheduled tuples most f g u = record {
  accepted = tt;
  post_ends = refl;
  code = tt;
  car_ends = no_cause plan (of phase.Asking d id n)
      (heard_with post x (at row.AcReady d id watts scheduled pre) code.Ok (tell.ChargeParameters processing.Finished tuples most)) refl (ap not (same_id id)) refl refl refl;
  meets = record { dialect = refl; in_row = rw (f, g) refl; named = rw g refl; near = rw (f, g) tt };
  goes = λ i. let less : left_to_start plan n < left_to_power plan n + 1 = let p = power_ac plan n g in omega (arith, p) in rw g (Further less);
}
asked_by true false post plan x d id told schedule pre n watts scheduled tuples most f g u = record {
  accepted = tt;
  post_ends = refl;
  code = tt;
  car_ends = no_cause plan (of phase.Asking d id n)
      (heard_with post x (at row.DcReady d id watts scheduled pre) code.Ok (tell.ChargeParameters processing.Finished tuples most)) refl (ap not (same_id id)) refl refl refl;
  meets = record { dialect = refl; in_row = rw (f, g) (refl, refl); named = rw g refl; near = rw g tt };
  goes = λ i. let less : left_to_start plan n + 2 < left_to_power plan n + 1 = let p = power_dc plan n g in omega (arith, p) in rw g (Further less);
}
asked_by false ac post plan x d id told schedule pre n watts scheduled tuples most f g u = record {
  accepted = tt;
  post_ends = refl;
  code = tt;
  car_ends = no_cause plan (of phase.Asking d id n)
      (heard_with post x (at row.Authorized d id watts scheduled pre) code.Ok (tell.ChargeParameters processing.Ongoing tuples most)) refl (ap not (same_id id)) refl refl refl;
  meets = record { dialect = refl; in_row = refl; named = refl; near = tt };
  goes = λ i. Again refl (u refl);
}

pub asking : (post : PostPlan) (plan : CarPlan) (x : Outside) (d : Dialect) (id : SessionId) (told schedule : ℕ) (pre : Option PreCharged) (n : ℕ)
    → is_ac plan.mode ≡ is_ac post.mode → IsWell post plan (pair row.Authorized phase.Asking d id told schedule pre n) x
asking post plan x d id told schedule pre n g =
    asked_by (nat_lt 0 x.shown) (is_ac post.mode) post plan x d id told schedule pre n x.shown _ _ _ refl g (λ e. no_watts x.shown e)

-- ---- direct current, before charging

cable_checked : (finished : Bool) (post : PostPlan) (plan : CarPlan) (x : Outside) (d : Dialect) (id : SessionId) (told schedule : ℕ) (pre : Option PreCharged) (n : ℕ) (status : DcStatus)
    → is_ac post.mode ≡ false → (finished ≡ false → is_valid x.facts.isolation ≡ false)
    → IsGood post plan (pair row.DcReady phase.CableChecking d id told schedule pre n) x (at (if finished then row.DcChecked else row.DcReady) d id told schedule pre) code.Ok
    (tell.CableCheck status (processing_of processing.Ongoing true finished))
cable_checked true post plan x d id told schedule pre n status f u = record {
  accepted = tt;
  post_ends = refl;
  code = tt;
  car_ends = no_cause plan (of phase.CableChecking d id n)
      (heard_with post x (at row.DcChecked d id told schedule pre) code.Ok (tell.CableCheck status processing.Finished)) refl (ap not (same_id id)) refl refl refl;
  meets = record { dialect = refl; in_row = (f, inl refl); named = refl; near = tt };
  goes = λ i. Further (fewer (left_to_start plan n) 1);
}
cable_checked false post plan x d id told schedule pre n status f u = record {
  accepted = tt;
  post_ends = refl;
  code = tt;
  car_ends = no_cause plan (of phase.CableChecking d id n)
      (heard_with post x (at row.DcReady d id told schedule pre) code.Ok (tell.CableCheck status processing.Ongoing)) refl (ap not (same_id id)) refl refl refl;
  meets = record { dialect = refl; in_row = (f, refl); named = refl; near = tt };
  goes = λ i. Again refl (u refl);
}

pub cable_checking : (post : PostPlan) (plan : CarPlan) (x : Outside) (d : Dialect) (id : SessionId) (told schedule : ℕ) (pre : Option PreCharged) (n : ℕ) → is_ac post.mode ≡ false
    → IsWell post plan (pair row.DcReady phase.CableChecking d id told schedule pre n) x
cable_checking post plan x d id told schedule pre n f = cable_checked (is_valid x.facts.isolation) post plan x d id told schedule pre n _ f (λ e. e)

near_to : (off : ℕ) → nat_le off 200 ≡ true → off ≤ 200
near_to off e = grind (arith, common_steps)

off_by : (off : ℕ) → nat_le off 200 ≡ false → 200 < off
off_by off e = grind (arith, common_steps)

abbrev pub charged_to : CarPlan → Outside → PreCharged
charged_to plan x = record { target = plan.target_voltage; voltage = x.facts.voltage }

pre_charged : (near : Bool) (r : Phase) (post : PostPlan) (plan : CarPlan) (x : Outside) (d : Dialect) (id : SessionId) (told schedule : ℕ) (pre : Option PreCharged) (n : ℕ) (status : DcStatus)
    → is_ac post.mode ≡ false → nat_le (off_of (charged_to plan x)) 200 ≡ near
    → IsGood post plan (pair r phase.PreCharging d id told schedule pre n) x (at row.DcPreCharging d id told schedule (Some (charged_to plan x))) code.Ok
    (tell.PreCharge status (amount x.facts.voltage))
pre_charged true r post plan x d id told schedule pre n status f e = record {
  accepted = tt;
  post_ends = refl;
  code = tt;
  car_ends = no_cause plan (of phase.PreCharging d id n)
      (heard_with post x (at row.DcPreCharging d id told schedule (Some (charged_to plan x))) code.Ok (tell.PreCharge status (amount x.facts.voltage))) refl (ap not (same_id id)) refl refl refl;
  meets = record { dialect = refl; in_row = rw (e, f) refl; named = rw e refl; near = rw (e, f) (near_to (off_of (charged_to plan x)) e) };
  goes = λ i. let less : left_to_start plan n < left_to_start plan n + 1 = omega arith in rw e (Further less);
}
pre_charged false r post plan x d id told schedule pre n status f e = record {
  accepted = tt;
  post_ends = refl;
  code = tt;
  car_ends = no_cause plan (of phase.PreCharging d id n)
      (heard_with post x (at row.DcPreCharging d id told schedule (Some (charged_to plan x))) code.Ok (tell.PreCharge status (amount x.facts.voltage))) refl (ap not (same_id id)) refl refl refl;
  meets = record { dialect = refl; in_row = rw e (f, inr refl); named = rw e refl; near = rw e tt };
  goes = λ i. rw e (Again refl (off_by (off_of (charged_to plan x)) e));
}

pub pre_charging_first : (post : PostPlan) (plan : CarPlan) (x : Outside) (d : Dialect) (id : SessionId) (told schedule : ℕ) (pre : Option PreCharged) (n : ℕ) → is_ac post.mode ≡ false
    → IsWell post plan (pair row.DcChecked phase.PreCharging d id told schedule pre n) x
pre_charging_first post plan x d id told schedule pre n f = pre_charged _ row.DcChecked post plan x d id told schedule pre n _ f refl

pub pre_charging : (post : PostPlan) (plan : CarPlan) (x : Outside) (d : Dialect) (id : SessionId) (told schedule : ℕ) (pre : Option PreCharged) (n : ℕ) → is_ac post.mode ≡ false
    → IsWell post plan (pair row.DcPreCharging phase.PreCharging d id told schedule pre n) x
pre_charging post plan x d id told schedule pre n f = pre_charged _ row.DcPreCharging post plan x d id told schedule pre n _ f refl

-- ---- PowerDelivery Start, whose reply waits for the contactor

pub starting_ac : (post : PostPlan) (plan : CarPlan) (x : Outside) (d : Dialect) (id : SessionId) (told schedule : ℕ) (pre : Option PreCharged) (n : ℕ) → is_ac post.mode ≡ true
    → IsWell post plan (pair row.AcReady phase.Starting d id told schedule pre n) x
starting_ac post plan x d id told schedule pre n f = record {
  accepted = tt;
  post_ends = refl;
  code = tt;
  car_ends = no_cause plan (of phase.Starting d id n) (heard_with post x (at row.AcClosing d id told schedule pre) code.Ok tell.SessionStop) refl (ap not (same_id id)) refl refl refl;
  meets = record { dialect = refl; in_row = rw f refl; named = refl; near = tt };
  goes = λ i. let less : left_to_charge plan n < suc (left_to_charge plan n) = omega arith in Further less;
}

pub starting_dc : (post : PostPlan) (plan : CarPlan) (x : Outside) (d : Dialect) (id : SessionId) (told schedule : ℕ) (pre : Option PreCharged) (n : ℕ) → is_ac post.mode ≡ false
    → IsWell post plan (pair row.DcPreCharging phase.Starting d id told schedule pre n) x
starting_dc post plan x d id told schedule pre n f = record {
  accepted = tt;
  post_ends = refl;
  code = tt;
  car_ends = no_cause plan (of phase.Starting d id n) (heard_with post x (at row.DcClosing d id told schedule pre) code.Ok tell.SessionStop) refl (ap not (same_id id)) refl refl refl;
  meets = record { dialect = refl; in_row = rw f refl; named = refl; near = tt };
  goes = λ i. let less : left_to_charge plan n < suc (left_to_charge plan n) = omega arith in Further less;
}

-- ---- the stop

welding_left : (b : Bool) (plan : CarPlan) (w n : ℕ) → (w == 0) ≡ b → left_in plan (welding_phase w) n ≤ w + 1
welding_left true plan w n e = rw e (omega arith)
welding_left false plan w n e = let some : 1 ≤ w = grind (arith, common_steps) in rw e (omega (arith, some))

welding_meets : (b : Bool) (post : PostPlan) (w : ℕ) (d : Dialect) (id : SessionId) (told schedule : ℕ) (pre : Option PreCharged) (n : ℕ) → (w == 0) ≡ b → is_ac post.mode ≡ false
    → Meets post (pair row.DcStopped (welding_phase w) d id told schedule pre n)
welding_meets true post w d id told schedule pre n e f = record { dialect = refl; in_row = rw (e, f) refl; named = rw e refl; near = rw e tt }
welding_meets false post w d id told schedule pre n e f = record { dialect = refl; in_row = rw e (f, refl); named = rw e refl; near = rw e tt }

pub stopping_ac : (post : PostPlan) (plan : CarPlan) (x : Outside) (d : Dialect) (id : SessionId) (told schedule : ℕ) (pre : Option PreCharged) (n : ℕ) → is_ac post.mode ≡ true → is_ac plan.mode ≡ true
    → IsWell post plan (pair row.AcCharging phase.Stopping d id told schedule pre n) x
stopping_ac post plan x d id told schedule pre n f g = record {
  accepted = tt;
  post_ends = refl;
  code = tt;
  car_ends = no_cause plan (of phase.Stopping d id n)
      (heard_with post x (at row.AcStopped d id told schedule pre) code.Ok (tell.PowerDelivery (post_status (is_ac post.mode) d x.facts code.Ok (ask.PowerDelivery progress.Stop (tuple_of d) None))))
      refl (ap not (same_id id)) refl refl refl;
  meets = record { dialect = refl; in_row = rw (f, g) refl; named = rw g refl; near = rw g tt };
  goes = λ i. let stop : left_to_stop plan ≡ 2 = rw g refl in let less : 1 < left_to_stop plan = omega (arith, stop) in rw g (Further less);
}

pub stopping_dc : (post : PostPlan) (plan : CarPlan) (x : Outside) (d : Dialect) (id : SessionId) (told schedule : ℕ) (pre : Option PreCharged) (n : ℕ) → is_ac post.mode ≡ false → is_ac plan.mode ≡ false
    → IsWell post plan (pair row.DcCharging phase.Stopping d id told schedule pre n) x
stopping_dc post plan x d id told schedule pre n f g =
    let leads : phase_behind_stop plan ≡ welding_phase plan.welding = rw g refl in
    let few : left_in plan (welding_phase plan.welding) n ≤ plan.welding + 1 = welding_left _ plan plan.welding n refl in
    let all : left_to_stop plan ≡ plan.welding + 2 = rw g refl in
    let less : left_in plan (welding_phase plan.welding) n < left_to_stop plan = omega (arith, few, all) in
    record {
      accepted = tt;
      post_ends = refl;
      code = tt;
      car_ends = no_cause plan (of phase.Stopping d id n)
          (heard_with post x (at row.DcStopped d id told schedule pre) code.Ok (tell.PowerDelivery (post_status (is_ac post.mode) d x.facts code.Ok (ask.PowerDelivery progress.Stop (tuple_of d) None))))
          refl (ap not (same_id id)) refl refl refl;
      meets = subst (λ (ph : CarPhase). Meets post (pair row.DcStopped ph d id told schedule pre n)) (sym leads) (welding_meets _ post plan.welding d id told schedule pre n refl f);
      goes = λ i. subst (λ (ph : CarPhase). GoesOn post plan (of phase.Stopping d id n) x (of ph d id n)) (sym leads) (Further less);
    }

pub welding : (left : ℕ) (post : PostPlan) (plan : CarPlan) (x : Outside) (d : Dialect) (id : SessionId) (told schedule : ℕ) (pre : Option PreCharged) (n : ℕ) → is_ac post.mode ≡ false
    → IsWell post plan (pair row.DcStopped (phase.Welding left) d id told schedule pre n) x
welding left post plan x d id told schedule pre n f =
    let few : left_in plan (welding_phase left) n ≤ left + 1 = welding_left _ plan left n refl in
    let less : left_in plan (welding_phase left) n < left + 2 = omega (arith, few) in
    record {
      accepted = tt;
      post_ends = refl;
      code = tt;
      car_ends = no_cause plan (of (phase.Welding left) d id n)
          (heard_with post x (at row.DcStopped d id told schedule pre) code.Ok (tell.WeldingDetection (dc_status d x.facts code.Ok (ask.WeldingDetection true plan.soc)) (amount x.facts.voltage)))
          refl (ap not (same_id id)) refl refl refl;
      meets = welding_meets _ post left d id told schedule pre n refl f;
      goes = λ i. Further less;
    }

pub ending_ac : (post : PostPlan) (plan : CarPlan) (x : Outside) (d : Dialect) (id : SessionId) (told schedule : ℕ) (pre : Option PreCharged) (n : ℕ) → is_ac post.mode ≡ true → pauses plan d ≡ false
    → IsWell post plan (pair row.AcStopped phase.Ending d id told schedule pre n) x
ending_ac post plan x d id told schedule pre n f p = record {
  accepted = tt;
  post_ends = rw p refl;
  code = tt;
  car_ends = stop_is_cause plan (of phase.Ending d id n) (heard_with post x (at row.AcStopped d id told schedule pre) code.Ok tell.SessionStop) refl (ap not (same_id id)) refl refl refl
      ∙ ap (λ (b : Bool). Some (if b then cause.Paused else cause.Stopped)) p;
  meets = record { dialect = refl; in_row = rw f refl; named = refl; near = tt };
  goes = λ i. absurd (let no : true ≡ false = i in cc);
}

pub ending_dc : (post : PostPlan) (plan : CarPlan) (x : Outside) (d : Dialect) (id : SessionId) (told schedule : ℕ) (pre : Option PreCharged) (n : ℕ) → is_ac post.mode ≡ false → pauses plan d ≡ false
    → IsWell post plan (pair row.DcStopped phase.Ending d id told schedule pre n) x
ending_dc post plan x d id told schedule pre n f p = record {
  accepted = tt;
  post_ends = rw p refl;
  code = tt;
  car_ends = stop_is_cause plan (of phase.Ending d id n) (heard_with post x (at row.DcStopped d id told schedule pre) code.Ok tell.SessionStop) refl (ap not (same_id id)) refl refl refl
      ∙ ap (λ (b : Bool). Some (if b then cause.Paused else cause.Stopped)) p;
  meets = record { dialect = refl; in_row = rw f refl; named = refl; near = tt };
  goes = λ i. absurd (let no : true ≡ false = i in cc);
}
