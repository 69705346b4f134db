-- The requests that are repeated are few.
use Rattle.std.proofs.Common.{◌≡◌, ℕ, suc, ◌+◌, ◌*◌, ◌<◌, ◌≤◌, nat_le, min, Bool, true, false, ◌&&◌, if◌then◌else◌, List, [], ◌∷◌, length, refl, sym, ap, subst, ◌∙◌, ◌⊎◌, inl, inr, arith}
use Rattle.std.proofs.lemmas.Grind.{common_steps}
use Rattle.charge_world.specs.declared.offer.Dialect.{Dialect}
use Rattle.session_words.specs.declared.plan.CarPlan.{CarPlan}
use Rattle.session_words.specs.declared.plan.PostPlan.{PostPlan}
use Rattle.session_rules.specs.Delivery.{off_of}
use Rattle.session_rules.specs.Finishing.{is_valid}
use Rattle.station_spec.specs.Report.{one_if}
use Rattle.car_rules.specs.declared.stage.CarPhase.{CarPhase}
use Rattle.car_rules.specs.declared.stage.CarPhase.TheVariants as phase
use Rattle.car_rules.specs.declared.stage.CarStage.{CarStage}
use Rattle.car_rules.specs.Moves.{cycles_behind}
use Rattle.car_rules.specs.Replies.{is_ending}
use Rattle.pair_words.specs.Exchanges.{Both, Outside, behind}
use Rattle.pair_words.specs.Meeting.{ArePaired}
use Rattle.pair_words.specs.Left.{left_in, left, IsUnready, GoesOn, Again, Further}
use Rattle.pair_words.specs.Laws.{IsAnswered, AreExchanges, is_repeated, repeats}
use Rattle.pair_words.specs.Timed.{Timed, outsides, both_behind, asks_again, next_at, is_authorizing, is_asking, is_cable_checking, is_pre_charging, repeats_of, IsTimely, AreTimely, ExchangesAreFew, SessionsAreShort}
use Rattle.pair_words.proofs.Exchanges.{exchanges_go_well}
use Rattle.pair_words.proofs.Sessions.{they_meet, they_end}

no_such : false ≡ true → ⊥
no_such e = cc

-- ---- what is repeated isn't done

repeated_left : (p q : CarPhase) (plan : CarPlan) (n : ℕ) → is_repeated p q ≡ true → left_in plan q (cycles_behind p n) ≡ left_in plan p n
repeated_left phase.SettingUp q plan n e = absurd (no_such e)
repeated_left phase.Discovering q plan n e = absurd (no_such e)
repeated_left phase.Selecting q plan n e = absurd (no_such e)
repeated_left phase.Authorizing phase.SettingUp plan n e = absurd (no_such e)
repeated_left phase.Authorizing phase.Discovering plan n e = absurd (no_such e)
repeated_left phase.Authorizing phase.Selecting plan n e = absurd (no_such e)
repeated_left phase.Authorizing phase.Authorizing plan n e = refl
repeated_left phase.Authorizing phase.Asking plan n e = absurd (no_such e)
repeated_left phase.Authorizing phase.CableChecking plan n e = absurd (no_such e)
repeated_left phase.Authorizing phase.PreCharging plan n e = absurd (no_such e)
repeated_left phase.Authorizing phase.Starting plan n e = absurd (no_such e)
repeated_left phase.Authorizing phase.Charging plan n e = absurd (no_such e)
repeated_left phase.Authorizing phase.Stopping plan n e = absurd (no_such e)
repeated_left phase.Authorizing phase.Renegotiating plan n e = absurd (no_such e)
repeated_left phase.Authorizing (phase.Welding left) plan n e = absurd (no_such e)
repeated_left phase.Authorizing phase.Ending plan n e = absurd (no_such e)
repeated_left phase.Asking phase.SettingUp plan n e = absurd (no_such e)
repeated_left phase.Asking phase.Discovering plan n e = absurd (no_such e)
repeated_left phase.Asking phase.Selecting plan n e = absurd (no_such e)
repeated_left phase.Asking phase.Authorizing plan n e = absurd (no_such e)
repeated_left phase.Asking phase.Asking plan n e = refl
repeated_left phase.Asking phase.CableChecking plan n e = absurd (no_such e)
repeated_left phase.Asking phase.PreCharging plan n e = absurd (no_such e)
repeated_left phase.Asking phase.Starting plan n e = absurd (no_such e)
repeated_left phase.Asking phase.Charging plan n e = absurd (no_such e)
repeated_left phase.Asking phase.Stopping plan n e = absurd (no_such e)
repeated_left phase.Asking phase.Renegotiating plan n e = absurd (no_such e)
repeated_left phase.Asking (phase.Welding left) plan n e = absurd (no_such e)
repeated_left phase.Asking phase.Ending plan n e = absurd (no_such e)
repeated_left phase.CableChecking phase.SettingUp plan n e = absurd (no_such e)
repeated_left phase.CableChecking phase.Discovering plan n e = absurd (no_such e)
repeated_left phase.CableChecking phase.Selecting plan n e = absurd (no_such e)
repeated_left phase.CableChecking phase.Authorizing plan n e = absurd (no_such e)
repeated_left phase.CableChecking phase.Asking plan n e = absurd (no_such e)
repeated_left phase.CableChecking phase.CableChecking plan n e = refl
repeated_left phase.CableChecking phase.PreCharging plan n e = absurd (no_such e)
repeated_left phase.CableChecking phase.Starting plan n e = absurd (no_such e)
repeated_left phase.CableChecking phase.Charging plan n e = absurd (no_such e)
repeated_left phase.CableChecking phase.Stopping plan n e = absurd (no_such e)
repeated_left phase.CableChecking phase.Renegotiating plan n e = absurd (no_such e)
repeated_left phase.CableChecking (phase.Welding left) plan n e = absurd (no_such e)
repeated_left phase.CableChecking phase.Ending plan n e = absurd (no_such e)
repeated_left phase.PreCharging phase.SettingUp plan n e = absurd (no_such e)
repeated_left phase.PreCharging phase.Discovering plan n e = absurd (no_such e)
repeated_left phase.PreCharging phase.Selecting plan n e = absurd (no_such e)
repeated_left phase.PreCharging phase.Authorizing plan n e = absurd (no_such e)
repeated_left phase.PreCharging phase.Asking plan n e = absurd (no_such e)
repeated_left phase.PreCharging phase.CableChecking plan n e = absurd (no_such e)
repeated_left phase.PreCharging phase.PreCharging plan n e = refl
repeated_left phase.PreCharging phase.Starting plan n e = absurd (no_such e)
repeated_left phase.PreCharging phase.Charging plan n e = absurd (no_such e)
repeated_left phase.PreCharging phase.Stopping plan n e = absurd (no_such e)
repeated_left phase.PreCharging phase.Renegotiating plan n e = absurd (no_such e)
repeated_left phase.PreCharging (phase.Welding left) plan n e = absurd (no_such e)
repeated_left phase.PreCharging phase.Ending plan n e = absurd (no_such e)
repeated_left phase.Starting q plan n e = absurd (no_such e)
repeated_left phase.Charging q plan n e = absurd (no_such e)
repeated_left phase.Stopping q plan n e = absurd (no_such e)
repeated_left phase.Renegotiating q plan n e = absurd (no_such e)
repeated_left (phase.Welding left) q plan n e = absurd (no_such e)
repeated_left phase.Ending q plan n e = absurd (no_such e)

unready_by : (post : PostPlan) (plan : CarPlan) (c : CarStage) (x : Outside) (after : CarStage) → GoesOn post plan c x after → after.cycles ≡ cycles_behind c.phase c.cycles
    → is_repeated c.phase after.phase ≡ true → IsUnready post plan c.phase x
unready_by post plan c x after (Again e u) k r = u
unready_by post plan c x after (Further l) k r =
    let same : left plan after ≡ left plan c = ap (λ (n : ℕ). left_in plan after.phase n) k ∙ repeated_left c.phase after.phase plan c.cycles r in
    absurd (omega (arith, l, same))

not_ending : (p q : CarPhase) → is_repeated p q ≡ true → is_ending p ≡ false
not_ending phase.SettingUp q e = refl
not_ending phase.Discovering q e = refl
not_ending phase.Selecting q e = refl
not_ending phase.Authorizing q e = refl
not_ending phase.Asking q e = refl
not_ending phase.CableChecking q e = refl
not_ending phase.PreCharging q e = refl
not_ending phase.Starting q e = refl
not_ending phase.Charging q e = refl
not_ending phase.Stopping q e = refl
not_ending phase.Renegotiating q e = refl
not_ending (phase.Welding left) q e = refl
not_ending phase.Ending q e = absurd (no_such e)

unready : (post : PostPlan) (plan : CarPlan) (b : Both) (x : Outside) → IsAnswered post plan b x → asks_again post plan b x ≡ true → IsUnready post plan b.car.phase x
unready post plan b x i r = unready_by post plan b.car x (behind post plan b x).car (i.goes (not_ending b.car.phase (behind post plan b x).car.phase r)) refl r

authorizes : (p : CarPhase) → is_authorizing p ≡ true → p ≡ phase.Authorizing
authorizes phase.SettingUp e = absurd (no_such e)
authorizes phase.Discovering e = absurd (no_such e)
authorizes phase.Selecting e = absurd (no_such e)
authorizes phase.Authorizing e = refl
authorizes phase.Asking e = absurd (no_such e)
authorizes phase.CableChecking e = absurd (no_such e)
authorizes phase.PreCharging e = absurd (no_such e)
authorizes phase.Starting e = absurd (no_such e)
authorizes phase.Charging e = absurd (no_such e)
authorizes phase.Stopping e = absurd (no_such e)
authorizes phase.Renegotiating e = absurd (no_such e)
authorizes (phase.Welding left) e = absurd (no_such e)
authorizes phase.Ending e = absurd (no_such e)

asks : (p : CarPhase) → is_asking p ≡ true → p ≡ phase.Asking
asks phase.SettingUp e = absurd (no_such e)
asks phase.Discovering e = absurd (no_such e)
asks phase.Selecting e = absurd (no_such e)
asks phase.Authorizing e = absurd (no_such e)
asks phase.Asking e = refl
asks phase.CableChecking e = absurd (no_such e)
asks phase.PreCharging e = absurd (no_such e)
asks phase.Starting e = absurd (no_such e)
asks phase.Charging e = absurd (no_such e)
asks phase.Stopping e = absurd (no_such e)
asks phase.Renegotiating e = absurd (no_such e)
asks (phase.Welding left) e = absurd (no_such e)
asks phase.Ending e = absurd (no_such e)

checks : (p : CarPhase) → is_cable_checking p ≡ true → p ≡ phase.CableChecking
checks phase.SettingUp e = absurd (no_such e)
checks phase.Discovering e = absurd (no_such e)
checks phase.Selecting e = absurd (no_such e)
checks phase.Authorizing e = absurd (no_such e)
checks phase.Asking e = absurd (no_such e)
checks phase.CableChecking e = refl
checks phase.PreCharging e = absurd (no_such e)
checks phase.Starting e = absurd (no_such e)
checks phase.Charging e = absurd (no_such e)
checks phase.Stopping e = absurd (no_such e)
checks phase.Renegotiating e = absurd (no_such e)
checks (phase.Welding left) e = absurd (no_such e)
checks phase.Ending e = absurd (no_such e)

charges : (p : CarPhase) → is_pre_charging p ≡ true → p ≡ phase.PreCharging
charges phase.SettingUp e = absurd (no_such e)
charges phase.Discovering e = absurd (no_such e)
charges phase.Selecting e = absurd (no_such e)
charges phase.Authorizing e = absurd (no_such e)
charges phase.Asking e = absurd (no_such e)
charges phase.CableChecking e = absurd (no_such e)
charges phase.PreCharging e = refl
charges phase.Starting e = absurd (no_such e)
charges phase.Charging e = absurd (no_such e)
charges phase.Stopping e = absurd (no_such e)
charges phase.Renegotiating e = absurd (no_such e)
charges (phase.Welding left) e = absurd (no_such e)
charges phase.Ending e = absurd (no_such e)

true_false : true ≡ false → ⊥
true_false e = cc

is_late : (least n : ℕ) → nat_le least n ≡ true → least ≤ n
is_late least n e = grind (arith, common_steps)

is_early : (least n : ℕ) → nat_le least n ≡ false → n < least
is_early least n e = grind (arith, common_steps)

-- before the moment at which it is done
before : (b : Bool) (least at : ℕ) → nat_le least at ≡ b → (least ≤ at → ⊥) → at < least
before true least at e n = absurd (n (is_late least at e))
before false least at e n = is_early least at e

neither : (free paid : Bool) → (free ≡ false) × (paid ≡ false) → (free ≡ true) ⊎ (paid ≡ true) → ⊥
neither free paid u (inl h) = true_false (sym h ∙ u.0)
neither free paid u (inr h) = true_false (sym h ∙ u.1)

unpaid_early : (post : PostPlan) (plan : CarPlan) (b : Both) (earliest count : ℕ) (t : Timed) → IsTimely post plan b earliest count t → b.car.phase ≡ phase.Authorizing
    → IsUnready post plan b.car.phase t.outside → t.at < 100
unpaid_early post plan b earliest count t i e u =
    let no : (post.free ≡ false) × (t.outside.facts.paid ≡ false) = subst (λ (p : CarPhase). IsUnready post plan p t.outside) e u in
    before (nat_le 100 t.at) 100 t.at refl (λ l. neither post.free t.outside.facts.paid no (i.paid e l))

not_valid_early : (post : PostPlan) (plan : CarPlan) (b : Both) (earliest count : ℕ) (t : Timed) → IsTimely post plan b earliest count t → b.car.phase ≡ phase.CableChecking
    → IsUnready post plan b.car.phase t.outside → t.at < 300
not_valid_early post plan b earliest count t i e u =
    let no : is_valid t.outside.facts.isolation ≡ false = subst (λ (p : CarPhase). IsUnready post plan p t.outside) e u in
    before (nat_le 300 t.at) 300 t.at refl (λ l. true_false (sym (ap is_valid (i.valid e l)) ∙ no))

always_shown : (post : PostPlan) (plan : CarPlan) (b : Both) (earliest count : ℕ) (t : Timed) → IsTimely post plan b earliest count t → b.car.phase ≡ phase.Asking
    → IsUnready post plan b.car.phase t.outside → ⊥
always_shown post plan b earliest count t i e u =
    let none : t.outside.shown ≡ 0 = subst (λ (p : CarPhase). IsUnready post plan p t.outside) e u in
    let some : 1 ≤ t.outside.shown = i.shown e in
    omega (arith, none, some)

off_min : (target rise : ℕ) → 200 < off_of (record { target = target; voltage = min target rise }) → rise + 200 < target
off_min target rise h = grind (arith, common_steps, h)

off_early : (post : PostPlan) (plan : CarPlan) (b : Both) (earliest count : ℕ) (t : Timed) → IsTimely post plan b earliest count t → b.car.phase ≡ phase.PreCharging
    → IsUnready post plan b.car.phase t.outside → 1000 * count + 200 < plan.target_voltage
off_early post plan b earliest count t i e u =
    let off : 200 < off_of (record { target = plan.target_voltage; voltage = t.outside.facts.voltage }) = subst (λ (p : CarPhase). IsUnready post plan p t.outside) e u in
    off_min plan.target_voltage (1000 * count)
    (subst (λ (v : ℕ). 200 < off_of (record { target = plan.target_voltage; voltage = v })) (i.voltage e) off)

-- ---- how often

-- each time takes 100 ms
record Rises (most count next : ℕ) : Type 0 where
  time : 100 * count ≤ next
  few : count ≤ most

rises : (is_step again : Bool) (most count earliest at : ℕ) → (is_step ≡ true → again ≡ true → at < 100 * most) → earliest ≤ at → Rises most count earliest
    → Rises most (one_if (is_step && again) + count) (if again then at + 100 else at)
rises true true most count earliest at u l r =
    let now : at < 100 * most = u refl refl in
    let time = r.time in
    record { time = omega (arith, time, l); few = omega (arith, now, time, l) }
rises true false most count earliest at u l r = let time = r.time in let few = r.few in record { time = omega (arith, time, l); few = omega (arith, few) }
rises false true most count earliest at u l r = let time = r.time in let few = r.few in record { time = omega (arith, time, l); few = omega (arith, few) }
rises false false most count earliest at u l r = let time = r.time in let few = r.few in record { time = omega (arith, time, l); few = omega (arith, few) }

never : (is_step again : Bool) (count : ℕ) → (is_step ≡ true → again ≡ true → ⊥) → count ≡ 0 → one_if (is_step && again) + count ≡ 0
never true true count u e = absurd (u refl refl)
never true false count u e = omega (arith, e)
never false again count u e = omega (arith, e)

reaches : (is_step again : Bool) (count target : ℕ) → (is_step ≡ true → again ≡ true → 1000 * count + 200 < target) → target ≤ 30000 → count ≤ 30 → one_if (is_step && again) + count ≤ 30
reaches true true count target u most few = let off : 1000 * count + 200 < target = u refl refl in omega (arith, off, most)
reaches true false count target u most few = omega (arith, few)
reaches false again count target u most few = omega (arith, few)

record Bounds (post : PostPlan) (plan : CarPlan) (token : ℕ) (d : Dialect) (ts : List Timed) : Type 0 where
  paid : Rises 1 (repeats_of is_authorizing post plan token d ts) (next_at post plan token d ts)
  shown : repeats_of is_asking post plan token d ts ≡ 0
  valid : Rises 3 (repeats_of is_cable_checking post plan token d ts) (next_at post plan token d ts)
  charged : repeats_of is_pre_charging post plan token d ts ≤ 30

bounds : (post : PostPlan) (plan : CarPlan) (token : ℕ) (d : Dialect) (ts : List Timed) → ArePaired post plan → plan.target_voltage ≤ 30000 → AreExchanges post plan token d (outsides ts)
    → AreTimely post plan token d ts → Bounds post plan token d ts
bounds post plan token d [] p most a l = record {
  paid = record { time = omega arith; few = omega arith };
  shown = refl;
  valid = record { time = omega arith; few = omega arith };
  charged = omega arith;
}
bounds post plan token d (t ∷ ts) p most a l =
    let k : Bounds post plan token d ts = bounds post plan token d ts p most a.0 l.0 in
    let i : IsAnswered post plan (both_behind post plan token d ts) t.outside =
    exchanges_go_well post plan (both_behind post plan token d ts) t.outside p (they_meet post plan token d (outsides ts) p a.0) a.2 in
    let timely : IsTimely post plan (both_behind post plan token d ts) (next_at post plan token d ts) (repeats_of is_pre_charging post plan token d ts) t = l.1 in
    record {
      paid = rises (is_authorizing (both_behind post plan token d ts).car.phase) (asks_again post plan (both_behind post plan token d ts) t.outside) 1 _ _ t.at
          (λ e r. unpaid_early post plan (both_behind post plan token d ts) _ _ t timely (authorizes _ e) (unready post plan (both_behind post plan token d ts) t.outside i r)) timely.in_order k.paid;
      shown = never (is_asking (both_behind post plan token d ts).car.phase) (asks_again post plan (both_behind post plan token d ts) t.outside) _
          (λ e r. always_shown post plan (both_behind post plan token d ts) _ _ t timely (asks _ e) (unready post plan (both_behind post plan token d ts) t.outside i r)) k.shown;
      valid = rises (is_cable_checking (both_behind post plan token d ts).car.phase) (asks_again post plan (both_behind post plan token d ts) t.outside) 3 _ _ t.at
          (λ e r. not_valid_early post plan (both_behind post plan token d ts) _ _ t timely (checks _ e) (unready post plan (both_behind post plan token d ts) t.outside i r)) timely.in_order k.valid;
      charged = reaches (is_pre_charging (both_behind post plan token d ts).car.phase) (asks_again post plan (both_behind post plan token d ts) t.outside) _ plan.target_voltage
          (λ e r. off_early post plan (both_behind post plan token d ts) _ _ t timely (charges _ e) (unready post plan (both_behind post plan token d ts) t.outside i r)) most k.charged;
    }

-- ---- all of them

parts : (p q : CarPhase) → one_if (is_repeated p q)
    ≡ one_if (is_authorizing p && is_repeated p q) + one_if (is_asking p && is_repeated p q) + one_if (is_cable_checking p && is_repeated p q) + one_if (is_pre_charging p && is_repeated p q)
parts phase.SettingUp q = omega arith
parts phase.Discovering q = omega arith
parts phase.Selecting q = omega arith
parts phase.Authorizing q = omega arith
parts phase.Asking q = omega arith
parts phase.CableChecking q = omega arith
parts phase.PreCharging q = omega arith
parts phase.Starting q = omega arith
parts phase.Charging q = omega arith
parts phase.Stopping q = omega arith
parts phase.Renegotiating q = omega arith
parts (phase.Welding left) q = omega arith
parts phase.Ending q = omega arith

sum_of : (post : PostPlan) (plan : CarPlan) (token : ℕ) (d : Dialect) (ts : List Timed) → repeats post plan token d (outsides ts)
    ≡ repeats_of is_authorizing post plan token d ts + repeats_of is_asking post plan token d ts + repeats_of is_cable_checking post plan token d ts + repeats_of is_pre_charging post plan token d ts
sum_of post plan token d [] = refl
sum_of post plan token d (t ∷ ts) =
    let here = parts (both_behind post plan token d ts).car.phase (behind post plan (both_behind post plan token d ts) t.outside).car.phase in
    let rest = sum_of post plan token d ts in
    omega (arith, here, rest)

same_length : (ts : List Timed) → length (outsides ts) ≡ length ts
same_length [] = refl
same_length (t ∷ ts) = ap suc (same_length ts)

pub exchanges_are_few : ExchangesAreFew
exchanges_are_few post plan token d ts p most a l =
    let k : Bounds post plan token d ts = bounds post plan token d ts p most a l in
    let paid = k.paid in
    let valid = k.valid in
    let once : repeats_of is_authorizing post plan token d ts ≤ 1 = paid.few in
    let thrice : repeats_of is_cable_checking post plan token d ts ≤ 3 = valid.few in
    let none : repeats_of is_asking post plan token d ts ≡ 0 = k.shown in
    let charged : repeats_of is_pre_charging post plan token d ts ≤ 30 = k.charged in
    let all = sum_of post plan token d ts in
    let long = same_length ts in
    let end = they_end post plan token d (outsides ts) p a in
    omega (arith, once, thrice, none, charged, all, long, end)

pub sessions_are_short : SessionsAreShort
sessions_are_short post plan token d ts p most a l =
    let few = exchanges_are_few post plan token d ts p most a l in omega (arith, few)
