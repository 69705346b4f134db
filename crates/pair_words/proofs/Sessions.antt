-- What both ends keep meets all along a session, and the requests that are left get fewer.
use Rattle.std.proofs.Common.{◌≡◌, ℕ, suc, ◌+◌, ◌-◌, ◌≤◌, Bool, true, false, if◌then◌else◌, [], ◌∷◌, length, refl, ap, ◌∙◌, arith}
use Rattle.charge_world.specs.declared.offer.Dialect.{Dialect}
use Rattle.session_words.specs.declared.plan.CarPlan.{CarPlan}
use Rattle.session_words.specs.declared.plan.PostPlan.{PostPlan}
use Rattle.session_rules.specs.Finishing.{is_ac}
use Rattle.station_spec.specs.Report.{one_if}
use Rattle.car_rules.specs.declared.stage.CarPhase.{CarPhase}
use Rattle.car_rules.specs.declared.stage.CarPhase.TheVariants as phase
use Rattle.car_rules.specs.declared.stage.CarStage.{CarStage}
use Rattle.car_rules.specs.Replies.{is_ending}
use Rattle.car_rules.specs.Stages.{first_stage}
use Rattle.pair_words.specs.Exchanges.{Both, Outside, behind}
use Rattle.pair_words.specs.Left.{left_to_stop, left_to_start, left_to_power, left_in, left, IsUnready, GoesOn, Again, Further}
use Rattle.pair_words.specs.Laws.{IsAnswered, both, has_ended, TheyMeet, is_repeated, repeats, left_behind, TheyEnd}
use Rattle.pair_words.proofs.Exchanges.{exchanges_go_well}

pub they_meet : TheyMeet
they_meet post plan token d [] p a = record { dialect = refl; in_row = refl; named = tt; near = tt }
they_meet post plan token d (x ∷ xs) p a =
    let i : IsAnswered post plan (both post plan token d xs) x = exchanges_go_well post plan (both post plan token d xs) x p (they_meet post plan token d xs p a.0) a.2 in i.meets

-- ---- the requests that are left

unready : (ph : CarPhase) (post : PostPlan) (plan : CarPlan) (x : Outside) → IsUnready post plan ph x → is_repeated ph ph ≡ true
unready phase.Authorizing post plan x u = refl
unready phase.Asking post plan x u = refl
unready phase.CableChecking post plan x u = refl
unready phase.PreCharging post plan x u = refl
unready phase.SettingUp post plan x u = absurd u
unready phase.Discovering post plan x u = absurd u
unready phase.Selecting post plan x u = absurd u
unready phase.Starting post plan x u = absurd u
unready phase.Charging post plan x u = absurd u
unready phase.Stopping post plan x u = absurd u
unready phase.Renegotiating post plan x u = absurd u
unready (phase.Welding left) post plan x u = absurd u
unready phase.Ending post plan x u = absurd u

goes_by : (post : PostPlan) (plan : CarPlan) (c : CarStage) (x : Outside) (after : CarStage) (count repeated most : ℕ) → GoesOn post plan c x after → count + left plan c ≤ most + repeated
    → suc count + left plan after ≤ most + (one_if (is_repeated c.phase after.phase) + repeated)
goes_by post plan c x after count repeated most (Again e u) h =
    let again : is_repeated c.phase after.phase ≡ true = ap (λ (z : CarStage). is_repeated c.phase z.phase) e ∙ unready c.phase post plan x u in
    let same : left plan after ≡ left plan c = ap (λ (z : CarStage). left plan z) e in
    let one : one_if (is_repeated c.phase after.phase) ≡ 1 = ap one_if again in
    omega (arith, h, same, one)
goes_by post plan c x after count repeated most (Further l) h = omega (arith, h, l)

last_one : (ph : CarPhase) (plan : CarPlan) (n : ℕ) → is_ending ph ≡ true → left_in plan ph n ≡ 1
last_one phase.Ending plan n e = refl
last_one phase.SettingUp plan n e = cc
last_one phase.Discovering plan n e = cc
last_one phase.Selecting plan n e = cc
last_one phase.Authorizing plan n e = cc
last_one phase.Asking plan n e = cc
last_one phase.CableChecking plan n e = cc
last_one phase.PreCharging plan n e = cc
last_one phase.Starting plan n e = cc
last_one phase.Charging plan n e = cc
last_one phase.Stopping plan n e = cc
last_one phase.Renegotiating plan n e = cc
last_one (phase.Welding left) plan n e = cc

one_fewer : (ending : Bool) (post : PostPlan) (plan : CarPlan) (b : Both) (x : Outside) (count repeated most : ℕ) → is_ending b.car.phase ≡ ending → IsAnswered post plan b x
    → count + left plan b.car ≤ most + repeated
    → suc count + (if ending then 0 else left plan (behind post plan b x).car) ≤ most + (one_if (is_repeated b.car.phase (behind post plan b x).car.phase) + repeated)
one_fewer true post plan b x count repeated most e i h = let one : left plan b.car ≡ 1 = last_one b.car.phase plan b.car.cycles e in omega (arith, h, one)
one_fewer false post plan b x count repeated most e i h = goes_by post plan b.car x (behind post plan b x).car count repeated most (i.goes e) h

-- at first
stop_few : (ac : Bool) (plan : CarPlan) → is_ac plan.mode ≡ ac → plan.welding ≤ 10 → left_to_stop plan ≤ 12
stop_few true plan e w = rw e (omega arith)
stop_few false plan e w = rw e (omega (arith, w))

power_few : (ac : Bool) (plan : CarPlan) (n : ℕ) → is_ac plan.mode ≡ ac → left_to_power plan n ≤ left_to_start plan n + 2
power_few true plan n e = let same : left_to_power plan n ≡ left_to_start plan n = rw e refl in omega (arith, same)
power_few false plan n e = let same : left_to_power plan n ≡ left_to_start plan n + 2 = rw e refl in omega (arith, same)

at_first : (plan : CarPlan) (d : Dialect) → 1 ≤ plan.cycles → plan.welding ≤ 10 → left plan (first_stage plan d) ≤ 20 + plan.cycles
at_first plan d c w =
    let stop : left_to_stop plan ≤ 12 = stop_few _ plan refl w in
    let power : left_to_power plan 0 ≤ suc (suc (plan.cycles - 1) + left_to_stop plan) + 2 = power_few _ plan 0 refl in
    let all : left_to_power plan 0 + 5 ≤ 20 + plan.cycles = omega (arith, stop, power, c) in
    all

not_yet : (b : Bool) (n : ℕ) → b ≡ false → (if b then 0 else n) ≡ n
not_yet true n e = cc
not_yet false n e = refl

pub they_end : TheyEnd
they_end post plan token d [] p a =
    let of_car = p.of_car in
    let cycles = of_car.cycles in
    let few : left plan (first_stage plan d) ≤ 20 + plan.cycles = at_first plan d cycles.0 of_car.welding in
    omega (arith, few)
they_end post plan token d (x ∷ xs) p a =
    let i : IsAnswered post plan (both post plan token d xs) x = exchanges_go_well post plan (both post plan token d xs) x p (they_meet post plan token d xs p a.0) a.2 in
    let before : length xs + left_behind post plan token d xs ≤ 20 + plan.cycles + repeats post plan token d xs = they_end post plan token d xs p a.0 in
    let lives : left_behind post plan token d xs ≡ left plan (both post plan token d xs).car = not_yet (has_ended post plan token d xs) (left plan (both post plan token d xs).car) a.1 in
    let h : length xs + left plan (both post plan token d xs).car ≤ 20 + plan.cycles + repeats post plan token d xs = omega (arith, before, lives) in
    one_fewer (is_ending (both post plan token d xs).car.phase) post plan (both post plan token d xs) x (length xs) (repeats post plan token d xs) (20 + plan.cycles) refl i h
