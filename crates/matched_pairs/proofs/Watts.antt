-- What a charger measures is within the watts that it was ordered, and within those that a session was told.
use Rattle.std.proofs.Common.{◌≡◌, ℕ, zero, suc, ◌+◌, ◌-◌, ◌*◌, ◌/◌, ◌≤◌, min, max, nat_le, nat_lt, Bool, true, false, ◌&&◌, if◌then◌else◌, Option, Some, None, refl, ap, ◌∙◌, ◌⊎◌, inl, inr, arith}
use Rattle.std.proofs.lemmas.Bool.Decides.{nat_tests}
use Rattle.std.proofs.lemmas.Nat.{mul-le}
use Rattle.std.proofs.Math.Nat.{div-mul-le_self}
use Rattle.std.specs.Prelude.{MatchBool, slice_get}
use Rattle.charge_world.specs.declared.heard.IsolationLevel.TheVariants as isolation
use Rattle.charge_world.specs.declared.heard.PilotState.TheVariants as pilot
use Rattle.charge_world.specs.declared.heard.PlantEvent.{PlantEvent}
use Rattle.charge_world.specs.declared.heard.PlantEvent.TheVariants as plant
use Rattle.session_words.specs.declared.cause.EndCause.TheVariants as cause
use Rattle.session_words.specs.declared.mode.Mode.{Mode}
use Rattle.session_words.specs.declared.mode.Mode.TheVariants as mode
use Rattle.session_words.specs.declared.plan.PostPlan.{PostPlan}
use Rattle.session_words.specs.Amounts.{ac_current_of}
use Rattle.session_words.specs.Modes.{phases_of}
use Rattle.session_rules.specs.declared.allowed.Lowered.{Lowered}
use Rattle.session_rules.specs.Allowed.{allowed_watts}
use Rattle.session_rules.specs.Causes.{cause_if, is_over}
use Rattle.session_rules.specs.Finishing.{is_ac}
use Rattle.plant_sim.specs.Charger.{Limits, Charger, moved, IsCut, IsCurrent, events}

some_event : (a b : PlantEvent) → Some a ≡ Some b → a ≡ b
some_event a b e = cc

none_event : (e : PlantEvent) → None ≡ Some e → ⊥
none_event e h = cc

-- nothing was ordered yet
abbrev pub IsZero : Limits → Type 0
IsZero l = (l.watts ≡ 0) × (l.current ≡ 0)

-- what was ordered is within these watts: in alternating current by the current, in direct current by the watts
abbrev pub WithinTold : Bool → PostPlan → Limits → ℕ → Type 0
WithinTold true plan l told = l.current * plan.nominal * phases_of plan.mode ≤ 10 * told
WithinTold false plan l told = l.watts ≤ told

-- in alternating current the voltage is at most ten times the nominal one, in tenths
abbrev pub Volts : Bool → PostPlan → Charger → Type 0
Volts true plan c = (c.limits.voltage ≤ 10 * plan.nominal) × (c.voltage ≤ 10 * plan.nominal)
Volts false plan c = Unit {0}

-- ---- the current of told watts

times_le : (a b m : ℕ) → a ≤ b → a * m ≤ b * m
times_le a b m h = grind arith

ac_held : (c w n p : ℕ) → c ≤ 10 * w / (n * p) → c * n * p ≤ 10 * w
ac_held c w n p h =
    let x = times_le c (10 * w / (n * p)) (n * p) h in
    let y = div-mul-le_self (10 * w) (n * p) in
    let z : c * n * p ≡ c * (n * p) = grind arith in
    omega (arith, x, y, z)

pub current_within : (watts nominal phases : ℕ) → ac_current_of watts nominal phases * nominal * phases ≤ 10 * watts
current_within watts nominal phases = ac_held (ac_current_of watts nominal phases) watts nominal phases (omega arith)

-- ---- what is measured

towards_by : (b : Bool) (from to most : ℕ) → from ≤ most → to ≤ most → (if b then min to (from + 1000) else max to (from - 1000)) ≤ most
towards_by true from to most e f = omega (arith, e, f)
towards_by false from to most e f = omega (arith, e, f)

pub moved_within : (c : Charger) (most : ℕ) → c.limits.voltage ≤ most → c.voltage ≤ most → moved c ≤ most
moved_within c most e f = towards_by (nat_le c.voltage c.limits.voltage) c.voltage c.limits.voltage most f e

one_phase : (m : Mode) → is_ac m ≡ false → phases_of m ≡ 1
one_phase mode.AcSinglePhaseCore e = cc
one_phase mode.AcThreePhaseCore e = cc
one_phase mode.DcCore e = refl
one_phase mode.DcExtended e = refl
one_phase mode.DcComboCore e = refl
one_phase mode.DcUnique e = refl

no_current : (v i p allowed : ℕ) → i ≡ 0 → v * i * p ≤ 105 * allowed
no_current v i p allowed e =
    let none : v * i * p ≡ 0 = ap (λ (x : ℕ). v * x * p) e ∙ grind arith in
    omega (arith, none)

dc_within : (v i p w told allowed : ℕ) → p ≡ 1 → v * i ≤ 100 * w → w ≤ told → told ≤ allowed → v * i * p ≤ 105 * allowed
dc_within v i p w told allowed e held l k =
    let one : v * i * p ≡ v * i = ap (λ (x : ℕ). v * i * x) e ∙ grind arith in
    omega (arith, one, held, l, k)

ac_within : (v i p n current told allowed : ℕ) → v ≤ 10 * n → i ≤ current → current * n * p ≤ 10 * told → told ≤ allowed → v * i * p ≤ 105 * allowed
ac_within v i p n current told allowed volts amps held k =
    let a : v * i ≤ 10 * n * current = mul-le v i (10 * n) current volts amps in
    let b : v * i * p ≤ 10 * n * current * p = times_le (v * i) (10 * n * current) p a in
    let c : 10 * n * current * p ≡ 10 * (current * n * p) = grind arith in
    omega (arith, b, c, held, k)

cut_within : (ac : Bool) (plan : PostPlan) (c : Charger) (i told allowed : ℕ) → is_ac plan.mode ≡ ac → Volts ac plan c → WithinTold ac plan c.limits told → told ≤ allowed
    → IsCut (moved c) c.limits.current c.limits.watts i → moved c * i * phases_of plan.mode ≤ 105 * allowed
cut_within true plan c i told allowed e volts within k cut =
    ac_within (moved c) i (phases_of plan.mode) plan.nominal c.limits.current told allowed (moved_within c (10 * plan.nominal) volts.0 volts.1) cut.ordered within k
cut_within false plan c i told allowed e volts within k cut =
    dc_within (moved c) i (phases_of plan.mode) c.limits.watts told allowed (one_phase plan.mode e) cut.held within k

zero_current : (i most : ℕ) → i ≤ most → most ≡ 0 → i ≡ 0
zero_current i most l e = omega (arith, l, e)

measured_by : (closed ac : Bool) (plan : PostPlan) (c : Charger) (i told allowed : ℕ) → is_ac plan.mode ≡ ac → Volts ac plan c → WithinTold ac plan c.limits told ⊎ IsZero c.limits → told ≤ allowed
    → MatchBool closed (IsCut (moved c) c.limits.current c.limits.watts i) (i ≡ 0) → moved c * i * phases_of plan.mode ≤ 105 * allowed
measured_by false ac plan c i told allowed e volts within k cut = no_current (moved c) i (phases_of plan.mode) allowed cut
measured_by true ac plan c i told allowed e volts (inl within) k cut = cut_within ac plan c i told allowed e volts within k cut
measured_by true ac plan c i told allowed e volts (inr zero_is) k cut = no_current (moved c) i (phases_of plan.mode) allowed (zero_current i c.limits.current cut.ordered zero_is.1)

not_less : (m n : ℕ) → n ≤ m → nat_lt m n ≡ false
not_less m n l = grind (arith, nat_tests)

not_over : (p allowed v i : ℕ) → v * i * p ≤ 105 * allowed → is_over p allowed v i ≡ false
not_over p allowed v i l = not_less (105 * allowed) (v * i * p) l

told_allowed : (told : ℕ) (lowered : Option Lowered) (now : ℕ) → told ≤ allowed_watts told lowered now
told_allowed told lowered now = omega arith

no_power : (b over : Bool) → over ≡ false → cause_if (b && over) cause.OverPower ≡ None
no_power true false e = refl
no_power false false e = refl
no_power b true e = cc

-- the measurements of a charger
pub measured_is : (place v i a b : ℕ) → slice_get (events v i) place ≡ Some (plant.Measured a b) → ((a ≡ v) × (b ≡ i)) ⊎ ((a ≡ 0) × (b ≡ 0))
measured_is zero v i a b h = absurd (let e : plant.Pilot pilot.C ≡ plant.Measured a b = some_event _ _ h in cc)
measured_is (suc zero) v i a b h = absurd (let e : plant.Isolation isolation.Invalid ≡ plant.Measured a b = some_event _ _ h in cc)
measured_is (suc (suc zero)) v i a b h = absurd (let e : plant.Paid ≡ plant.Measured a b = some_event _ _ h in cc)
measured_is (suc (suc (suc zero))) v i a b h = absurd (let e : plant.Isolation isolation.Valid ≡ plant.Measured a b = some_event _ _ h in cc)
measured_is (suc (suc (suc (suc zero)))) v i a b h = let e : plant.Measured v i ≡ plant.Measured a b = some_event _ _ h in inl (cc, cc)
measured_is (suc (suc (suc (suc (suc zero))))) v i a b h = absurd (let e : plant.Feedback true ≡ plant.Measured a b = some_event _ _ h in cc)
measured_is (suc (suc (suc (suc (suc (suc zero)))))) v i a b h = absurd (let e : plant.Feedback false ≡ plant.Measured a b = some_event _ _ h in cc)
measured_is (suc (suc (suc (suc (suc (suc (suc zero))))))) v i a b h = let e : plant.Measured 0 0 ≡ plant.Measured a b = some_event _ _ h in inr (cc, cc)
measured_is (suc (suc (suc (suc (suc (suc (suc (suc n)))))))) v i a b h = absurd (none_event (plant.Measured a b) h)

pub is_no_cause : (x : Bool) (ac : Bool) (plan : PostPlan) (c : Charger) (i a b told : ℕ) (lowered : Option Lowered) (now : ℕ) → is_ac plan.mode ≡ ac → Volts ac plan c → WithinTold ac plan c.limits told ⊎ IsZero c.limits
    → IsCurrent c i → ((a ≡ moved c) × (b ≡ i)) ⊎ ((a ≡ 0) × (b ≡ 0)) → cause_if (x && is_over (phases_of plan.mode) (allowed_watts told lowered now) a b) cause.OverPower ≡ None
is_no_cause x ac plan c i a b told lowered now e volts within current (inl at) =
    let l : moved c * i * phases_of plan.mode ≤ 105 * allowed_watts told lowered now = measured_by c.closed ac plan c i told (allowed_watts told lowered now) e volts within (told_allowed told lowered now) current in
    no_power x (is_over (phases_of plan.mode) (allowed_watts told lowered now) a b)
    (ap (λ (v : ℕ). is_over (phases_of plan.mode) (allowed_watts told lowered now) v b) at.0 ∙ ap (λ (z : ℕ). is_over (phases_of plan.mode) (allowed_watts told lowered now) (moved c) z) at.1
    ∙ not_over (phases_of plan.mode) (allowed_watts told lowered now) (moved c) i l)
is_no_cause x ac plan c i a b told lowered now e volts within current (inr at) =
    no_power x (is_over (phases_of plan.mode) (allowed_watts told lowered now) a b) (not_over (phases_of plan.mode) (allowed_watts told lowered now) a b (no_current a b (phases_of plan.mode) (allowed_watts told lowered now) at.1))
