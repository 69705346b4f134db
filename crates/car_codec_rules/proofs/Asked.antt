-- A request that a car asks can be spelled.
use Rattle.std.proofs.Common.{◌≡◌, ℕ, zero, suc, ◌<◌, ◌≤◌, Bool, true, false, if◌then◌else◌, IsTrue, [], ◌∷◌, All, length, Some, pos, refl, sym, subst, arith, lit≤}
use Rattle.std.proofs.lemmas.Int.{ints}
use Rattle.charge_world.specs.declared.offer.Dialect.{Dialect}
use Rattle.charge_world.specs.declared.offer.Dialect.TheVariants as dialect
use Rattle.session_words.specs.Modes.{CanSpeakDin}
use Rattle.session_words.specs.declared.limits.CarLimits.TheVariants as limits
use Rattle.session_words.specs.declared.mode.Mode.{Mode}
use Rattle.session_words.specs.declared.mode.Mode.TheVariants as mode
use Rattle.session_words.specs.declared.plan.CarPlan.{CarPlan}
use Rattle.session_words.specs.declared.word.Ask.TheVariants as ask
use Rattle.session_words.specs.declared.word.Request.{Request}
use Rattle.session_words.specs.declared.word.Word.TheVariants as word
use Rattle.session_rules.specs.Finishing.{is_ac}
use Rattle.session_rules.specs.Offers.{amount}
use Rattle.car_rules.specs.declared.stage.CarPhase.{CarPhase}
use Rattle.car_rules.specs.declared.stage.CarPhase.TheVariants as phase
use Rattle.car_rules.specs.declared.stage.CarStage.{CarStage}
use Rattle.car_rules.specs.Requests.{ask_of, request_of}
use Rattle.word_values.specs.Amounts.{can_write_tenths}
use Rattle.written_words.proofs.Numbers.{few_tenths}
use Rattle.iso_word_messages.specs.Spellable as iso_spellable
use Rattle.din_word_messages.specs.Spellable as din_spellable
use Rattle.car_codec.specs.Requests.{IsPlan}
use Rattle.car_codec_rules.specs.Asked.{IsTyped, IsTypedAsk, AskedAreSpelled, AskedHaveNoProfile}
use Rattle.car_codec_rules.specs.Profiles.{HasNoProfile}

all_one : {X : Type 0} (P : X → Type 0) (x : X) → P x → All P (x ∷ [])
all_one P x p zero d h = p
all_one P x p (suc k) d h = absurd (omega arith)

tenths_fit : (n : ℕ) → n ≤ 30000 → IsTrue (can_write_tenths n)
tenths_fit n h = few_tenths n (omega arith)

watts_fit : (plan : CarPlan) → IsPlan plan → plan.max_watts < 32768000
watts_fit plan h = let most : plan.max_watts ≤ 1000000 = h.rules.max_watts.1 in omega arith

-- ---- in ISO

iso_limits : (plan : CarPlan) (b : Bool) → IsPlan plan → iso_spellable.CanCarLimits
    (if b then limits.Ac (amount plan.max_current) (amount plan.min_current) (amount plan.max_voltage)
    else limits.Dc false plan.soc (amount plan.max_current) (Some (amount plan.max_watts)) (amount plan.max_voltage))
iso_limits plan true h = (tenths_fit plan.max_current h.max_current, tenths_fit plan.min_current h.min_current, tenths_fit plan.max_voltage h.max_voltage)
iso_limits plan false h = (h.rules.soc, tenths_fit plan.max_current h.max_current, watts_fit plan h, tenths_fit plan.max_voltage h.max_voltage)

iso_charging : (plan : CarPlan) (b : Bool) → IsPlan plan → iso_spellable.CanAsk
    (if b then ask.ChargingStatus else ask.CurrentDemand true plan.soc (amount plan.target_voltage) (amount plan.target_current))
iso_charging plan true h = tt
iso_charging plan false h = (h.rules.soc, tenths_fit plan.target_voltage h.target_voltage, tenths_fit plan.target_current h.target_current)

first_tuple : iso_spellable.IsTupleNumber (pos 1)
first_tuple = (omega (arith, ints), omega (arith, ints))

iso_fits : (plan : CarPlan) (p : CarPhase) → IsPlan plan → IsTypedAsk (ask_of plan dialect.Iso p) → iso_spellable.CanAsk (ask_of plan dialect.Iso p)
iso_fits plan phase.SettingUp h typed = let six : length plan.car_id ≡ 6 = h.car_id in (omega arith, typed)
iso_fits plan phase.Discovering h typed = tt
iso_fits plan phase.Selecting h typed = ((lit≤ tt, lit≤ tt), all_one iso_spellable.IsService 1 (lit≤ tt))
iso_fits plan phase.Authorizing h typed = tt
iso_fits plan phase.Asking h typed = iso_limits plan (is_ac plan.mode) h
iso_fits plan phase.CableChecking h typed = h.rules.soc
iso_fits plan phase.PreCharging h typed =
    (h.rules.soc, tenths_fit plan.target_voltage h.target_voltage, tenths_fit plan.target_current h.target_current)
iso_fits plan phase.Starting h typed = (first_tuple, tt)
iso_fits plan phase.Charging h typed = iso_charging plan (is_ac plan.mode) h
iso_fits plan phase.Stopping h typed = (first_tuple, tt)
iso_fits plan phase.Renegotiating h typed = (first_tuple, tt)
iso_fits plan (phase.Welding left) h typed = h.rules.soc
iso_fits plan phase.Ending h typed = tt

iso_asks : (plan : CarPlan) (s : CarStage) → dialect.Iso ≡ s.dialect → IsPlan plan → IsTypedAsk (ask_of plan s.dialect s.phase)
    → iso_spellable.CanAsk (ask_of plan s.dialect s.phase)
iso_asks plan s is h typed =
    subst (λ (d : Dialect). iso_spellable.CanAsk (ask_of plan d s.phase)) is
    (iso_fits plan s.phase h (subst (λ (d : Dialect). IsTypedAsk (ask_of plan d s.phase)) (sym is) typed))

-- ---- in DIN

direct : (m : Mode) → CanSpeakDin m → is_ac m ≡ false
direct mode.AcSinglePhaseCore h = absurd (cc)
direct mode.AcThreePhaseCore h = absurd (cc)
direct mode.DcCore h = refl
direct mode.DcExtended h = refl
direct mode.DcComboCore h = refl
direct mode.DcUnique h = absurd (cc)

din_limits : (plan : CarPlan) (b : Bool) → b ≡ false → IsPlan plan → din_spellable.CanCarLimits
    (if b then limits.Ac (amount plan.max_current) (amount plan.min_current) (amount plan.max_voltage)
    else limits.Dc false plan.soc (amount plan.max_current) (Some (amount plan.max_watts)) (amount plan.max_voltage))
din_limits plan true is h = absurd (cc)
din_limits plan false is h = (h.rules.soc, tenths_fit plan.max_current h.max_current, watts_fit plan h, tenths_fit plan.max_voltage h.max_voltage)

din_charging : (plan : CarPlan) (b : Bool) → b ≡ false → IsPlan plan → din_spellable.CanAsk
    (if b then ask.ChargingStatus else ask.CurrentDemand true plan.soc (amount plan.target_voltage) (amount plan.target_current))
din_charging plan true is h = absurd (cc)
din_charging plan false is h = (h.rules.soc, tenths_fit plan.target_voltage h.target_voltage, tenths_fit plan.target_current h.target_current)

din_fits : (plan : CarPlan) (p : CarPhase) → is_ac plan.mode ≡ false → (p ≡ phase.Renegotiating → ⊥) → IsPlan plan
    → IsTypedAsk (ask_of plan dialect.Din p) → din_spellable.CanAsk (ask_of plan dialect.Din p)
din_fits plan phase.SettingUp dc never h typed = let six : length plan.car_id ≡ 6 = h.car_id in (omega arith, typed)
din_fits plan phase.Discovering dc never h typed = tt
din_fits plan phase.Selecting dc never h typed = ((lit≤ tt, lit≤ tt), all_one din_spellable.IsService 1 (lit≤ tt))
din_fits plan phase.Authorizing dc never h typed = tt
din_fits plan phase.Asking dc never h typed = din_limits plan (is_ac plan.mode) dc h
din_fits plan phase.CableChecking dc never h typed = h.rules.soc
din_fits plan phase.PreCharging dc never h typed =
    (h.rules.soc, tenths_fit plan.target_voltage h.target_voltage, tenths_fit plan.target_current h.target_current)
din_fits plan phase.Starting dc never h typed = (tt, tt)
din_fits plan phase.Charging dc never h typed = din_charging plan (is_ac plan.mode) dc h
din_fits plan phase.Stopping dc never h typed = (tt, tt)
din_fits plan phase.Renegotiating dc never h typed = absurd (never refl)
din_fits plan (phase.Welding left) dc never h typed = h.rules.soc
din_fits plan phase.Ending dc never h typed = refl

din_asks : (plan : CarPlan) (s : CarStage) → dialect.Din ≡ s.dialect → is_ac plan.mode ≡ false → (s.phase ≡ phase.Renegotiating → ⊥) → IsPlan plan
    → IsTypedAsk (ask_of plan s.dialect s.phase) → din_spellable.CanAsk (ask_of plan s.dialect s.phase)
din_asks plan s is dc never h typed =
    subst (λ (d : Dialect). din_spellable.CanAsk (ask_of plan d s.phase)) is
    (din_fits plan s.phase dc never h (subst (λ (d : Dialect). IsTypedAsk (ask_of plan d s.phase)) (sym is) typed))

-- ---- in either

din_differs : dialect.Din ≡ dialect.Iso → ⊥
din_differs same = cc

pub asked_spelled : AskedAreSpelled
asked_spelled dialect.Iso request a typed =
    let own : IsTyped (request_of a.plan a.stage) = subst IsTyped a.request_is typed in
    subst (λ (r : Request). iso_spellable.CanSpell (word.Request r)) (sym a.request_is)
    ((own.few, own.bytes), iso_asks a.plan a.stage a.dialect_is a.is_plan own.ask)
asked_spelled dialect.Din request a typed =
    let own : IsTyped (request_of a.plan a.stage) = subst IsTyped a.request_is typed in
    let dc : is_ac a.plan.mode ≡ false = direct a.plan.mode (a.is_plan.rules.dialects.din a.offered) in
    let never : a.stage.phase ≡ phase.Renegotiating → ⊥ = λ is. din_differs (a.renegotiates is) in
    subst (λ (r : Request). din_spellable.CanSpell (word.Request r)) (sym a.request_is)
    ((own.few, own.bytes), din_asks a.plan a.stage a.dialect_is dc never a.is_plan own.ask)

-- ---- without a profile

charging_without : (plan : CarPlan) (b : Bool) → HasNoProfile
    (if b then ask.ChargingStatus else ask.CurrentDemand true plan.soc (amount plan.target_voltage) (amount plan.target_current))
charging_without plan true = tt
charging_without plan false = tt

without_profile : (plan : CarPlan) (d : Dialect) (p : CarPhase) → HasNoProfile (ask_of plan d p)
without_profile plan d phase.SettingUp = tt
without_profile plan d phase.Discovering = tt
without_profile plan d phase.Selecting = tt
without_profile plan d phase.Authorizing = tt
without_profile plan d phase.Asking = tt
without_profile plan d phase.CableChecking = tt
without_profile plan d phase.PreCharging = tt
without_profile plan d phase.Starting = tt
without_profile plan d phase.Charging = charging_without plan (is_ac plan.mode)
without_profile plan d phase.Stopping = tt
without_profile plan d phase.Renegotiating = tt
without_profile plan d (phase.Welding left) = tt
without_profile plan d phase.Ending = tt

pub asked_without_profile : AskedHaveNoProfile
asked_without_profile d request a =
    subst (λ (r : Request). HasNoProfile r.ask) (sym a.request_is) (without_profile a.plan a.stage.dialect a.stage.phase)
