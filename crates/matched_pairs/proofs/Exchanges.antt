-- The limits that an exchange orders are within the watts that its session is told.
use Rattle.std.proofs.Common.{◌≡◌, ℕ, ◌*◌, ◌≤◌, min, Bool, true, false, if◌then◌else◌, Option, Some, None, unwrap_or, refl, ap, sym, subst, ◌∙◌, ◌⊎◌, inl, inr, arith}
use Rattle.charge_world.specs.declared.offer.Dialect.{Dialect}
use Rattle.charge_world.specs.declared.ports.Order.{Order}
use Rattle.charge_world.specs.declared.ports.Order.TheVariants as order
use Rattle.session_words.specs.declared.phase.Phase.{Phase}
use Rattle.session_words.specs.declared.phase.Phase.TheVariants as row
use Rattle.session_words.specs.declared.plan.CarPlan.{CarPlan}
use Rattle.session_words.specs.declared.plan.PostPlan.{PostPlan}
use Rattle.session_words.specs.declared.word.Ask.{Ask}
use Rattle.session_words.specs.declared.word.Ask.TheVariants as ask
use Rattle.session_words.specs.Modes.{phases_of}
use Rattle.session_rules.specs.declared.stage.Stage.{Stage}
use Rattle.session_rules.specs.Asks.{shows_watts}
use Rattle.session_rules.specs.Finishing.{is_ac, is_finished}
use Rattle.session_rules.specs.Moves.{moved}
use Rattle.session_rules.specs.Offers.{amount, ac_current_at}
use Rattle.session_rules.specs.Orders.{granted_order, order_of}
use Rattle.session_rules.specs.Rows as rows
use Rattle.session_rules.specs.Stages.{confirmed_row}
use Rattle.session_rules.specs.Verdict.{verdict, is_accepted}
use Rattle.plant_sim.specs.Charger.{Limits}
use Rattle.station_spec.specs.Deciding.{opening_if}
use Rattle.station_spec.specs.Judging.{order_by}
use Rattle.car_rules.specs.declared.stage.CarPhase.{CarPhase}
use Rattle.car_rules.specs.declared.stage.CarPhase.TheVariants as phase
use Rattle.car_rules.specs.Requests.{ask_of}
use Rattle.car_spec.specs.Spelled.{dropped_ask}
use Rattle.pair_words.specs.Exchanges.{Both, Outside, asked, judged}
use Rattle.pair_words.specs.Meeting.{IsRowFor, Meets}
use Rattle.pair_words.specs.Laws.{end_of, IsAnswered}
use Rattle.matched_pairs.specs.Contactors.{is_late}
use Rattle.matched_pairs.proofs.Rows.{is_from_start, late_behind, accepts, moves}
use Rattle.matched_pairs.proofs.Watts.{IsZero, WithinTold, current_within}

false_true : false ≡ true → ⊥
false_true e = cc

none_some : {A : Type 0} (a : A) → None ≡ Some a → ⊥
none_some a e = cc

-- rows in which limits were ordered: the pre-charge, and those from PowerDelivery Start on
abbrev pub is_power : Phase → Bool
is_power row.DcPreCharging = true
is_power other = is_late other

late_power : (r : Phase) → is_late r ≡ true → is_power r ≡ true
late_power row.DcClosing e = refl
late_power row.AcClosing e = refl
late_power row.DcCharging e = refl
late_power row.DcStopped e = refl
late_power row.AcCharging e = refl
late_power row.AcStopped e = refl
late_power row.DcPreCharging e = refl
late_power row.Connected e = e
late_power row.Negotiated e = e
late_power row.SetUp e = e
late_power row.Discovered e = e
late_power row.Selected e = e
late_power row.Authorized e = e
late_power row.DcReady e = e
late_power row.DcChecked e = e
late_power row.AcReady e = e

pub power_confirmed : (r : Phase) → is_power r ≡ true → is_power (confirmed_row r) ≡ true
power_confirmed row.DcClosing e = refl
power_confirmed row.AcClosing e = refl
power_confirmed row.DcCharging e = refl
power_confirmed row.DcStopped e = refl
power_confirmed row.AcCharging e = refl
power_confirmed row.AcStopped e = refl
power_confirmed row.DcPreCharging e = refl
power_confirmed row.Connected e = e
power_confirmed row.Negotiated e = e
power_confirmed row.SetUp e = e
power_confirmed row.Discovered e = e
power_confirmed row.Selected e = e
power_confirmed row.Authorized e = e
power_confirmed row.DcReady e = e
power_confirmed row.DcChecked e = e
power_confirmed row.AcReady e = e

-- ---- the order of an exchange

abbrev pub charging : Bool → CarPlan → Ask
charging ac plan = if ac then ask.ChargingStatus else ask.CurrentDemand true plan.soc (amount plan.target_voltage) (amount plan.target_current)

taken : (b : Bool) (o : Option Order) (x : Order) → (if b then o else None) ≡ Some x → o ≡ Some x
taken true o x e = e
taken false o x e = absurd (none_some x e)

-- an order of limits, within the watts that are told behind it
pub record Granted (ac : Bool) (post : PostPlan) (v i w told : ℕ) : Type 0 where
  pub within : WithinTold ac post (record { voltage = v; current = i; watts = w }) told
  pub volts : ac ≡ true → v ≤ 10 * post.nominal

some_voltage : (a b c v i w : ℕ) → Some (order.Limits a b c) ≡ Some (order.Limits v i w) → a ≡ v
some_voltage a b c v i w e = cc

some_current : (a b c v i w : ℕ) → Some (order.Limits a b c) ≡ Some (order.Limits v i w) → b ≡ i
some_current a b c v i w e = cc

some_watts : (a b c v i w : ℕ) → Some (order.Limits a b c) ≡ Some (order.Limits v i w) → c ≡ w
some_watts a b c v i w e = cc

open_limits : (v i w : ℕ) → Some order.Open ≡ Some (order.Limits v i w) → ⊥
open_limits v i w e = cc

close_limits : (v i w : ℕ) → Some order.Close ≡ Some (order.Limits v i w) → ⊥
close_limits v i w e = cc

opening_limits : (live : Bool) (v i w : ℕ) → opening_if live ≡ Some (order.Limits v i w) → ⊥
opening_limits true v i w e = open_limits v i w e
opening_limits false v i w e = none_some (order.Limits v i w) e

charging_granted : (own ac b : Bool) (post : PostPlan) (plan : CarPlan) (told shown v i w new : ℕ) → own ≡ ac → new ≡ (if shows_watts (dropped_ask (charging own plan)) then shown else told)
    → (if b then granted_order post told shown (dropped_ask (charging own plan)) else None) ≡ Some (order.Limits v i w) → Granted ac post v i w new
charging_granted true true b post plan told shown v i w new e n g =
    let is : Some (order.Limits (10 * post.nominal) (ac_current_at post shown) shown) ≡ Some (order.Limits v i w) = taken b (Some (order.Limits (10 * post.nominal) (ac_current_at post shown) shown)) (order.Limits v i w) g in
    record {
      within = let held = current_within shown post.nominal (phases_of post.mode) in
          subst (λ (z : ℕ). z * post.nominal * phases_of post.mode ≤ 10 * new) (some_current _ _ _ v i w is)
          (subst (λ (z : ℕ). ac_current_at post shown * post.nominal * phases_of post.mode ≤ 10 * z) (sym n) held);
      volts = λ f. let same : 10 * post.nominal ≡ v = some_voltage _ _ _ v i w is in omega (arith, same);
    }
charging_granted false false b post plan told shown v i w new e n g =
    let is : granted_order post told shown (dropped_ask (charging false plan)) ≡ Some (order.Limits v i w) = taken b (granted_order post told shown (dropped_ask (charging false plan))) (order.Limits v i w) g in
    record {
      within = let same : shown ≡ w = some_watts _ _ _ v i w is in omega (arith, same, n);
      volts = λ f. absurd (false_true f);
    }
charging_granted true false b post plan told shown v i w new e n g = absurd (false_true (sym e))
charging_granted false true b post plan told shown v i w new e n g = absurd (false_true e)

direct : (ac : Bool) (post : PostPlan) (v i w told : ℕ) → ac ≡ false → w ≤ told → Granted ac post v i w told
direct false post v i w told e l = record { within = l; volts = λ f. absurd (false_true f) }
direct true post v i w told e l = absurd (false_true (sym e))

pub granted : (ph : CarPhase) (ac b live : Bool) (post : PostPlan) (plan : CarPlan) (d : Dialect) (r : Phase) (told shown v i w new : ℕ) → IsRowFor ac ph r → is_ac plan.mode ≡ ac
    → new ≡ (if shows_watts (dropped_ask (ask_of plan d ph)) then shown else told)
    → order_by (end_of ph) live (if b then granted_order post told shown (dropped_ask (ask_of plan d ph)) else None) ≡ Some (order.Limits v i w)
    → Granted ac post v i w new × ((ph ≡ phase.PreCharging) ⊎ (is_from_start ph ≡ true))
granted phase.PreCharging ac b live post plan d r told shown v i w new in_row own n g =
    let is : Some (order.Limits plan.target_voltage (min plan.target_current 20) told) ≡ Some (order.Limits v i w) = taken b (granted_order post told shown (dropped_ask (ask_of plan d phase.PreCharging))) (order.Limits v i w) g in
    let same : told ≡ w = some_watts _ _ _ v i w is in
    (direct ac post v i w new in_row.0 (omega (arith, same, n)), inl refl)
granted phase.Charging ac b live post plan d r told shown v i w new in_row own n g =
    (charging_granted (is_ac plan.mode) ac b post plan told shown v i w new own n g, inr refl)
granted phase.Starting ac b live post plan d r told shown v i w new in_row own n g = absurd (close_limits v i w (taken b (Some order.Close) (order.Limits v i w) g))
granted phase.Stopping ac b live post plan d r told shown v i w new in_row own n g = absurd (open_limits v i w (taken b (Some order.Open) (order.Limits v i w) g))
granted phase.Renegotiating ac b live post plan d r told shown v i w new in_row own n g = absurd in_row
granted (phase.Welding left) ac b live post plan d r told shown v i w new in_row own n g = absurd (none_some (order.Limits v i w) (taken b None (order.Limits v i w) g))
granted phase.Ending ac b live post plan d r told shown v i w new in_row own n g = absurd (opening_limits live v i w g)
granted phase.SettingUp ac b live post plan d r told shown v i w new in_row own n g = absurd (none_some (order.Limits v i w) (taken b None (order.Limits v i w) g))
granted phase.Discovering ac b live post plan d r told shown v i w new in_row own n g = absurd (none_some (order.Limits v i w) (taken b None (order.Limits v i w) g))
granted phase.Selecting ac b live post plan d r told shown v i w new in_row own n g = absurd (none_some (order.Limits v i w) (taken b None (order.Limits v i w) g))
granted phase.Authorizing ac b live post plan d r told shown v i w new in_row own n g = absurd (none_some (order.Limits v i w) (taken b None (order.Limits v i w) g))
granted phase.Asking ac b live post plan d r told shown v i w new in_row own n g = absurd (none_some (order.Limits v i w) (taken b None (order.Limits v i w) g))
granted phase.CableChecking ac b live post plan d r told shown v i w new in_row own n g = absurd (none_some (order.Limits v i w) (taken b None (order.Limits v i w) g))

-- ---- an exchange that orders no limits

abbrev pub NoLimits : Option Order → Type 0
NoLimits o = (v i w : ℕ) → o ≡ Some (order.Limits v i w) → ⊥

is_taken : (b : Bool) (o : Option Order) → b ≡ true → (if b then o else None) ≡ o
is_taken true o e = refl
is_taken false o e = absurd (false_true e)

charging_limits : (own b : Bool) (post : PostPlan) (plan : CarPlan) (told shown : ℕ) → b ≡ true → NoLimits (if b then granted_order post told shown (dropped_ask (charging own plan)) else None) → ⊥
charging_limits true b post plan told shown e n = n _ _ _ (is_taken b (granted_order post told shown (dropped_ask (charging true plan))) e)
charging_limits false b post plan told shown e n = n _ _ _ (is_taken b (granted_order post told shown (dropped_ask (charging false plan))) e)

not_power : (r own : Phase) → r ≡ own → is_power own ≡ false → is_power r ≡ true → ⊥
not_power r own e f p = false_true (sym (ap is_power e ∙ f) ∙ p)

pub keeps_told : (ph : CarPhase) (ac b live : Bool) (post : PostPlan) (plan : CarPlan) (d : Dialect) (r : Phase) (told shown : ℕ) → IsRowFor ac ph r → b ≡ true → is_power r ≡ true
    → NoLimits (order_by (end_of ph) live (if b then granted_order post told shown (dropped_ask (ask_of plan d ph)) else None))
    → (is_from_start ph ≡ true) × (shows_watts (dropped_ask (ask_of plan d ph)) ≡ false)
keeps_told phase.Starting ac b live post plan d r told shown in_row e p n = (refl, refl)
keeps_told phase.Stopping ac b live post plan d r told shown in_row e p n = (refl, refl)
keeps_told (phase.Welding left) ac b live post plan d r told shown in_row e p n = (refl, refl)
keeps_told phase.Ending ac b live post plan d r told shown in_row e p n = (refl, refl)
keeps_told phase.Charging ac b live post plan d r told shown in_row e p n = absurd (charging_limits (is_ac plan.mode) b post plan told shown e n)
keeps_told phase.PreCharging ac b live post plan d r told shown in_row e p n = absurd (n _ _ _ (is_taken b (granted_order post told shown (dropped_ask (ask_of plan d phase.PreCharging))) e))
keeps_told phase.Renegotiating ac b live post plan d r told shown in_row e p n = absurd in_row
keeps_told phase.SettingUp ac b live post plan d r told shown in_row e p n = absurd (not_power r row.Negotiated in_row refl p)
keeps_told phase.Discovering ac b live post plan d r told shown in_row e p n = absurd (not_power r row.SetUp in_row refl p)
keeps_told phase.Selecting ac b live post plan d r told shown in_row e p n = absurd (not_power r row.Discovered in_row refl p)
keeps_told phase.Authorizing ac b live post plan d r told shown in_row e p n = absurd (not_power r row.Selected in_row refl p)
keeps_told phase.Asking ac b live post plan d r told shown in_row e p n = absurd (not_power r row.Authorized in_row refl p)
keeps_told phase.CableChecking ac b live post plan d r told shown in_row e p n = absurd (not_power r row.DcReady in_row.1 refl p)

-- ---- behind an exchange

told_is : (post : PostPlan) (plan : CarPlan) (b : Both) (x : Outside) → IsAnswered post plan b x
    → (judged post plan b x).told ≡ (if shows_watts (dropped_ask (ask_of plan b.car.dialect b.car.phase)) then x.shown else b.post.told)
told_is post plan b x i =
    ap (λ (s : Stage). s.told) (moves (is_accepted (verdict b.post x.facts post (asked plan b.car))) (moved b.post x.facts post (asked plan b.car) x.shown) b.post (accepts _ i.accepted))

pre_charge_leads : (r : Phase) (plan : CarPlan) (d : Dialect) (finished in_ac : Bool) → (r ≡ row.DcChecked) ⊎ (r ≡ row.DcPreCharging)
    → is_power (unwrap_or (rows.leads r (dropped_ask (ask_of plan d phase.PreCharging)) finished in_ac) r) ≡ true
pre_charge_leads r plan d finished in_ac (inl e) = ap (λ (z : Phase). is_power (unwrap_or (rows.leads z (dropped_ask (ask_of plan d phase.PreCharging)) finished in_ac) z)) e
pre_charge_leads r plan d finished in_ac (inr e) = ap (λ (z : Phase). is_power (unwrap_or (rows.leads z (dropped_ask (ask_of plan d phase.PreCharging)) finished in_ac) z)) e

pub row_is : (post : PostPlan) (plan : CarPlan) (b : Both) (x : Outside) → Meets post b → IsAnswered post plan b x → (b.car.phase ≡ phase.PreCharging) ⊎ (is_from_start b.car.phase ≡ true)
    → is_power (judged post plan b x).row ≡ true
row_is post plan b x m i (inr e) = late_power (judged post plan b x).row (late_behind post plan b x m i e)
row_is post plan b x m i (inl e) =
    let in_row : IsRowFor (is_ac post.mode) phase.PreCharging b.post.row = subst (λ (p : CarPhase). IsRowFor (is_ac post.mode) p b.post.row) e m.in_row in
    ap (λ (s : Stage). is_power s.row) (moves (is_accepted (verdict b.post x.facts post (asked plan b.car))) (moved b.post x.facts post (asked plan b.car) x.shown) b.post (accepts _ i.accepted))
    ∙ ap (λ (p : CarPhase). is_power (unwrap_or (rows.leads b.post.row (dropped_ask (ask_of plan b.car.dialect p)) (is_finished x.facts post (dropped_ask (ask_of plan b.car.dialect p)) x.shown) (is_ac post.mode)) b.post.row)) e
    ∙ pre_charge_leads b.post.row plan b.car.dialect _ (is_ac post.mode) in_row.1

-- what is known of the ordered limits, by the row and the told watts of a session
abbrev pub IsPowered : PostPlan → Limits → Stage → Type 0
IsPowered post l s = ((is_power s.row ≡ true) × WithinTold (is_ac post.mode) post l s.told) ⊎ IsZero l

pub limited : (post : PostPlan) (plan : CarPlan) (b : Both) (x : Outside) (live : Bool) (v i w : ℕ) → Meets post b → IsAnswered post plan b x → is_ac plan.mode ≡ is_ac post.mode
    → order_by (end_of b.car.phase) live (order_of b.post x.facts post (asked plan b.car) x.shown) ≡ Some (order.Limits v i w)
    → IsPowered post (record { voltage = v; current = i; watts = w }) (judged post plan b x) × (is_ac post.mode ≡ true → v ≤ 10 * post.nominal)
limited post plan b x live v i w m a own g =
    let k = granted b.car.phase (is_ac post.mode) (is_accepted (verdict b.post x.facts post (asked plan b.car))) live post plan b.car.dialect b.post.row b.post.told x.shown v i w (judged post plan b x).told
    m.in_row own (told_is post plan b x a) g in
    let z : Granted (is_ac post.mode) post v i w (judged post plan b x).told = k.0 in
    (inl (row_is post plan b x m a k.1, z.within), z.volts)

pub unlimited : (post : PostPlan) (plan : CarPlan) (b : Both) (x : Outside) (live : Bool) (l : Limits) → Meets post b → IsAnswered post plan b x
    → NoLimits (order_by (end_of b.car.phase) live (order_of b.post x.facts post (asked plan b.car) x.shown)) → IsPowered post l b.post → IsPowered post l (judged post plan b x)
unlimited post plan b x live l m a n (inr z) = inr z
unlimited post plan b x live l m a n (inl p) =
    let k = keeps_told b.car.phase (is_ac post.mode) (is_accepted (verdict b.post x.facts post (asked plan b.car))) live post plan b.car.dialect b.post.row b.post.told x.shown
    m.in_row (accepts _ a.accepted) p.0 n in
    let same : (judged post plan b x).told ≡ b.post.told = told_is post plan b x a ∙ ap (λ (z : Bool). if z then x.shown else b.post.told) k.1 in
    inl (row_is post plan b x m a (inr k.0), subst (λ (t : ℕ). WithinTold (is_ac post.mode) post l t) (sym same) p.1)
