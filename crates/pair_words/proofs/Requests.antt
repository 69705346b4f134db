-- Each request of a car is one that conforms where both ends meet.
use Rattle.std.proofs.Common.{◌≡◌, ℕ, ◌≤◌, Bool, true, false, ◌&&◌, nat_lt, min, Some, is_some, refl, sym, ap, subst, ◌∙◌, ◌⊎◌, inl, inr, MatchBool, arith}
use Rattle.std.proofs.lemmas.Grind.{common_steps}
use Rattle.charge_world.specs.declared.offer.Dialect.{Dialect}
use Rattle.charge_world.specs.declared.offer.Dialect.TheVariants as dialect
use Rattle.session_words.specs.declared.facts.Facts.{Facts}
use Rattle.session_words.specs.declared.limits.CarLimits.{CarLimits}
use Rattle.session_words.specs.declared.limits.CarLimits.TheVariants as limits
use Rattle.session_words.specs.declared.phase.Phase.{Phase}
use Rattle.session_words.specs.declared.phase.Phase.TheVariants as row
use Rattle.session_words.specs.declared.plan.CarPlan.{CarPlan}
use Rattle.session_words.specs.declared.plan.PostPlan.{PostPlan}
use Rattle.session_words.specs.declared.session.SessionId.{SessionId}
use Rattle.session_words.specs.declared.word.Ask.{Ask}
use Rattle.session_words.specs.declared.word.Ask.TheVariants as ask
use Rattle.session_rules.specs.declared.stage.Stage.{Stage}
use Rattle.session_rules.specs.Finishing.{is_ac}
use Rattle.session_rules.specs.Laws.{IsNear}
use Rattle.session_rules.specs.Offers.{amount, spelled_watts}
use Rattle.session_rules.specs.Rows.{leads, is_spoken}
use Rattle.session_rules.specs.Stages.{is_set_up}
use Rattle.car_rules.specs.declared.stage.CarPhase.{CarPhase}
use Rattle.car_rules.specs.declared.stage.CarPhase.TheVariants as phase
use Rattle.car_rules.specs.Requests.{tuple_of, charging_ask, is_pause, pauses, limits_of, ask_of}
use Rattle.car_spec.specs.Spelled.{dropped_limits, dropped_ask}
use Rattle.conforming_runs.specs.Requests.{AreParameters, NamesTheTuple, IsMade}
use Rattle.pipe_spec.specs.Matched.{IsAcMatched, IsMatched}
use Rattle.pair_words.specs.Exchanges.{Outside}
use Rattle.pair_words.specs.Meeting.{ArePaired, power_row, IsRowFor, IsNamedAlike, IsNearFor, Suits}
use Rattle.pair_words.specs.Laws.{RequestsConform}

pub both_true : (a b : Bool) → a ≡ true → b ≡ true → (a && b) ≡ true
both_true true true ha hb = refl
both_true true false ha hb = hb
both_true false b ha hb = ha

-- ---- the row

-- some row follows
abbrev pub Takes : CarPhase → Phase → CarPlan → Dialect → Type 0
Takes ph r plan d = is_some (leads r (dropped_ask (ask_of plan d ph)) true true) ≡ true

charges : (ac : Bool) (plan : CarPlan) (d : Dialect) (r : Phase) → is_ac plan.mode ≡ ac → r ≡ power_row ac row.AcCharging row.DcCharging → Takes phase.Charging r plan d
charges true plan d r e h = rw (e, h) refl
charges false plan d r e h = rw (e, h) refl

power : (ac : Bool) (f : Phase → Bool) (alternating direct r : Phase) → r ≡ power_row ac alternating direct → f alternating ≡ true → f direct ≡ true → f r ≡ true
power true f alternating direct r h a b = ap f h ∙ a
power false f alternating direct r h a b = ap f h ∙ b

pre_charges : (plan : CarPlan) (d : Dialect) (r : Phase) → (r ≡ row.DcChecked) ⊎ (r ≡ row.DcPreCharging) → Takes phase.PreCharging r plan d
pre_charges plan d r (inl h) = rw h refl
pre_charges plan d r (inr h) = rw h refl

takes : (ph : CarPhase) (ac : Bool) (plan : CarPlan) (d : Dialect) (r : Phase) → is_ac plan.mode ≡ ac → IsRowFor ac ph r → Takes ph r plan d
takes phase.SettingUp ac plan d r e h = rw h refl
takes phase.Discovering ac plan d r e h = rw h refl
takes phase.Selecting ac plan d r e h = rw h refl
takes phase.Authorizing ac plan d r e h = rw h refl
takes phase.Asking ac plan d r e h = rw h refl
takes phase.CableChecking ac plan d r e h = let i = h.1 in rw i refl
takes phase.PreCharging ac plan d r e h = pre_charges plan d r h.1
takes phase.Starting ac plan d r e h = power ac (λ z. is_some (leads z (dropped_ask (ask_of plan d phase.Starting)) true true)) row.AcReady row.DcPreCharging r h refl refl
takes phase.Charging ac plan d r e h = charges ac plan d r e h
takes phase.Stopping ac plan d r e h = power ac (λ z. is_some (leads z (dropped_ask (ask_of plan d phase.Stopping)) true true)) row.AcCharging row.DcCharging r h refl refl
takes phase.Renegotiating ac plan d r e h = absurd h
takes (phase.Welding left) ac plan d r e h = let i = h.1 in rw i refl
takes phase.Ending ac plan d r e h = power ac (λ z. is_some (leads z (dropped_ask (ask_of plan d phase.Ending)) true true)) row.AcStopped row.DcStopped r h refl refl

-- both dialects have the request
pub charging_ac : (plan : CarPlan) → is_ac plan.mode ≡ true → charging_ask plan ≡ ask.ChargingStatus
charging_ac plan e = rw e refl

pub charging_dc : (plan : CarPlan) → is_ac plan.mode ≡ false → charging_ask plan ≡ ask.CurrentDemand true plan.soc (amount plan.target_voltage) (amount plan.target_current)
charging_dc plan e = rw e refl

charging_spoken : (ac : Bool) (plan : CarPlan) (d own : Dialect) → is_ac plan.mode ≡ ac → is_spoken d (dropped_ask (ask_of plan own phase.Charging)) ≡ true
charging_spoken true plan dialect.Iso own e = ap (λ (a : Ask). is_spoken dialect.Iso (dropped_ask a)) (charging_ac plan e)
charging_spoken true plan dialect.Din own e = ap (λ (a : Ask). is_spoken dialect.Din (dropped_ask a)) (charging_ac plan e)
charging_spoken false plan dialect.Iso own e = ap (λ (a : Ask). is_spoken dialect.Iso (dropped_ask a)) (charging_dc plan e)
charging_spoken false plan dialect.Din own e = ap (λ (a : Ask). is_spoken dialect.Din (dropped_ask a)) (charging_dc plan e)

spoken : (ph : CarPhase) (ac : Bool) (plan : CarPlan) (d own : Dialect) (r : Phase) → is_ac plan.mode ≡ ac → IsRowFor ac ph r → is_spoken d (dropped_ask (ask_of plan own ph)) ≡ true
spoken phase.Renegotiating ac plan d own r e h = absurd h
spoken phase.Charging ac plan d own r e h = charging_spoken ac plan d own e
spoken phase.SettingUp ac plan dialect.Iso own r e h = refl
spoken phase.SettingUp ac plan dialect.Din own r e h = refl
spoken phase.Discovering ac plan dialect.Iso own r e h = refl
spoken phase.Discovering ac plan dialect.Din own r e h = refl
spoken phase.Selecting ac plan dialect.Iso own r e h = refl
spoken phase.Selecting ac plan dialect.Din own r e h = refl
spoken phase.Authorizing ac plan dialect.Iso own r e h = refl
spoken phase.Authorizing ac plan dialect.Din own r e h = refl
spoken phase.Asking ac plan dialect.Iso own r e h = refl
spoken phase.Asking ac plan dialect.Din own r e h = refl
spoken phase.CableChecking ac plan dialect.Iso own r e h = refl
spoken phase.CableChecking ac plan dialect.Din own r e h = refl
spoken phase.PreCharging ac plan dialect.Iso own r e h = refl
spoken phase.PreCharging ac plan dialect.Din own r e h = refl
spoken phase.Starting ac plan dialect.Iso own r e h = refl
spoken phase.Starting ac plan dialect.Din own r e h = refl
spoken phase.Stopping ac plan dialect.Iso own r e h = refl
spoken phase.Stopping ac plan dialect.Din own r e h = refl
spoken (phase.Welding left) ac plan dialect.Iso own r e h = refl
spoken (phase.Welding left) ac plan dialect.Din own r e h = refl
spoken phase.Ending ac plan dialect.Iso own r e h = refl
spoken phase.Ending ac plan dialect.Din own r e h = refl

-- ---- what the request holds

some_of : (a b : ℕ) → 1 ≤ a → 1 ≤ b → 1 ≤ min a b
some_of a b ha hb = grind (arith, common_steps)

spelled_by : (w : ℕ) (a b c : Bool) → nat_lt w 32768 ≡ a → nat_lt w 327680 ≡ b → nat_lt w 3276800 ≡ c → 1 ≤ w → 1 ≤ spelled_watts w
spelled_by w true b c ea eb ec h = rw ea h
spelled_by w false true c ea eb ec h = rw (ea, eb) (grind (arith, common_steps))
spelled_by w false false true ea eb ec h = rw (ea, eb, ec) (grind (arith, common_steps))
spelled_by w false false false ea eb ec h = rw (ea, eb, ec) (grind (arith, common_steps))

spelled_some : (w : ℕ) → 1 ≤ w → 1 ≤ spelled_watts w
spelled_some w h = spelled_by w _ _ _ refl refl refl h

ac_matched : (post : PostPlan) (plan : CarPlan) → IsMatched post plan → is_ac post.mode ≡ true → IsAcMatched post plan
ac_matched post plan m e = let a = m.ac in subst (λ (b : Bool). MatchBool b (IsAcMatched post plan) (Unit {0})) e a

limits_ac : (plan : CarPlan) → is_ac plan.mode ≡ true → limits_of plan ≡ limits.Ac (amount plan.max_current) (amount plan.min_current) (amount plan.max_voltage)
limits_ac plan e = rw e refl

limits_dc : (plan : CarPlan) → is_ac plan.mode ≡ false
    → limits_of plan ≡ limits.Dc false plan.soc (amount plan.max_current) (Some (amount plan.max_watts)) (amount plan.max_voltage)
limits_dc plan e = rw e refl

pub parameters : (ac : Bool) (post : PostPlan) (plan : CarPlan) → ArePaired post plan → is_ac post.mode ≡ ac → is_ac plan.mode ≡ ac → AreParameters post plan.mode (dropped_limits (limits_of plan))
parameters true post plan p e f =
    let m : IsMatched post plan = p.matched in
    let a : IsAcMatched post plan = ac_matched post plan m e in
    let of_post = p.of_post in
    let watts = of_post.max_watts in
    subst (λ (l : CarLimits). AreParameters post plan.mode (dropped_limits l)) (sym (limits_ac plan f)) (record {
      mode_is = sym m.mode;
      can_take = rw e (record { units = record { volts = refl; amperes = refl }; within = a.gives });
      some_watts = some_of 1000000 _ (omega arith) (some_of post.max_watts _ watts.0 a.takes);
    })
parameters false post plan p e f =
    let m : IsMatched post plan = p.matched in
    let of_post = p.of_post in
    let of_car = p.of_car in
    let watts = of_post.max_watts in
    let own = of_car.max_watts in
    subst (λ (l : CarLimits). AreParameters post plan.mode (dropped_limits l)) (sym (limits_dc plan f)) (record {
      mode_is = sym m.mode;
      can_take = rw e (record { units = record { volts = refl; amperes = refl }; watts_unit = refl; volts = m.voltage; amperes = m.current });
      some_watts = some_of 1000000 _ (omega arith) (some_of post.max_watts _ watts.0 (spelled_some plan.max_watts own.0));
    })

own_tuple : (own : Dialect) → NamesTheTuple own (tuple_of own)
own_tuple dialect.Iso = refl
own_tuple dialect.Din = refl

tuple : (d own : Dialect) → d ≡ own → NamesTheTuple d (tuple_of own)
tuple d own e = subst (λ (x : Dialect). NamesTheTuple x (tuple_of own)) (sym e) (own_tuple own)

charging_made : (ac : Bool) (s : Stage) (facts : Facts) (post : PostPlan) (plan : CarPlan) (d : Dialect) → is_ac plan.mode ≡ ac → IsMade s facts post (dropped_ask (ask_of plan d phase.Charging))
charging_made true s facts post plan d e = rw e tt
charging_made false s facts post plan d e = rw e (record { volts = refl; amperes = refl })

near_by : (ac : Bool) (s : Stage) → s.row ≡ power_row ac row.AcReady row.DcPreCharging → IsNearFor phase.Starting ac s.pre_charge → s.row ≡ row.DcPreCharging → IsNear s.pre_charge
near_by true s h n i = absurd (let x : row.AcReady ≡ row.DcPreCharging = sym h ∙ i in cc)
near_by false s h n i = n

-- a car whose plan terminates never pauses
no_pause : (plan : CarPlan) (d : Dialect) → is_pause plan.stop ≡ false → pauses plan d ≡ false
no_pause plan dialect.Iso e = e
no_pause plan dialect.Din e = refl

pub never_pauses : (post : PostPlan) (plan : CarPlan) (d : Dialect) → IsMatched post plan → pauses plan d ≡ false
never_pauses post plan d m = no_pause plan d (ap is_pause m.terminates)

stop_made : (pause : Bool) (s : Stage) (facts : Facts) (post : PostPlan) → pause ≡ false → IsMade s facts post (ask.SessionStop pause)
stop_made true s facts post e = absurd (let x : true ≡ false = e in cc)
stop_made false s facts post e = tt

made : (ph : CarPhase) (ac : Bool) (s : Stage) (x : Outside) (post : PostPlan) (plan : CarPlan) (d : Dialect) → ArePaired post plan → is_ac post.mode ≡ ac → is_ac plan.mode ≡ ac → s.dialect ≡ d
    → IsRowFor ac ph s.row → IsNearFor ph ac s.pre_charge → Suits ph x → IsMade s x.facts post (dropped_ask (ask_of plan d ph))
made phase.SettingUp ac s x post plan d p e f i h n u = tt
made phase.Discovering ac s x post plan d p e f i h n u = tt
made phase.Selecting ac s x post plan d p e f i h n u = (refl, (refl, tt))
made phase.Authorizing ac s x post plan d p e f i h n u = tt
made phase.Asking ac s x post plan d p e f i h n u = parameters ac post plan p e f
made phase.CableChecking ac s x post plan d p e f i h n u = u
made phase.PreCharging ac s x post plan d p e f i h n u = let m = p.matched in (record { volts = refl; amperes = refl }, m.target)
made phase.Starting ac s x post plan d p e f i h n u = record {
  delivery = record { tuple_is = tuple s.dialect d i; profile_is = refl };
  ready = u.0;
  opened = u.1;
  near = near_by ac s h n;
}
made phase.Charging ac s x post plan d p e f i h n u = charging_made ac s x.facts post plan d f
made phase.Stopping ac s x post plan d p e f i h n u = record { tuple_is = tuple s.dialect d i; profile_is = refl }
made phase.Renegotiating ac s x post plan d p e f i h n u = absurd h
made (phase.Welding left) ac s x post plan d p e f i h n u = tt
made phase.Ending ac s x post plan d p e f i h n u = stop_made (pauses plan d) s x.facts post (never_pauses post plan d p.matched)

-- ---- its name

named : (ph : CarPhase) (ac : Bool) (r : Phase) (own given : SessionId) → IsRowFor ac ph r → IsNamedAlike ph own given → is_set_up r ≡ true → own ≡ given
named phase.SettingUp ac r own given h n u = absurd (let x : false ≡ true = sym (ap is_set_up h) ∙ u in cc)
named phase.Discovering ac r own given h n u = n
named phase.Selecting ac r own given h n u = n
named phase.Authorizing ac r own given h n u = n
named phase.Asking ac r own given h n u = n
named phase.CableChecking ac r own given h n u = n
named phase.PreCharging ac r own given h n u = n
named phase.Starting ac r own given h n u = n
named phase.Charging ac r own given h n u = n
named phase.Stopping ac r own given h n u = n
named phase.Renegotiating ac r own given h n u = n
named (phase.Welding left) ac r own given h n u = n
named phase.Ending ac r own given h n u = n

pub same_kind : (post : PostPlan) (plan : CarPlan) → IsMatched post plan → is_ac plan.mode ≡ is_ac post.mode
same_kind post plan m = sym (ap is_ac m.mode)

pub requests_conform : RequestsConform
requests_conform post plan b x p m u =
    let kind : is_ac plan.mode ≡ is_ac post.mode = same_kind post plan p.matched in
    record {
      in_row = both_true _ _ (spoken b.car.phase (is_ac post.mode) plan b.post.dialect b.car.dialect b.post.row kind m.in_row)
          (takes b.car.phase (is_ac post.mode) plan b.car.dialect b.post.row kind m.in_row);
      named = named b.car.phase (is_ac post.mode) b.post.row b.car.session b.post.session m.in_row m.named;
      made = made b.car.phase (is_ac post.mode) b.post x post plan b.car.dialect p refl kind m.dialect m.in_row m.near u;
    }
