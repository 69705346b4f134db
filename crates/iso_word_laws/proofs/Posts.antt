-- The replies of a post can be spelled.
use Rattle.std.proofs.Common.{◌≡◌, ℕ, ◌*◌, ◌<◌, ◌≤◌, Bool, true, false, if◌then◌else◌, ◌&&◌, nat_lt, IsTrue, pos, arith, refl, sym, ◌∙◌, subst, lit≤}
use Rattle.std.specs.Prelude.{IfSome}
use Rattle.std.proofs.lemmas.Int.{ints}
use Rattle.charge_world.specs.declared.offer.Dialect.{Dialect}
use Rattle.charge_world.specs.declared.offer.Dialect.TheVariants as dialect
use Rattle.session_words.specs.Modes.{offered_of as offered}
use Rattle.session_words.specs.Plans.{IsPostPlan}
use Rattle.session_words.specs.declared.code.Code.{Code}
use Rattle.session_words.specs.declared.code.Code.TheVariants as code
use Rattle.session_words.specs.declared.facts.Facts.{Facts}
use Rattle.session_words.specs.declared.mode.Mode.{Mode}
use Rattle.session_words.specs.declared.mode.Mode.TheVariants as mode
use Rattle.session_words.specs.declared.plan.PostPlan.{PostPlan}
use Rattle.session_words.specs.declared.word.Ask.{Ask}
use Rattle.session_words.specs.declared.word.Ask.TheVariants as ask
use Rattle.session_rules.specs.declared.stage.Stage.{Stage}
use Rattle.session_rules.specs.Finishing.{is_ac}
use Rattle.session_rules.specs.Laws.{is_code_of}
use Rattle.session_rules.specs.Moves.{stage_behind}
use Rattle.session_rules.specs.Offers.{amount, evse_of, scheduled_watts, ac_current_at, limits_of}
use Rattle.session_rules.specs.Reply.{evse_if_iso, schedule_if, tell_of}
use Rattle.session_rules.specs.Verdict.{verdict, is_accepted}
use Rattle.session_rules.proofs.VerdictLemmas.{answers_in_dialect}
use Rattle.iso_values.specs.Codes.{is_iso_code}
use Rattle.iso_values.specs.Modes.{is_iso_mode}
use Rattle.word_values.specs.Amounts.{can_write_tenths}
use Rattle.iso_word_messages.specs.Spellable.{CanEvse, IsSomeEvse, CanTuple, CanTuples, CanPostLimits, CanTell}
use Rattle.iso_word_laws.specs.Posts.{IsServiceOf, SpellsReplies, SpellsWaiting, SpellsTyped, SpellsTypedWaiting}
use Rattle.written_words.specs.Typed.{IsTypedTell}
use Rattle.written_words.specs.Posts.{ArePostBounds}
use Rattle.written_words.proofs.Numbers.{few_tenths}
use Rattle.written_words.proofs.Posts.{identifier_fits, behind_fits, all_one, tenths_fit, told_few}

-- ---- codes

iso_codes : (c : Code) → is_code_of dialect.Iso c ≡ is_iso_code c
iso_codes code.Ok = refl
iso_codes other = refl

code_fits : (d : Dialect) (c : Code) → d ≡ dialect.Iso → is_code_of d c ≡ true → IsTrue (is_iso_code c)
code_fits d c is h =
    let Is : Dialect → Type 0 = λ x. is_code_of x c ≡ true in
    let here : is_code_of dialect.Iso c ≡ true = subst Is is h in
    sym (iso_codes c) ∙ here

-- ---- what is told

evse_fits : (d : Dialect) (plan : PostPlan) → d ≡ dialect.Iso → IsPostPlan plan → CanEvse (evse_of d plan)
evse_fits dialect.Iso plan is p = (p.evse_id_ascii, p.evse_id.1)
evse_fits dialect.Din plan is p = absurd (cc)

evse_if_fits : (d : Dialect) (plan : PostPlan) → d ≡ dialect.Iso → IsPostPlan plan → IsSomeEvse (evse_if_iso d plan)
evse_if_fits dialect.Iso plan is p = (p.evse_id_ascii, p.evse_id.1)
evse_if_fits dialect.Din plan is p = absurd (cc)

mode_fits : (m : Mode) → IsTrue (is_iso_mode (offered m))
mode_fits mode.DcCore = refl
mode_fits other = refl

current_fits : (plan : PostPlan) (watts : ℕ) → IsTrue (can_write_tenths (ac_current_at plan watts))
current_fits plan watts = few_tenths (ac_current_at plan watts) (omega arith)

scheduled_few : (d : Dialect) (watts : ℕ) → watts ≤ 1000000 → scheduled_watts d watts < 32768000
scheduled_few dialect.Iso watts h = omega arith
scheduled_few dialect.Din watts h = omega arith

schedule_fits : (b : Bool) (d : Dialect) (watts : ℕ) → watts ≤ 1000000 → IfSome (schedule_if b d watts) CanTuples
schedule_fits true d watts h = (
  (lit≤ tt, lit≤ tt),
  all_one CanTuple (record { id = pos 1; entries = 1; least = amount (scheduled_watts d watts) })
      (record { id = (omega (arith, ints), omega (arith, ints)); entries = (lit≤ tt, lit≤ tt); least = scheduled_few d watts h }),
)
schedule_fits false d watts h = tt

limits_fit : (b : Bool) (d : Dialect) (s : Stage) (facts : Facts) (plan : PostPlan) (shown : ℕ) (c : Code) (a : Ask) (watts : ℕ)
    → IsPostPlan plan → ArePostBounds s facts plan shown → watts < 32768000 → CanPostLimits (limits_of b d facts plan c a watts)
limits_fit true d s facts plan shown c a watts p h few =
    let nominal : plan.nominal ≤ 1000 = p.nominal.1 in
    (few_tenths (10 * plan.nominal) (omega arith), current_fits plan watts)
limits_fit false d s facts plan shown c a watts p h few = (
  tenths_fit plan.max_current h.max_current,
  few,
  tenths_fit plan.max_voltage h.max_voltage,
  tenths_fit plan.min_current h.min_current,
  tenths_fit plan.min_voltage h.min_voltage,
  tenths_fit plan.ripple h.ripple,
)

told_fits : (s : Stage) (facts : Facts) (plan : PostPlan) (c : Code) (shown : ℕ) (a : Ask) → s.dialect ≡ dialect.Iso → IsPostPlan plan
    → ArePostBounds s facts plan shown → IsServiceOf a → CanTell (tell_of s facts plan c shown a)
told_fits s facts plan c shown (ask.SessionSetup car) is p h service = evse_fits s.dialect plan is p
told_fits s facts plan c shown ask.ServiceDiscovery is p h service =
    ((lit≤ tt, lit≤ tt), all_one (λ m. IsTrue (is_iso_mode m)) (offered plan.mode) (mode_fits plan.mode))
told_fits s facts plan c shown (ask.ServiceDetail service) is p h few = few
told_fits s facts plan c shown (ask.PaymentSelection external services) is p h service = tt
told_fits s facts plan c shown ask.Authorization is p h service = tt
told_fits s facts plan c shown (ask.ChargeParameters mode limits) is p h service = (
  schedule_fits (is_accepted c && nat_lt 0 shown) s.dialect shown h.most,
  limits_fit (is_ac plan.mode) s.dialect s facts plan shown c (ask.ChargeParameters mode limits) (if is_accepted c then shown else 0) p h
      (told_few (is_accepted c) shown 0 h.most (lit≤ tt)),
)
told_fits s facts plan c shown (ask.CableCheck ready soc) is p h service = tt
told_fits s facts plan c shown (ask.PreCharge ready soc voltage current) is p h service = tenths_fit facts.voltage h.voltage
told_fits s facts plan c shown (ask.PowerDelivery progress tuple profile) is p h service = tt
told_fits s facts plan c shown (ask.CurrentDemand ready soc voltage current) is p h service = (
  tenths_fit facts.voltage h.voltage,
  tenths_fit facts.current h.current,
  tenths_fit plan.max_voltage h.max_voltage,
  tenths_fit plan.max_current h.max_current,
  told_few (is_accepted c) shown s.told h.most h.told,
  evse_if_fits s.dialect plan is p,
)
told_fits s facts plan c shown ask.ChargingStatus is p h service =
    (evse_fits s.dialect plan is p, current_fits plan (if is_accepted c then shown else s.told))
told_fits s facts plan c shown (ask.WeldingDetection ready soc) is p h service = tenths_fit facts.voltage h.voltage
told_fits s facts plan c shown (ask.SessionStop pause) is p h service = tt

service_asked : (s : Stage) (facts : Facts) (plan : PostPlan) (c : Code) (shown : ℕ) (a : Ask) → IsTypedTell (tell_of s facts plan c shown a) → IsServiceOf a
service_asked s facts plan c shown (ask.ServiceDetail service) h = h
service_asked s facts plan c shown other h = tt

-- ---- replies

pub spells_replies : SpellsReplies
spells_replies s facts plan r shown is p h = (
  identifier_fits (stage_behind s facts plan r shown) (behind_fits s facts plan r shown h.session h.named),
  code_fits s.dialect (verdict s facts plan r) is (answers_in_dialect s facts plan r),
  told_fits s facts plan (verdict s facts plan r) shown r.ask is p h.post h.service,
)

pub spells_waiting : SpellsWaiting
spells_waiting s facts plan h = (identifier_fits s h, refl, tt)

pub spells_typed : SpellsTyped
spells_typed s facts plan r shown is p h typed = (
  (typed.few, typed.bytes),
  code_fits s.dialect (verdict s facts plan r) is (answers_in_dialect s facts plan r),
  told_fits s facts plan (verdict s facts plan r) shown r.ask is p h (service_asked s facts plan (verdict s facts plan r) shown r.ask typed.tell),
)

pub spells_typed_waiting : SpellsTypedWaiting
spells_typed_waiting s facts plan typed = ((typed.few, typed.bytes), refl, tt)
