-- The replies of a post can be spelled.
use Rattle.std.proofs.Common.{Contains, ◌≡◌, ℕ, ◌<◌, ◌≤◌, Bool, true, false, if◌then◌else◌, ◌&&◌, nat_lt, IsTrue, All, Option, Some, None, pos, arith, refl, sym, ◌∙◌, subst, lit≤}
use Rattle.std.specs.Prelude.{IfSome}
use Rattle.std.proofs.lemmas.Int.{ints}
use Rattle.charge_world.specs.declared.heard.IsolationLevel.{IsolationLevel}
use Rattle.charge_world.specs.declared.heard.IsolationLevel.TheVariants as level
use Rattle.charge_world.specs.declared.offer.Dialect.{Dialect}
use Rattle.charge_world.specs.declared.offer.Dialect.TheVariants as dialect
use Rattle.session_words.specs.Modes.{offered_of as offered, CanSpeakDin}
use Rattle.session_words.specs.Plans.{IsPostPlan}
use Rattle.session_words.specs.declared.code.Code.{Code}
use Rattle.session_words.specs.declared.code.Code.TheVariants as code
use Rattle.session_words.specs.declared.code.Processing.TheVariants as processing
use Rattle.session_words.specs.declared.code.Progress.TheVariants as progress
use Rattle.session_words.specs.declared.facts.Facts.{Facts}
use Rattle.session_words.specs.declared.mode.Mode.{Mode}
use Rattle.session_words.specs.declared.mode.Mode.TheVariants as mode
use Rattle.session_words.specs.declared.plan.PostPlan.{PostPlan}
use Rattle.session_words.specs.declared.word.Ask.{Ask}
use Rattle.session_words.specs.declared.word.Ask.TheVariants as ask
use Rattle.session_rules.specs.declared.stage.Stage.{Stage}
use Rattle.session_rules.specs.Finishing.{is_ac, is_finished}
use Rattle.session_rules.specs.Status.{isolation_told, post_status}
use Rattle.session_rules.specs.Laws.{is_code_of}
use Rattle.session_rules.specs.Moves.{stage_behind}
use Rattle.session_rules.specs.Offers.{amount, evse_of, scheduled_watts, limits_of}
use Rattle.session_rules.specs.Reply.{awaiting, processing_of, evse_if_iso, schedule_if, tell_of}
use Rattle.session_rules.specs.Verdict.{verdict, is_accepted}
use Rattle.session_rules.proofs.VerdictLemmas.{answers_in_dialect}
use Rattle.din_values.specs.Codes.{is_din_code}
use Rattle.din_values.specs.Modes.{is_din_mode}
use Rattle.din_values.specs.States.{is_din_level, is_din_processing}
use Rattle.din_word_messages.specs.Spellable.{IsByte, CanEvse, IsNoEvse, CanTuple, CanTuples, CanPostStatus, CanPostLimits, CanTell}
use Rattle.din_word_laws.specs.Posts.{IsSpoken, SpellsReplies, SpellsWaiting, SpellsTyped, SpellsTypedWaiting}
use Rattle.written_words.specs.Typed.{IsTypedEvse, IsTypedTell}
use Rattle.written_words.specs.Posts.{ArePostBounds}
use Rattle.written_words.proofs.Posts.{identifier_fits, behind_fits, all_one, tenths_fit, told_few}

-- ---- codes

din_codes : (c : Code) → is_code_of dialect.Din c ≡ is_din_code c
din_codes code.Ok = refl
din_codes other = refl

code_fits : (d : Dialect) (c : Code) → d ≡ dialect.Din → is_code_of d c ≡ true → IsTrue (is_din_code c)
code_fits d c is h =
    let Is : Dialect → Type 0 = λ x. is_code_of x c ≡ true in
    let here : is_code_of dialect.Din c ≡ true = subst Is is h in
    sym (din_codes c) ∙ here

-- ---- what is told

evse_fits : (d : Dialect) (plan : PostPlan) → d ≡ dialect.Din → IsPostPlan plan → All IsByte plan.evse_id_din.items → CanEvse (evse_of d plan)
evse_fits dialect.Din plan is p all = (p.evse_id_din.1, all)
evse_fits dialect.Iso plan is p all = absurd (cc)

no_evse : (d : Dialect) (plan : PostPlan) → d ≡ dialect.Din → IsNoEvse (evse_if_iso d plan)
no_evse dialect.Din plan is = tt
no_evse dialect.Iso plan is = absurd (cc)

mode_fits : (m : Mode) → CanSpeakDin m → IsTrue (is_din_mode (offered m))
mode_fits mode.DcUnique h = absurd (cc)
mode_fits other h = refl

direct : (m : Mode) → CanSpeakDin m → is_ac m ≡ false
direct mode.AcSinglePhaseCore h = absurd (cc)
direct mode.AcThreePhaseCore h = absurd (cc)
direct mode.DcUnique h = absurd (cc)
direct other h = refl

level_fits : (d : Dialect) (l : Option IsolationLevel) → d ≡ dialect.Din → IfSome (isolation_told d l) (λ x. IsTrue (is_din_level x))
level_fits dialect.Din None is = tt
level_fits dialect.Din (Some level.Invalid) is = refl
level_fits dialect.Din (Some other) is = refl
level_fits dialect.Iso l is = absurd (cc)

status_fits : (b : Bool) (d : Dialect) (facts : Facts) (c : Code) (a : Ask) → b ≡ false → d ≡ dialect.Din → CanPostStatus (post_status b d facts c a)
status_fits false d facts c a direct_is is = level_fits d facts.isolation is
status_fits true d facts c a direct_is is = absurd (cc)

finished_fits : (b c : Bool) → IsTrue (is_din_processing (processing_of processing.Ongoing b c))
finished_fits true true = refl
finished_fits true false = refl
finished_fits false c = refl

awaiting_fits : (d : Dialect) (b c : Bool) → d ≡ dialect.Din → IsTrue (is_din_processing (processing_of (awaiting d) b c))
awaiting_fits dialect.Din b c is = finished_fits b c
awaiting_fits dialect.Iso b c is = absurd (cc)

scheduled_few : (d : Dialect) (watts : ℕ) → d ≡ dialect.Din → scheduled_watts d watts ≤ 32767
scheduled_few dialect.Din watts is = omega arith
scheduled_few dialect.Iso watts is = absurd (cc)

schedule_fits : (b : Bool) (d : Dialect) (watts : ℕ) → d ≡ dialect.Din → IfSome (schedule_if b d watts) CanTuples
schedule_fits true d watts is = (
  (lit≤ tt, lit≤ tt),
  all_one CanTuple (record { id = pos 1; entries = 1; least = amount (scheduled_watts d watts) })
      (record { id = (omega (arith, ints), omega (arith, ints)); entries = (lit≤ tt, lit≤ tt); least = record { few = scheduled_few d watts is; right = refl } }),
)
schedule_fits false d watts is = tt

limits_fit : (b : Bool) (d : Dialect) (s : Stage) (facts : Facts) (plan : PostPlan) (shown : ℕ) (c : Code) (a : Ask) (watts : ℕ)
    → b ≡ false → d ≡ dialect.Din → ArePostBounds s facts plan shown → watts < 32768000 → CanPostLimits (limits_of b d facts plan c a watts)
limits_fit true d s facts plan shown c a watts direct_is is h few = absurd (cc)
limits_fit false d s facts plan shown c a watts direct_is is h few = (
  level_fits d facts.isolation is,
  tenths_fit plan.max_current h.max_current,
  few,
  tenths_fit plan.max_voltage h.max_voltage,
  tenths_fit plan.min_current h.min_current,
  tenths_fit plan.min_voltage h.min_voltage,
  tenths_fit plan.ripple h.ripple,
)

-- the bytes of the post's identifier, where it is told
abbrev IsTellable : PostPlan → Ask → Type 0
IsTellable plan (ask.SessionSetup car) = All IsByte plan.evse_id_din.items
IsTellable plan other = Unit {0}

told_fits : (s : Stage) (facts : Facts) (plan : PostPlan) (c : Code) (shown : ℕ) (a : Ask) → s.dialect ≡ dialect.Din → IsPostPlan plan
    → Contains plan.dialects.items dialect.Din → ArePostBounds s facts plan shown → IsSpoken a → IsTellable plan a → CanTell (tell_of s facts plan c shown a)
told_fits s facts plan c shown (ask.SessionSetup car) is p offers h spoken tellable = evse_fits s.dialect plan is p tellable
told_fits s facts plan c shown ask.ServiceDiscovery is p offers h spoken tellable =
    (refl, all_one (λ m. IsTrue (is_din_mode m)) (offered plan.mode) (mode_fits plan.mode (p.dialects.din offers)))
told_fits s facts plan c shown (ask.ServiceDetail service) is p offers h spoken tellable = absurd spoken
told_fits s facts plan c shown (ask.PaymentSelection external services) is p offers h spoken tellable = tt
told_fits s facts plan c shown ask.Authorization is p offers h spoken tellable = awaiting_fits s.dialect (is_accepted c) (is_finished facts plan ask.Authorization shown) is
told_fits s facts plan c shown (ask.ChargeParameters mode limits) is p offers h spoken tellable = (
  finished_fits (is_accepted c) (nat_lt 0 shown),
  schedule_fits (is_accepted c && nat_lt 0 shown) s.dialect shown is,
  limits_fit (is_ac plan.mode) s.dialect s facts plan shown c (ask.ChargeParameters mode limits) (if is_accepted c then shown else 0)
      (direct plan.mode (p.dialects.din offers)) is h (told_few (is_accepted c) shown 0 h.most (lit≤ tt)),
)
told_fits s facts plan c shown (ask.CableCheck ready soc) is p offers h spoken tellable =
    (level_fits s.dialect facts.isolation is, finished_fits (is_accepted c) (is_finished facts plan (ask.CableCheck ready soc) shown))
told_fits s facts plan c shown (ask.PreCharge ready soc voltage current) is p offers h spoken tellable =
    (level_fits s.dialect facts.isolation is, tenths_fit facts.voltage h.voltage)
told_fits s facts plan c shown (ask.PowerDelivery progress tuple profile) is p offers h spoken tellable =
    status_fits (is_ac plan.mode) s.dialect facts c (ask.PowerDelivery progress tuple profile) (direct plan.mode (p.dialects.din offers)) is
told_fits s facts plan c shown (ask.CurrentDemand ready soc voltage current) is p offers h spoken tellable = (
  level_fits s.dialect facts.isolation is,
  tenths_fit facts.voltage h.voltage,
  tenths_fit facts.current h.current,
  tenths_fit plan.max_voltage h.max_voltage,
  tenths_fit plan.max_current h.max_current,
  told_few (is_accepted c) shown s.told h.most h.told,
  no_evse s.dialect plan is,
)
told_fits s facts plan c shown ask.ChargingStatus is p offers h spoken tellable = absurd spoken
told_fits s facts plan c shown (ask.WeldingDetection ready soc) is p offers h spoken tellable =
    (level_fits s.dialect facts.isolation is, tenths_fit facts.voltage h.voltage)
told_fits s facts plan c shown (ask.SessionStop pause) is p offers h spoken tellable = tt

known_bytes : (plan : PostPlan) (a : Ask) → All IsByte plan.evse_id_din.items → IsTellable plan a
known_bytes plan (ask.SessionSetup car) h = h
known_bytes plan other h = tt

evse_bytes : (d : Dialect) (plan : PostPlan) → d ≡ dialect.Din → IsTypedEvse (evse_of d plan) → All IsByte plan.evse_id_din.items
evse_bytes dialect.Din plan is h = h
evse_bytes dialect.Iso plan is h = absurd (cc)

told_bytes : (s : Stage) (facts : Facts) (plan : PostPlan) (c : Code) (shown : ℕ) (a : Ask) → s.dialect ≡ dialect.Din
    → IsTypedTell (tell_of s facts plan c shown a) → IsTellable plan a
told_bytes s facts plan c shown (ask.SessionSetup car) is h = evse_bytes s.dialect plan is h
told_bytes s facts plan c shown other is h = tt

-- ---- replies

pub spells_replies : SpellsReplies
spells_replies s facts plan r shown is p h = (
  identifier_fits (stage_behind s facts plan r shown) (behind_fits s facts plan r shown h.session h.named),
  code_fits s.dialect (verdict s facts plan r) is (answers_in_dialect s facts plan r),
  told_fits s facts plan (verdict s facts plan r) shown r.ask is p h.offered h.post h.spoken (known_bytes plan r.ask h.evse),
)

pub spells_waiting : SpellsWaiting
spells_waiting s facts plan is p offers h = (
  identifier_fits s h,
  refl,
  status_fits (is_ac plan.mode) s.dialect facts code.Ok (ask.PowerDelivery progress.Start None None) (direct plan.mode (p.dialects.din offers)) is,
)

pub spells_typed : SpellsTyped
spells_typed s facts plan r shown is p offers h spoken typed = (
  (typed.few, typed.bytes),
  code_fits s.dialect (verdict s facts plan r) is (answers_in_dialect s facts plan r),
  told_fits s facts plan (verdict s facts plan r) shown r.ask is p offers h spoken (told_bytes s facts plan (verdict s facts plan r) shown r.ask is typed.tell),
)

pub spells_typed_waiting : SpellsTypedWaiting
spells_typed_waiting s facts plan is p offers typed = (
  (typed.few, typed.bytes),
  refl,
  status_fits (is_ac plan.mode) s.dialect facts code.Ok (ask.PowerDelivery progress.Start None None) (direct plan.mode (p.dialects.din offers)) is,
)
