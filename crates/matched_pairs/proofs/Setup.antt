-- Once SessionSetup was replied to, no later reply leads before it.
use Rattle.std.proofs.Common.{◌≡◌, ℕ, ◌-◌, Bool, true, false, ◌==◌, if◌then◌else◌, List, Option, Some, None, Result, Ok, Err, refl, ap, sym, subst, ◌∙◌}
use Rattle.std.specs.Option.{option_map}
use Rattle.charge_world.specs.declared.offer.Dialect.{Dialect}
use Rattle.session_words.specs.declared.cause.EndCause.{EndCause}
use Rattle.session_words.specs.declared.plan.CarPlan.{CarPlan}
use Rattle.session_words.specs.declared.word.Reply.{Reply}
use Rattle.session_words.specs.declared.word.Tell.{Tell}
use Rattle.session_words.specs.declared.word.Word.{Word}
use Rattle.session_words.specs.declared.word.Word.TheVariants as word
use Rattle.v2gtp_frames.specs.declared.FrameFault.{FrameFault}
use Rattle.v2gtp_frames.specs.Reading.{whole_at}
use Rattle.session_rules.specs.Finishing.{is_ac}
use Rattle.post_spec.specs.Kinds.{says_finished}
use Rattle.post_spec.specs.Steps.{Event}
use Rattle.car_rules.specs.declared.stage.CarPhase.{CarPhase}
use Rattle.car_rules.specs.declared.stage.CarPhase.TheVariants as phase
use Rattle.car_rules.specs.declared.stage.CarStage.{CarStage}
use Rattle.car_rules.specs.Deadlines.{awaits_setup}
use Rattle.car_rules.specs.Moves.{is_again, is_pre_charged, renews, stops, leads, stage_behind}
use Rattle.car_rules.specs.Replies.{is_setting_up, reply_cause}
use Rattle.car_spec.specs.Codecs.{Judged, Chosen, Told, WrongSide, Refused, Codecs, Judges, judged_word}
use Rattle.car_spec.specs.States.{Session, State, is_done}
use Rattle.car_spec.specs.Deciding.{decided}
use Rattle.car_spec.specs.Acting.{awaiting}
use Rattle.car_spec.specs.Hearing.{session_heard}
use Rattle.car_spec.specs.Judging.{dialect_of, payload_by, payload_in, moved, replied_by, replied, judged, judged_in, IsRead}
use Rattle.car_spec.specs.Next.{MayRead}
use Rattle.matched_pairs.proofs.CarPhases.{same_session}
use Rattle.matched_pairs.specs.Paces.{IsSetUpAtOnce}

true_false : (b : Bool) → b ≡ true → b ≡ false → ⊥
true_false b e f = cc

-- ---- the phases behind a reply

either_phase : (b : Bool) (x y : CarPhase) → is_setting_up x ≡ false → is_setting_up y ≡ false → is_setting_up (if b then x else y) ≡ false
either_phase true x y e f = e
either_phase false x y e f = f

welds : (n : ℕ) → is_setting_up (if n == 0 then phase.Ending else phase.Welding (n - 1)) ≡ false
welds n = either_phase (n == 0) phase.Ending (phase.Welding (n - 1)) refl refl

leads_on : (plan : CarPlan) (d : Dialect) (ph : CarPhase) (told : Tell) (stopping : Bool) → is_setting_up (leads plan d ph told stopping) ≡ false
leads_on plan d phase.SettingUp told stopping = refl
leads_on plan d phase.Discovering told stopping = refl
leads_on plan d phase.Selecting told stopping = refl
leads_on plan d phase.Authorizing told stopping = either_phase (says_finished told) phase.Asking phase.Authorizing refl refl
leads_on plan d phase.Asking told stopping =
    either_phase (says_finished told) (if is_ac plan.mode then phase.Starting else phase.CableChecking) phase.Asking (either_phase (is_ac plan.mode) phase.Starting phase.CableChecking refl refl) refl
leads_on plan d phase.CableChecking told stopping = either_phase (says_finished told) phase.PreCharging phase.CableChecking refl refl
leads_on plan d phase.PreCharging told stopping = either_phase (is_pre_charged plan.target_voltage told) phase.Starting phase.PreCharging refl refl
leads_on plan d phase.Starting told stopping = refl
leads_on plan d phase.Charging told stopping =
    either_phase stopping phase.Stopping (if renews d told then phase.Renegotiating else phase.Charging) refl (either_phase (renews d told) phase.Renegotiating phase.Charging refl refl)
leads_on plan d phase.Stopping told stopping =
    either_phase (is_ac plan.mode) phase.Ending (if plan.welding == 0 then phase.Ending else phase.Welding (plan.welding - 1)) refl (welds plan.welding)
leads_on plan d phase.Renegotiating told stopping = refl
leads_on plan d (phase.Welding left) told stopping = welds left
leads_on plan d phase.Ending told stopping = refl

-- ---- a word

abbrev pub IsNotChosen : Judged → Type 0
IsNotChosen (Chosen dialect) = ⊥
IsNotChosen other = Unit {0}

word_not : (w : Option Word) → IsNotChosen (judged_word w)
word_not None = tt
word_not (Some (word.Request request)) = tt
word_not (Some (word.Reply reply)) = tt
word_not (Some word.Nothing) = tt

judges_not : (c : Codecs) (items : List Dialect) (o : Option Dialect) (d : Dialect) (payload : List ℕ) (w : Judged) → o ≡ Some d → Judges c items o payload w → IsNotChosen w
judges_not c items o d payload w e j =
    let k = subst (λ (x : Option Dialect). Judges c items x payload w) e j in
    subst IsNotChosen (sym k.2) (word_not k.0)

by_front : (r : Result (Option ℕ) FrameFault) (c : Codecs) (plan : CarPlan) (y : Session) (stage : CarStage) (w : Judged) → y.stage ≡ Some stage → IsRead c plan (payload_by r y) w → IsNotChosen w
by_front (Err fault) c plan y stage w e i = absurd i
by_front (Ok None) c plan y stage w e i = absurd i
by_front (Ok (Some n)) c plan y stage w e i = judges_not c plan.dialects.items (dialect_of y.stage) stage.dialect _ w (ap dialect_of e) i

by_done : (b : Bool) (c : Codecs) (plan : CarPlan) (y : Session) (stage : CarStage) (w : Judged) → y.stage ≡ Some stage → IsRead c plan (if b then payload_in (Some y) else None) w → IsNotChosen w
by_done true c plan y stage w e i = by_front (whole_at y.unread) c plan y stage w e i
by_done false c plan y stage w e i = absurd i

not_chosen : (c : Codecs) (plan : CarPlan) (k : State) (y : Session) (stage : CarStage) (w : Judged) → (decided plan k).session ≡ Some y → y.stage ≡ Some stage → MayRead c plan k w → IsNotChosen w
not_chosen c plan k y stage w e g i =
    by_done (is_done (decided plan k).agenda) c plan y stage w g
    (subst (λ (o : Option Session). IsRead c plan (if is_done (decided plan k).agenda then payload_in o else None) w) e i)

abbrev pub ReadsSetUp : ℕ → State → Type 0
ReadsSetUp now k = IsSetUpAtOnce now k.session

moved_setup : (b : Bool) (now : ℕ) (plan : CarPlan) (s : State) (session : Session) (from to : CarStage) (r : Reply) → is_again from.phase to.phase ≡ b → is_setting_up to.phase ≡ false
    → ReadsSetUp now (moved plan s session from r to)
moved_setup true now plan s session from to r e n = rw e (λ i. absurd (true_false (is_setting_up to.phase) i n))
moved_setup false now plan s session from to r e n = rw e (λ i. absurd (true_false (is_setting_up to.phase) i n))

replied_setup : (why : Option EndCause) (now : ℕ) (plan : CarPlan) (s : State) (session : Session) (stage : CarStage) (r : Reply) → IsSetUpAtOnce now (Some session)
    → ReadsSetUp now (replied_by why plan s session stage r)
replied_setup (Some cause) now plan s session stage r k = k
replied_setup None now plan s session stage r k =
    moved_setup _ now plan s session stage (stage_behind plan stage r session.stop) r refl
    (leads_on plan stage.dialect stage.phase r.tell (stops plan stage.cycles session.stop r.tell))

told_setup : (o : Option CarStage) (now : ℕ) (plan : CarPlan) (s : State) (session : Session) (r : Reply) → IsSetUpAtOnce now (Some session) → ReadsSetUp now (replied plan s session o r)
told_setup None now plan s session r k = k
told_setup (Some stage) now plan s session r k = replied_setup (reply_cause plan stage _ r) now plan s session stage r k

word_setup : (w : Judged) (now : ℕ) (plan : CarPlan) (s : State) (session : Session) → IsNotChosen w → IsSetUpAtOnce now (Some session) → ReadsSetUp now (judged plan s session w)
word_setup (Chosen None) now plan s session n k = absurd n
word_setup (Chosen (Some d)) now plan s session n k = absurd n
word_setup (Told r) now plan s session n k = told_setup session.stage now plan s session r k
word_setup WrongSide now plan s session n k = k
word_setup Refused now plan s session n k = k

at_zero : (o : Option Session) (now : ℕ) → now ≡ 0 → IsSetUpAtOnce now o
at_zero None now e = tt
at_zero (Some y) now e = λ i. e

by_stage : (o : Option CarStage) (now : ℕ) (c : Codecs) (plan : CarPlan) (k : State) (y : Session) (w : Judged) → y.stage ≡ o → (decided plan k).session ≡ Some y → MayRead c plan k w → IsSetUpAtOnce now (Some y)
    → ReadsSetUp now (judged plan (decided plan k) y w)
by_stage None now c plan k y w g e i s = at_zero (judged plan (decided plan k) y w).session now (s (ap awaits_setup g))
by_stage (Some stage) now c plan k y w g e i s = word_setup w now plan (decided plan k) y (not_chosen c plan k y stage w e g i) s

by_session : (o : Option Session) (now : ℕ) (c : Codecs) (plan : CarPlan) (k : State) (w : Judged) → (decided plan k).session ≡ o → MayRead c plan k w → IsSetUpAtOnce now o
    → ReadsSetUp now (judged_in plan (decided plan k) o w)
by_session None now c plan k w e i s = subst (IsSetUpAtOnce now) (sym e) tt
by_session (Some y) now c plan k w e i s = by_stage y.stage now c plan k y w refl e i s

pub reads_setup : (now : ℕ) (c : Codecs) (plan : CarPlan) (k : State) (w : Judged) → MayRead c plan k w → IsSetUpAtOnce now k.session
    → ReadsSetUp now (judged_in plan (decided plan k) (decided plan k).session w)
reads_setup now c plan k w i s = by_session (decided plan k).session now c plan k w refl i (subst (IsSetUpAtOnce now) (sym (same_session plan k)) s)

-- ---- all else

pub hears_setup : (event : Event) (at now : ℕ) (o : Option Session) → session_heard event at None ≡ None → IsSetUpAtOnce now o → IsSetUpAtOnce now (session_heard event at o)
hears_setup event at now None n k = subst (IsSetUpAtOnce now) (sym n) tt
hears_setup event at now (Some y) n k = k

pub says_setup : (o : Option Session) (now clock : ℕ) → IsSetUpAtOnce now o → IsSetUpAtOnce now (option_map (awaiting clock) o)
says_setup None now clock k = tt
says_setup (Some y) now clock k = k

-- time passes in later phases alone
pub passes_setup : (event : Event) (at now : ℕ) (o : Option Session) (y : Session) (stage : CarStage) → o ≡ Some y → y.stage ≡ Some stage → is_setting_up stage.phase ≡ false → IsSetUpAtOnce now (session_heard event at o)
passes_setup event at now o y stage e g n =
    subst (λ (z : Option Session). IsSetUpAtOnce now (session_heard event at z)) (sym e)
    (λ i. absurd (true_false (awaits_setup y.stage) i (ap awaits_setup g ∙ n)))
