-- What ends a session for whoever reads a trace ends it in the run, and the other way round.
use Rattle.std.proofs.Common.{◌≡◌, ◌≤◌, ◌<◌, ℕ, Bool, true, false, if◌then◌else◌, List, [], ◌∷◌, map, Option, Some, None, is_some, refl, sym, ap, subst, ◌∙◌, inl, inr, ◌⊎◌}
use Rattle.charge_world.specs.declared.heard.PilotState.{PilotState}
use Rattle.charge_world.specs.declared.heard.PilotState.TheVariants as pilot
use Rattle.charge_world.specs.declared.heard.PlantEvent.{PlantEvent}
use Rattle.charge_world.specs.declared.heard.PlantEvent.TheVariants as plant
use Rattle.charge_world.specs.declared.offer.Dialect.{Dialect}
use Rattle.charge_world.specs.declared.ports.Order.{Order}
use Rattle.charge_world.specs.declared.ports.Order.TheVariants as order
use Rattle.session_words.specs.declared.cause.EndCause.{EndCause}
use Rattle.session_words.specs.declared.cause.EndCause.TheVariants as cause
use Rattle.session_words.specs.declared.phase.Standing.{Standing}
use Rattle.session_words.specs.declared.phase.Standing.TheVariants as standing
use Rattle.session_words.specs.declared.plan.PostPlan.{PostPlan}
use Rattle.session_timers.specs.Due.{never}
use Rattle.session_rules.specs.Causes.{is_pilot_lost, plant_cause, word_cause, cause_if}
use Rattle.post_spec.specs.Causes as causes
use Rattle.post_spec.specs.Causes.{IsCause, watch, found_word}
use Rattle.post_spec.specs.Contactors as contactors
use Rattle.post_spec.specs.Contactors.{live, live_behind, live_as_told}
use Rattle.post_spec.specs.Course.{Talked, Course, course}
use Rattle.post_spec.specs.Facts.{now}
use Rattle.post_spec.specs.Sessions.{session, stream, waits}
use Rattle.post_spec.specs.Steps.{Event, Came, Bytes, Gone, Datagram, Plant, Clock, Over, Act, Give, Send, Answer, End, Seen, Heard, Did, Reading, Step, Hears, Does, seen_of}
use Rattle.post_spec.specs.Talk.{Exchange, Negotiation, Talks}
use Rattle.post_spec.specs.Words.{HeardWord, Words, next_words}
use Rattle.read_runs.specs.Courses.{talked_in}
use Rattle.station_spec.specs.States.{Session}
use Rattle.station_spec.specs.Acting.{state}
use Rattle.read_runs.proofs.Courses.{courses_are_read}
use Rattle.read_runs.proofs.Facts.{facts_are_read}
use Rattle.coming_causes_open.specs.Causing.{Comes}
use Rattle.coming_causes_open.specs.Causing as coming
use Rattle.standing_causes_open.proofs.Coming.{act_before}
use Rattle.told_pasts.specs.Causes as told_causes
use Rattle.told_pasts.specs.Causes.{heard_cause, ComesNext, ComesWith, HasCause}
use Rattle.told_pasts.specs.Course.{told_course}
use Rattle.told_pasts.specs.Spelling.{ToldCodecs}
use Rattle.told_pasts.specs.Steps as told
use Rattle.told_pasts.specs.Steps.{Said, Response, Replied, ToldStep, seen_in}
use Rattle.told_pasts.specs.Reading.{IsNext}
use Rattle.told_pasts.specs.Talk.{exchange_by, exchange_of, talk}
use Rattle.own_traces.proofs.Saying.{SaidSo, WasResponse, WasReply}
use Rattle.own_traces.specs.Owning.{TellsOwn}
use Rattle.own_traces.proofs.Talks.{AllSaid, talk_is, sent_replies}
use Rattle.own_traces.proofs.Told.{IsToldRun, IsOtherAct}
use Rattle.own_courses.proofs.Alike.{Known, as_one}
use Rattle.own_courses.proofs.Hands.{Going}

-- ---- a step that is told, and that of the run

pub data Aligned : ToldStep → Step → Type 0 where
  AtHearing : (at : ℕ) (event : Event) → Aligned (told.Hears at event) (Hears at event)
  AtAct : (r q : Option Reading) (a : Act) (taken : Bool) → IsOtherAct a → Aligned (told.Does r a taken) (Does q a taken)
  AtSending : (r q : Option Reading) (bytes : List ℕ) (taken : Bool) (said : Said) → Aligned (told.Sends r bytes taken said) (Does q (Send bytes) taken)

heard_one : (at n : ℕ) (e f : Event) (xs ys : List Seen) → Heard at e ∷ xs ≡ Heard n f ∷ ys → Hears at e ≡ Hears n f
heard_one at n e f xs ys h = cc

did_one : (a b : Act) (t u : Bool) (q : Option Reading) (xs ys : List Seen) → Did a t ∷ xs ≡ Did b u ∷ ys → Does q a t ≡ Does q b u
did_one a b t u q xs ys h = cc

pub aligned : (c : ToldCodecs) (plan : PostPlan) (t : ToldStep) (old : List ToldStep) (s : Step) (steps : List Step) → Known c plan (t ∷ old) (s ∷ steps) → Aligned t s
aligned c plan (told.Hears at e) old (Hears n f) steps k = subst (Aligned (told.Hears at e)) (heard_one at n e f (seen_in old) (map seen_of steps) k.same) (AtHearing at e)
aligned c plan (told.Hears at e) old (Does q b u) steps k = let x = k.same in cc
aligned c plan (told.Does r a t) old (Hears n f) steps k = let x = k.same in cc
aligned c plan (told.Does r a t) old (Does q b u) steps k = subst (Aligned (told.Does r a t)) (did_one a b t u q (seen_in old) (map seen_of steps) k.same) (AtAct r q a t k.told.2)
aligned c plan (told.Sends r bytes t said) old (Hears n f) steps k = let x = k.same in cc
aligned c plan (told.Sends r bytes t said) old (Does q b u) steps k = subst (Aligned (told.Sends r bytes t said)) (did_one (Send bytes) b t u q (seen_in old) (map seen_of steps) k.same) (AtSending r q bytes t said)

-- ---- what the charger told

if_some : (b : Bool) (x k : EndCause) → cause_if b x ≡ Some k → (b ≡ true) × (x ≡ k)
if_some true x k h = (refl, cc)
if_some false x k h = cc

lost_more : (l : Bool) (state : PilotState) → is_pilot_lost false state ≡ true → is_pilot_lost l state ≡ true
lost_more l pilot.A h = refl
lost_more l pilot.B h = cc
lost_more l pilot.C h = cc
lost_more l pilot.D h = cc
lost_more l pilot.E h = refl
lost_more l pilot.F h = refl

lost_behind : (st : Standing) (l : Bool) (state : PilotState) → is_pilot_lost (live_behind st l) state ≡ true → is_pilot_lost l state ≡ true
lost_behind standing.MustOpen l state h = lost_more l state h
lost_behind standing.Opened l state h = h
lost_behind standing.Closing l state h = h
lost_behind standing.Closed l state h = h
lost_behind standing.Opening l state h = h

-- a contactor that is live as it is told is live
told_more : (plan : PostPlan) (t : Talked) (past : List Seen) (at : ℕ) (event : PlantEvent) (k : EndCause) → plant_cause (watch plan t past (live_as_told past) at) event ≡ Some k → plant_cause (watch plan t past (live past) at) event ≡ Some k
told_more plan t past at (plant.Pilot state) k h =
    let x = if_some (is_pilot_lost (live_as_told past) state) cause.PilotLost k h in
    let y = lost_behind (contactors.standing past) (live past) state x.0 in
    ap (λ (b : Bool). cause_if b cause.PilotLost) y ∙ ap Some x.1
told_more plan t past at (plant.Isolation level) k h = h
told_more plan t past at (plant.Measured voltage current) k h = h
told_more plan t past at (plant.Feedback closed) k h = h
told_more plan t past at plant.Paid k h = h
told_more plan t past at plant.Emergency k h = h
told_more plan t past at plant.StopAsked k h = h
told_more plan t past at plant.RenewAsked k h = h

-- but where it must be opened
pub as_told : (st : Standing) (l : Bool) → (st ≡ standing.MustOpen) ⊎ (live_behind st l ≡ l)
as_told standing.MustOpen l = inl refl
as_told standing.Opened l = inr refl
as_told standing.Closing l = inr refl
as_told standing.Closed l = inr refl
as_told standing.Opening l = inr refl

-- ---- sessions

talked_of_some : (kept : Option Session) → is_some kept ≡ true → (t : Talked) × (talked_in kept ≡ Some t)
talked_of_some None h = cc
talked_of_some (Some ss) h = (_, refl)

some_of : (o : Option (List Seen)) → is_some o ≡ true → (es : List Seen) × (o ≡ Some es)
some_of None h = cc
some_of (Some es) h = (es, refl)

-- a session of the past is one of the course
lives_told : (c : ToldCodecs) (plan : PostPlan) (old : List ToldStep) (steps : List Step) (es : List Seen) → Known c plan old steps → Going c plan old steps → session (map seen_of steps) ≡ Some es → (t : Talked) × ((told_course plan old).session ≡ Some t)
lives_told c plan old steps es k g h =
    let x = talked_of_some (state plan steps).session ((facts_are_read plan steps).session_is ∙ ap is_some h) in
    (x.0, g.alike.session_is ∙ sym (courses_are_read c.words plan steps k.all.laws.run).session_is ∙ x.1)

none_talked : {A : Type 0} (t : Talked) → None ≡ Some t → A
none_talked t h = cc

kept_some : (kept : Option Session) (t : Talked) → talked_in kept ≡ Some t → is_some kept ≡ true
kept_some None t h = none_talked t h
kept_some (Some ss) t h = refl

-- and the other way round
pub lives_run : (c : ToldCodecs) (plan : PostPlan) (old : List ToldStep) (steps : List Step) (t : Talked) → Known c plan old steps → Going c plan old steps → (told_course plan old).session ≡ Some t → (es : List Seen) × (session (map seen_of steps) ≡ Some es)
lives_run c plan old steps t k g h =
    let x = kept_some (state plan steps).session t ((courses_are_read c.words plan steps k.all.laws.run).session_is ∙ sym g.alike.session_is ∙ h) in
    some_of (session (map seen_of steps)) (sym (facts_are_read plan steps).session_is ∙ x)

-- ---- a word

-- what the next word is found to be is one
pub found_one : (c : ToldCodecs) (plan : PostPlan) (old : List ToldStep) (steps : List Step) (t : Talked) (word : HeardWord) → Known c plan old steps → Going c plan old steps → (course plan steps).session ≡ Some t
    → found_word t (seen_in old) (told_course plan old) plan word ≡ found_word t (map seen_of steps) (course plan steps) plan word
found_one c plan old steps t word k g led =
    ap (λ (xs : List Seen). found_word t xs (told_course plan old) plan word) k.same ∙ ap (λ (x : Course). found_word t (map seen_of steps) x plan word) (as_one (map seen_of steps) (told_course plan old) (course plan steps) t g.alike led)

next_told : (t : ToldStep) (s : Step) (old : List ToldStep) (steps : List Step) → Aligned t s → coming.IsNext (s ∷ steps) → ComesNext (t ∷ old)
next_told t s old steps (AtHearing at (Bytes bytes)) n = tt
next_told t s old steps (AtHearing at (Came token)) n = n
next_told t s old steps (AtHearing at Gone) n = n
next_told t s old steps (AtHearing at (Datagram bytes)) n = n
next_told t s old steps (AtHearing at (Plant event)) n = n
next_told t s old steps (AtHearing at Clock) n = n
next_told t s old steps (AtHearing at Over) n = n
next_told t s old steps (AtAct r q (Give order.Close) true o) n = tt
next_told t s old steps (AtAct r q (Give order.Close) false o) n = n
next_told t s old steps (AtAct r q (Give order.Open) taken o) n = n
next_told t s old steps (AtAct r q (Give (order.Limits voltage current watts)) taken o) n = n
next_told t s old steps (AtAct r q (Send bytes) taken o) n = absurd o
next_told t s old steps (AtAct r q (Answer bytes) taken o) n = n
next_told t s old steps (AtAct r q (End k) taken o) n = n
next_told t s old steps (AtSending r q bytes true said) n = tt
next_told t s old steps (AtSending r q bytes false said) n = n

-- ---- a negotiation that matched nothing

chosen_none : (chosen : Option Dialect) → Negotiation (if is_some chosen then chosen else None) ≡ Negotiation None → chosen ≡ None
chosen_none None h = refl
chosen_none (Some d) h = cc

exchange_head : (x y : Exchange) (xs ys : List Exchange) → x ∷ xs ≡ y ∷ ys → x ≡ y
exchange_head x y xs ys h = cc

none_matched : (c : ToldCodecs) (plan : PostPlan) (past : List Seen) (bytes : List ℕ) (said : Said) (r : Option Reading) (old : List ToldStep) → SaidSo c plan past bytes said → exchange_by said past ≡ Negotiation None → ComesWith c plan (told.Sends r bytes true said ∷ old) cause.NoNegotiation
none_matched c plan past bytes said r old (WasResponse chosen response payload first neg shut e) h =
    let n = chosen_none chosen h in
    subst (λ (x : Option Dialect). ComesWith c plan (told.Sends r bytes true (Response x (is_some chosen)) ∷ old) cause.NoNegotiation) (sym n) (told_causes.HasNoMatch r bytes (is_some chosen) old)
none_matched c plan past bytes said r old (WasReply request d reply payload watts first speaks single ok encodes e spells) h = cc

-- ---- which step it is

pub record IsTHeard (olds : List ToldStep) (at : ℕ) (e : Event) : Type 0 where
  pub old : List ToldStep
  pub is : olds ≡ told.Hears at e ∷ old

told_heard : (olds : List ToldStep) (at : ℕ) (e : Event) (past : List Seen) → seen_in olds ≡ Heard at e ∷ past → IsTHeard olds at e
told_heard [] at e past h = cc
told_heard (told.Hears n f ∷ old) at e past h =
    let x : n ≡ at = cc in
    let y : f ≡ e = cc in
    record { old = old; is = ap (λ (m : ℕ). told.Hears m f ∷ old) x ∙ ap (λ (z : Event). told.Hears at z ∷ old) y }
told_heard (told.Does r a t ∷ old) at e past h = cc
told_heard (told.Sends r bytes t said ∷ old) at e past h = cc

pub record IsTGave (olds : List ToldStep) (o : Order) (taken : Bool) : Type 0 where
  pub r : Option Reading
  pub old : List ToldStep
  pub is : olds ≡ told.Does r (Give o) taken ∷ old

told_gave : (olds : List ToldStep) (o : Order) (taken : Bool) (past : List Seen) → seen_in olds ≡ Did (Give o) taken ∷ past → IsTGave olds o taken
told_gave [] o taken past h = cc
told_gave (told.Hears n f ∷ old) o taken past h = cc
told_gave (told.Does r a t ∷ old) o taken past h =
    let x : a ≡ Give o = cc in
    let y : t ≡ taken = cc in
    record { r = r; old = old; is = ap (λ (z : Act). told.Does r z t ∷ old) x ∙ ap (λ (z : Bool). told.Does r (Give o) z ∷ old) y }
told_gave (told.Sends r bytes t said ∷ old) o taken past h = cc

pub record IsTSent (olds : List ToldStep) (bytes : List ℕ) (taken : Bool) : Type 0 where
  pub r : Option Reading
  pub said : Said
  pub old : List ToldStep
  pub is : olds ≡ told.Sends r bytes taken said ∷ old

told_sent : (c : ToldCodecs) (plan : PostPlan) (olds : List ToldStep) (bytes : List ℕ) (taken : Bool) (past : List Seen) → IsToldRun c plan olds → seen_in olds ≡ Did (Send bytes) taken ∷ past → IsTSent olds bytes taken
told_sent c plan [] bytes taken past run h = cc
told_sent c plan (told.Hears n f ∷ old) bytes taken past run h = cc
told_sent c plan (told.Does r a t ∷ old) bytes taken past run h =
    let x : a ≡ Send bytes = cc in
    absurd (subst IsOtherAct x run.2)
told_sent c plan (told.Sends r b t said ∷ old) bytes taken past run h =
    let x : b ≡ bytes = cc in
    let y : t ≡ taken = cc in
    record { r = r; said = said; old = old; is = ap (λ (z : List ℕ). told.Sends r z t said ∷ old) x ∙ ap (λ (z : Bool). told.Sends r bytes z said ∷ old) y }

-- ---- a cause that comes in the run comes in what is told

abbrev pub Come : ToldCodecs → PostPlan → List ToldStep → Type 0
Come c plan olds = (k : EndCause) × ComesWith c plan olds k

due_told : (c : ToldCodecs) (plan : PostPlan) (olds : List ToldStep) (alls : List Step) (t : Talked) (es : List Seen) → Known c plan olds alls → Going c plan olds alls → (course plan alls).session ≡ Some t → session (map seen_of alls) ≡ Some es
    → causes.due (Some t) es ≤ now (map seen_of alls) → causes.due (Some t) es < never → coming.IsHeard alls → Come c plan olds
due_told c plan olds [] t es k g led here reached bound heard = absurd heard
due_told c plan olds (Hears at e ∷ steps) t es k g led here reached bound heard =
    let x = told_heard olds at e (map seen_of steps) k.same in
    let led2 : (told_course plan (told.Hears at e ∷ x.old)).session ≡ Some t = subst (λ (us : List ToldStep). (told_course plan us).session ≡ Some t) x.is (g.alike.session_is ∙ led) in
    let here2 : session (seen_in (told.Hears at e ∷ x.old)) ≡ Some es = subst (λ (us : List ToldStep). session (seen_in us) ≡ Some es) x.is (ap session k.same ∙ here) in
    subst (Come c plan) (sym x.is) (_, told_causes.IsDue at e x.old t es led2 here2 reached bound)
due_told c plan olds (Does q a taken ∷ steps) t es k g led here reached bound heard = absurd heard

-- what was heard, in a session
heard_told : (c : ToldCodecs) (plan : PostPlan) (olds : List ToldStep) (at : ℕ) (e : Event) (steps : List Step) (why : EndCause) → Known c plan olds (Hears at e ∷ steps) → Going c plan olds (Hears at e ∷ steps) → (t : Talked) → (told_course plan olds).session ≡ Some t
    → heard_cause plan t (map seen_of steps) at e ≡ Some why → Come c plan olds
heard_told c plan olds at e steps why k g t led h =
    let x = told_heard olds at e (map seen_of steps) k.same in
    let led2 : (told_course plan (told.Hears at e ∷ x.old)).session ≡ Some t = subst (λ (us : List ToldStep). (told_course plan us).session ≡ Some t) x.is led in
    let same : seen_in (told.Hears at e ∷ x.old) ≡ map seen_of (Hears at e ∷ steps) = subst (λ (us : List ToldStep). seen_in us ≡ map seen_of (Hears at e ∷ steps)) x.is k.same in
    let rest : seen_in x.old ≡ map seen_of steps = cc in
    let here : heard_cause plan t (seen_in x.old) at e ≡ Some why = subst (λ (xs : List Seen). heard_cause plan t xs at e ≡ Some why) (sym rest) h in
    subst (Come c plan) (sym x.is) (why, told_causes.IsHeard at e x.old t why led2 here)

gone_told : (c : ToldCodecs) (plan : PostPlan) (olds : List ToldStep) (at : ℕ) (e : Event) (steps : List Step) (es : List Seen) (why : EndCause) → Known c plan olds (Hears at e ∷ steps) → Going c plan olds (Hears at e ∷ steps) → session (map seen_of (Hears at e ∷ steps)) ≡ Some es
    → ((t : Talked) → heard_cause plan t (map seen_of steps) at e ≡ Some why) → Come c plan olds
gone_told c plan olds at e steps es why k g here h =
    let t = lives_told c plan olds (Hears at e ∷ steps) es k g here in
    heard_told c plan olds at e steps why k g t.0 t.1 (h t.0)

unsent_told : (c : ToldCodecs) (plan : PostPlan) (olds : List ToldStep) (q : Option Reading) (bytes : List ℕ) (steps : List Step) (es : List Seen) → Known c plan olds (Does q (Send bytes) false ∷ steps) → session (map seen_of (Does q (Send bytes) false ∷ steps)) ≡ Some es → Come c plan olds
unsent_told c plan olds q bytes steps es k here =
    let x = told_sent c plan olds bytes false (map seen_of steps) k.told k.same in
    let b = act_before plan q (Send bytes) false steps es here in
    let same : seen_in (told.Sends x.r bytes false x.said ∷ x.old) ≡ map seen_of (Does q (Send bytes) false ∷ steps) = subst (λ (us : List ToldStep). seen_in us ≡ map seen_of (Does q (Send bytes) false ∷ steps)) x.is k.same in
    let rest : seen_in x.old ≡ map seen_of steps = cc in
    subst (Come c plan) (sym x.is) (cause.SendFailed, told_causes.HasNotSent x.r bytes x.said x.old b.0 (ap session rest ∙ b.1))

undriven_told : (c : ToldCodecs) (plan : PostPlan) (olds : List ToldStep) (q : Option Reading) (o : Order) (steps : List Step) (es : List Seen) → Known c plan olds (Does q (Give o) false ∷ steps) → session (map seen_of (Does q (Give o) false ∷ steps)) ≡ Some es → Come c plan olds
undriven_told c plan olds q o steps es k here =
    let x = told_gave olds o false (map seen_of steps) k.same in
    let b = act_before plan q (Give o) false steps es here in
    let same : seen_in (told.Does x.r (Give o) false ∷ x.old) ≡ map seen_of (Does q (Give o) false ∷ steps) = subst (λ (us : List ToldStep). seen_in us ≡ map seen_of (Does q (Give o) false ∷ steps)) x.is k.same in
    let rest : seen_in x.old ≡ map seen_of steps = cc in
    subst (Come c plan) (sym x.is) (cause.OrderFailed, told_causes.HasNotDriven x.r o x.old b.0 (ap session rest ∙ b.1))

exchange_past : (said : Said) (xs ys : List Seen) → xs ≡ ys → exchange_by said xs ≡ Negotiation None → exchange_by said ys ≡ Negotiation None
exchange_past said xs ys e h = subst (λ (zs : List Seen). exchange_by said zs ≡ Negotiation None) e h

unmatched_by : (c : ToldCodecs) (plan : PostPlan) (r : Option Reading) (bytes : List ℕ) (said : Said) (old : List ToldStep) → TellsOwn c → IsToldRun c plan (told.Sends r bytes true said ∷ old) → AllSaid c plan (told.Sends r bytes true said ∷ old)
    → Talks c.words plan.dialects.items (seen_in (told.Sends r bytes true said ∷ old)) (Negotiation None ∷ []) → Come c plan (told.Sends r bytes true said ∷ old)
unmatched_by c plan r bytes said old own run all talks =
    let t = talk_is c plan (told.Sends r bytes true said ∷ old) (Negotiation None ∷ []) own run all talks in
    let s = ap (map exchange_of) (sent_replies c plan r bytes true said old all.1 all.2) in
    let h = exchange_head (exchange_by said (seen_in old)) (Negotiation None) (talk old) [] (sym s ∙ t) in
    (cause.NoNegotiation, none_matched c plan (seen_in old) bytes said r old all.2 h)

unmatched_told : (c : ToldCodecs) (plan : PostPlan) (olds : List ToldStep) (q : Option Reading) (bytes : List ℕ) (steps : List Step) → Known c plan olds (Does q (Send bytes) true ∷ steps) → Talks c.words plan.dialects.items (map seen_of (Does q (Send bytes) true ∷ steps)) (Negotiation None ∷ []) → Come c plan olds
unmatched_told c plan olds q bytes steps k talks =
    let x = told_sent c plan olds bytes true (map seen_of steps) k.told k.same in
    let here : Talks c.words plan.dialects.items (seen_in olds) (Negotiation None ∷ []) = subst (λ (xs : List Seen). Talks c.words plan.dialects.items xs (Negotiation None ∷ [])) (sym k.same) talks in
    subst (Come c plan) (sym x.is) (unmatched_by c plan x.r bytes x.said x.old k.own (subst (IsToldRun c plan) x.is k.told) (subst (AllSaid c plan) x.is k.said)
    (subst (λ (us : List ToldStep). Talks c.words plan.dialects.items (seen_in us) (Negotiation None ∷ [])) x.is here))

nothing_seen : {A : Type 0} (s : Step) (steps : List Step) → [] ≡ map seen_of (s ∷ steps) → A
nothing_seen s steps h = cc

next_olds : (c : ToldCodecs) (plan : PostPlan) (olds : List ToldStep) (alls : List Step) → Known c plan olds alls → coming.IsNext alls → ComesNext olds
next_olds c plan olds [] k n = absurd n
next_olds c plan [] (s ∷ steps) k n = let x = k.same in nothing_seen s steps x
next_olds c plan (t ∷ old) (s ∷ steps) k n = next_told t s old steps (aligned c plan t old s steps k) n

word_told : (c : ToldCodecs) (plan : PostPlan) (olds : List ToldStep) (alls : List Step) (t : Talked) (es : List Seen) (words rest : List HeardWord) (word : HeardWord) (k2 : EndCause) → Known c plan olds alls → Going c plan olds alls → (course plan alls).session ≡ Some t → session (map seen_of alls) ≡ Some es
    → Words c.words plan.dialects.items (stream es) words → next_words es words ≡ word ∷ rest → word_cause (waits es) (found_word t (map seen_of alls) (course plan alls) plan word) ≡ Some k2 → coming.IsNext alls → Come c plan olds
word_told c plan olds alls t es words rest word k2 k g led here heard next judged n =
    let nx : IsNext c.words plan.dialects.items (seen_in olds) word = record { es = es; words = words; hearing = record { session_is = ap session k.same ∙ here; words_are = heard }; rest = rest; next = next } in
    let found = found_one c plan olds alls t word k g led in
    (k2, told_causes.IsWord olds t word k2 (next_olds c plan olds alls k n) (g.alike.session_is ∙ led) nx (ap (word_cause (waits es)) found ∙ judged))

pub come_told : (c : ToldCodecs) (plan : PostPlan) (olds : List ToldStep) (alls : List Step) (why : EndCause) → Known c plan olds alls → Going c plan olds alls → (is : IsCause c.words plan alls why) → Comes c.words plan alls why is → Come c plan olds
come_told c plan olds alls why k g (causes.IsDue steps t es course_is session_is reached bound) comes = due_told c plan olds steps t es k g course_is session_is reached bound comes
come_told c plan olds alls why k g (causes.IsTold at event steps t it session_is told) comes =
    heard_told c plan olds at (Plant event) steps it k g t (g.alike.session_is ∙ session_is) (told_more plan t (map seen_of steps) at event it told)
come_told c plan olds alls why k g (causes.HasLeft at steps es session_is) comes = gone_told c plan olds at Gone steps es _ k g session_is (λ t. refl)
come_told c plan olds alls why k g (causes.HasCome at token steps es session_is) comes = gone_told c plan olds at (Came token) steps es _ k g session_is (λ t. refl)
come_told c plan olds alls why k g (causes.IsOver at steps es session_is) comes = gone_told c plan olds at Over steps es _ k g session_is (λ t. refl)
come_told c plan olds alls why k g (causes.HasNotSent q bytes steps es session_is) comes = unsent_told c plan olds q bytes steps es k session_is
come_told c plan olds alls why k g (causes.HasNotDriven q o steps es session_is) comes = undriven_told c plan olds q o steps es k session_is
come_told c plan olds alls why k g (causes.HasNoMatch q bytes steps talks) comes = unmatched_told c plan olds q bytes steps k talks
come_told c plan olds alls why k g (causes.IsWord steps t es words rest word it course_is session_is heard next judged) comes = word_told c plan olds steps t es words rest word it k g course_is session_is heard next judged comes
