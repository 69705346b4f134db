-- The first cause of a session that is told stands in the run, or comes as an order to open is owed.
use Rattle.std.proofs.Common.{◌≡◌, ◌≤◌, ◌<◌, ℕ, Bool, true, false, List, [], ◌∷◌, map, Option, Some, None, refl, sym, ap, subst, ◌∙◌, inl, inr, ◌⊎◌}
use Rattle.session_timers.specs.Due.{never}
use Rattle.charge_world.specs.declared.heard.PlantEvent.{PlantEvent}
use Rattle.charge_world.specs.declared.offer.Dialect.{Dialect}
use Rattle.charge_world.specs.declared.ports.Order.{Order}
use Rattle.charge_world.specs.declared.ports.Order.TheVariants as order
use Rattle.session_words.specs.Causes.{number_of}
use Rattle.session_words.specs.declared.cause.EndCause.{EndCause}
use Rattle.session_words.specs.declared.plan.PostPlan.{PostPlan}
use Rattle.session_rules.specs.Causes.{plant_cause, word_cause}
use Rattle.post_spec.specs.Causes as causes
use Rattle.post_spec.specs.Causes.{IsCause, watch, found_word}
use Rattle.post_spec.specs.Contactors as contactors
use Rattle.post_spec.specs.Contactors.{live, live_as_told}
use Rattle.post_spec.specs.Course.{Talked, course}
use Rattle.post_spec.specs.Sessions.{session, with_seen, waits}
use Rattle.post_spec.specs.Steps.{Event, Came, Bytes, Gone, Datagram, Plant, Clock, Over, Act, Give, Send, Answer, End, Seen, Heard, Did, Reading, Step, Hears, Does, seen_of}
use Rattle.post_spec.specs.Words.{HeardWord}
use Rattle.station_spec.specs.Acting.{state}
use Rattle.station_spec.specs.Next.{Acts}
use Rattle.station_spec.specs.Sharing.{Shows}
use Rattle.safe_runs.specs.Opening.{OpensAgain}
use Rattle.coming_causes_open.specs.Causing.{IsOpening}
use Rattle.standing_causes_open.specs.Standing.{HasCome, CameBefore}
use Rattle.own_traces.specs.Reasons.{Stands, OpenWhereStanding}
use Rattle.station_laws.proofs.Contactors.{contactors_are_read}
use Rattle.told_pasts.specs.Causes as told_causes
use Rattle.told_pasts.specs.Causes.{heard_cause, ComesNext, ComesWith, HasCause, IsFirst, GoesOn, OwesOpen}
use Rattle.told_pasts.specs.Course.{told_course}
use Rattle.told_pasts.specs.Reading.{IsNext}
use Rattle.told_pasts.specs.Spelling.{ToldCodecs}
use Rattle.told_pasts.specs.Steps as told
use Rattle.told_pasts.specs.Steps.{Said, Response, ToldStep, seen_in}
use Rattle.own_traces.proofs.Answering.{IsShut}
use Rattle.own_traces.proofs.Openings.{has_failed}
use Rattle.own_traces.proofs.Saying.{SaidSo, WasResponse, WasReply}
use Rattle.own_traces.proofs.Sending.{newest_act}
use Rattle.own_courses.proofs.Alike.{Known}
use Rattle.own_courses.proofs.Calm.{IsMust, differ}
use Rattle.own_courses.proofs.Causing.{Aligned, AtHearing, AtAct, AtSending, aligned, as_told, lives_run, found_one, come_told}
use Rattle.own_courses.proofs.Hands.{Going, Ending, IsCut, Phased, known_other, known_send, leaves, left_todo, finished}
use Rattle.own_courses.proofs.Turns.{Along}

-- ---- a cause that is told stands in the run

-- an order to open is owed as something is heard
abbrev pub MustHear : List Step → Type 0
MustHear [] = ⊥
MustHear (Hears at event ∷ steps) = IsMust steps
MustHear (Does q a taken ∷ steps) = ⊥

abbrev Standing : ToldCodecs → PostPlan → List Step → Type 0
Standing c plan alls = ((k : EndCause) × IsCause c.words plan alls k) ⊎ MustHear alls

pub record IsRHeard (alls : List Step) (at : ℕ) (e : Event) (past : List Seen) : Type 0 where
  pub steps : List Step
  pub is : alls ≡ Hears at e ∷ steps
  pub rest : past ≡ map seen_of steps

run_heard : (alls : List Step) (at : ℕ) (e : Event) (past : List Seen) → Heard at e ∷ past ≡ map seen_of alls → IsRHeard alls at e past
run_heard [] at e past h = cc
run_heard (Hears n f ∷ steps) at e past h =
    let x : n ≡ at = cc in
    let y : f ≡ e = cc in
    record { steps = steps; is = ap (λ (m : ℕ). Hears m f ∷ steps) x ∙ ap (λ (z : Event). Hears at z ∷ steps) y; rest = cc }
run_heard (Does q a taken ∷ steps) at e past h = cc

due_stands : (c : ToldCodecs) (plan : PostPlan) (at : ℕ) (e : Event) (old : List ToldStep) (alls : List Step) (t : Talked) (es : List Seen) → Known c plan (told.Hears at e ∷ old) alls → Going c plan (told.Hears at e ∷ old) alls → (told_course plan (told.Hears at e ∷ old)).session ≡ Some t
    → session (seen_in (told.Hears at e ∷ old)) ≡ Some es → causes.due (Some t) es ≤ at → causes.due (Some t) es < never → Standing c plan alls
due_stands c plan at e old alls t es k g led here reached bound =
    let x = run_heard alls at e (seen_in old) k.same in
    let led2 : (course plan (Hears at e ∷ x.steps)).session ≡ Some t = subst (λ (us : List Step). (course plan us).session ≡ Some t) x.is (sym g.alike.session_is ∙ led) in
    let here2 : session (map seen_of (Hears at e ∷ x.steps)) ≡ Some es = subst (λ (us : List Step). session (map seen_of us) ≡ Some es) x.is (sym (ap session k.same) ∙ here) in
    inl (subst (λ (us : List Step). (k : EndCause) × IsCause c.words plan us k) (sym x.is) (_, causes.IsDue (Hears at e ∷ x.steps) t es led2 here2 reached bound))

plant_stands : (c : ToldCodecs) (plan : PostPlan) (at : ℕ) (event : PlantEvent) (steps : List Step) (t : Talked) (why : EndCause) → (course plan (Hears at (Plant event) ∷ steps)).session ≡ Some t → plant_cause (watch plan t (map seen_of steps) (live (map seen_of steps)) at) event ≡ Some why
    → Standing c plan (Hears at (Plant event) ∷ steps)
plant_stands c plan at event steps t why led h = elim (as_told (contactors.standing (map seen_of steps)) (live (map seen_of steps))) [
  | inl must ↦ inr must
  | inr same ↦ inl (why, causes.IsTold at event steps t why led (subst (λ (on : Bool). plant_cause (watch plan t (map seen_of steps) on at) event ≡ Some why) (sym same) h))
]

none_heard : {A : Type 0} (k : EndCause) → None ≡ Some k → A
none_heard k h = cc

event_stands : (c : ToldCodecs) (plan : PostPlan) (at : ℕ) (e : Event) (steps : List Step) (t : Talked) (es : List Seen) (why : EndCause) → (course plan (Hears at e ∷ steps)).session ≡ Some t → session (map seen_of (Hears at e ∷ steps)) ≡ Some es → heard_cause plan t (map seen_of steps) at e ≡ Some why → Standing c plan (Hears at e ∷ steps)
event_stands c plan at (Came token) steps t es why led here h = inl (_, causes.HasCome at token steps es here)
event_stands c plan at (Bytes bytes) steps t es why led here h = none_heard why h
event_stands c plan at Gone steps t es why led here h = inl (_, causes.HasLeft at steps es here)
event_stands c plan at (Datagram bytes) steps t es why led here h = none_heard why h
event_stands c plan at (Plant event) steps t es why led here h = plant_stands c plan at event steps t why led h
event_stands c plan at Clock steps t es why led here h = none_heard why h
event_stands c plan at Over steps t es why led here h = inl (_, causes.IsOver at steps es here)

heard_stands : (c : ToldCodecs) (plan : PostPlan) (at : ℕ) (e : Event) (old : List ToldStep) (alls : List Step) (t : Talked) (why : EndCause) → Known c plan (told.Hears at e ∷ old) alls → Going c plan (told.Hears at e ∷ old) alls → (told_course plan (told.Hears at e ∷ old)).session ≡ Some t
    → heard_cause plan t (seen_in old) at e ≡ Some why → Standing c plan alls
heard_stands c plan at e old alls t why k g led h =
    let x = run_heard alls at e (seen_in old) k.same in
    let es = lives_run c plan (told.Hears at e ∷ old) alls t k g led in
    let led2 : (course plan (Hears at e ∷ x.steps)).session ≡ Some t = subst (λ (us : List Step). (course plan us).session ≡ Some t) x.is (sym g.alike.session_is ∙ led) in
    let here2 : session (map seen_of (Hears at e ∷ x.steps)) ≡ Some es.0 = subst (λ (us : List Step). session (map seen_of us) ≡ Some es.0) x.is es.1 in
    let h2 : heard_cause plan t (map seen_of x.steps) at e ≡ Some why = subst (λ (xs : List Seen). heard_cause plan t xs at e ≡ Some why) x.rest h in
    subst (Standing c plan) (sym x.is) (event_stands c plan at e x.steps t es.0 why led2 here2 h2)

unsent_stands : (c : ToldCodecs) (plan : PostPlan) (r : Option Reading) (bytes : List ℕ) (said : Said) (old : List ToldStep) (alls : List Step) (es : List Seen) → Known c plan (told.Sends r bytes false said ∷ old) alls → session (seen_in old) ≡ Some es → Standing c plan alls
unsent_stands c plan r bytes said old alls es k here =
    let n = newest_act (Send bytes) false (seen_in old) alls k.same in
    let lives : session (map seen_of (Does n.0 (Send bytes) false ∷ n.1)) ≡ Some (Did (Send bytes) false ∷ es) = ap (with_seen (Did (Send bytes) false)) (sym (ap session n.3) ∙ here) in
    inl (subst (λ (us : List Step). (k : EndCause) × IsCause c.words plan us k) (sym n.2) (_, causes.HasNotSent n.0 bytes n.1 (Did (Send bytes) false ∷ es) lives))

undriven_stands : (c : ToldCodecs) (plan : PostPlan) (r : Option Reading) (o : Order) (old : List ToldStep) (alls : List Step) (es : List Seen) → Known c plan (told.Does r (Give o) false ∷ old) alls → session (seen_in old) ≡ Some es → Standing c plan alls
undriven_stands c plan r o old alls es k here =
    let n = newest_act (Give o) false (seen_in old) alls k.same in
    let lives : session (map seen_of (Does n.0 (Give o) false ∷ n.1)) ≡ Some (Did (Give o) false ∷ es) = ap (with_seen (Did (Give o) false)) (sym (ap session n.3) ∙ here) in
    inl (subst (λ (us : List Step). (k : EndCause) × IsCause c.words plan us k) (sym n.2) (_, causes.HasNotDriven n.0 o n.1 (Did (Give o) false ∷ es) lives))

shut_dark : (on : Bool) → IsShut None on → on ≡ false
shut_dark on (inl h) = cc
shut_dark on (inr h) = h.1

-- a response is sent while the contactor isn't live
response_dark : (c : ToldCodecs) (plan : PostPlan) (past : List Seen) (bytes : List ℕ) (said : Said) (chosen : Option Dialect) (positive : Bool) → said ≡ Response chosen positive → SaidSo c plan past bytes said → live past ≡ false
response_dark c plan past bytes said chosen positive e (WasResponse x response payload first neg shut b) = shut_dark (live past) shut
response_dark c plan past bytes said chosen positive e (WasReply request d reply payload watts first speaks single ok encodes b spells) = cc

word_stands : (c : ToldCodecs) (plan : PostPlan) (olds : List ToldStep) (alls : List Step) (t : Talked) (word : HeardWord) (why : EndCause) → Known c plan olds alls → Going c plan olds alls → (told_course plan olds).session ≡ Some t → (next : IsNext c.words plan.dialects.items (seen_in olds) word)
    → word_cause (waits next.es) (found_word t (seen_in olds) (told_course plan olds) plan word) ≡ Some why → Standing c plan alls
word_stands c plan olds alls t word why k g led next h =
    let here = sym g.alike.session_is ∙ led in
    let found = found_one c plan olds alls t word k g here in
    inl (why, causes.IsWord alls t next.es next.words next.rest word why here (sym (ap session k.same) ∙ next.hearing.session_is) next.hearing.words_are next.next (sym (ap (word_cause (waits next.es)) found) ∙ h))

stands : (c : ToldCodecs) (plan : PostPlan) (olds : List ToldStep) (alls : List Step) (why : EndCause) → Known c plan olds alls → Going c plan olds alls → live (map seen_of alls) ≡ true → ComesWith c plan olds why → Standing c plan alls
stands c plan olds alls why k g on (told_causes.IsDue at e old t es course_is session_is reached bound) = due_stands c plan at e old alls t es k g course_is session_is reached bound
stands c plan olds alls why k g on (told_causes.IsHeard at e old t it course_is h) = heard_stands c plan at e old alls t it k g course_is h
stands c plan olds alls why k g on (told_causes.HasNotSent r bytes said old es session_is) = unsent_stands c plan r bytes said old alls es k session_is
stands c plan olds alls why k g on (told_causes.HasNotDriven r o old es session_is) = undriven_stands c plan r o old alls es k session_is
stands c plan olds alls why k g on (told_causes.HasNoMatch r bytes positive old) =
    differ (live (map seen_of alls)) on (sym (ap live k.same) ∙ response_dark c plan (seen_in old) bytes (Response None positive) None positive refl k.said.2)
stands c plan olds alls why k g on (told_causes.IsWord old t word it next course_is is judged) = word_stands c plan old alls t word it k g course_is is judged

cut_word : {A : Type 0} (olds : List ToldStep) → IsCut olds → ComesNext olds → A
cut_word [] cut n = absurd n
cut_word (told.Hears at event ∷ old) cut n = absurd cut
cut_word (told.Does r (Give order.Open) taken ∷ old) cut n = absurd n
cut_word (told.Does r (Give order.Close) taken ∷ old) cut n = absurd cut
cut_word (told.Does r (Give (order.Limits voltage current watts)) taken ∷ old) cut n = absurd cut
cut_word (told.Does r (Send bytes) taken ∷ old) cut n = absurd cut
cut_word (told.Does r (Answer bytes) taken ∷ old) cut n = absurd cut
cut_word (told.Does r (End k) taken ∷ old) cut n = absurd cut
cut_word (told.Sends r bytes true said ∷ old) cut n = absurd cut
cut_word (told.Sends r bytes false said ∷ old) cut n = absurd n

cut_stands : (c : ToldCodecs) (plan : PostPlan) (olds : List ToldStep) (alls : List Step) (why : EndCause) → Known c plan olds alls → IsCut olds → ComesWith c plan olds why → Standing c plan alls
cut_stands c plan olds alls why k cut (told_causes.IsDue at e old t es course_is session_is reached bound) = absurd cut
cut_stands c plan olds alls why k cut (told_causes.IsHeard at e old t it course_is h) = absurd cut
cut_stands c plan olds alls why k cut (told_causes.HasNotSent r bytes said old es session_is) = unsent_stands c plan r bytes said old alls es k session_is
cut_stands c plan olds alls why k cut (told_causes.HasNotDriven r o old es session_is) = undriven_stands c plan r o old alls es k session_is
cut_stands c plan olds alls why k cut (told_causes.HasNoMatch r bytes positive old) = absurd cut
cut_stands c plan olds alls why k cut (told_causes.IsWord old t word it next course_is is judged) = cut_word old cut next

phase_stands : (c : ToldCodecs) (plan : PostPlan) (olds : List ToldStep) (alls : List Step) (why : EndCause) → Known c plan olds alls → Phased c plan olds alls → live (map seen_of alls) ≡ true → ComesWith c plan olds why → Standing c plan alls
phase_stands c plan olds alls why k (inl g) on comes = stands c plan olds alls why k g on comes
phase_stands c plan olds alls why k (inr e) on comes = elim e.why [
  | inl cut ↦ cut_stands c plan olds alls why k cut.0 comes
  | inr shut ↦ differ (live (map seen_of alls)) on (sym (contactors_are_read plan alls).live_is ∙ shut.0)
]

-- ---- what came before

come_cause : (c : ToldCodecs) (plan : PostPlan) (olds : List ToldStep) (why : EndCause) → ComesWith c plan olds why → HasCause c plan olds
come_cause c plan olds why (told_causes.IsDue at e old t es course_is session_is reached bound) = inl (_, told_causes.IsDue at e old t es course_is session_is reached bound)
come_cause c plan olds why (told_causes.IsHeard at e old t it course_is h) = inl (it, told_causes.IsHeard at e old t it course_is h)
come_cause c plan olds why (told_causes.HasNotSent r bytes said old es session_is) = inl (_, told_causes.HasNotSent r bytes said old es session_is)
come_cause c plan olds why (told_causes.HasNotDriven r o old es session_is) = inl (_, told_causes.HasNotDriven r o old es session_is)
come_cause c plan olds why (told_causes.HasNoMatch r bytes positive old) = inl (_, told_causes.HasNoMatch r bytes positive old)
come_cause c plan olds why (told_causes.IsWord [] t word it next course_is is judged) = absurd next
come_cause c plan olds why (told_causes.IsWord (x ∷ old) t word it next course_is is judged) = inl (it, told_causes.IsWord (x ∷ old) t word it next course_is is judged)

-- only the end of the session is left
pub record IsLast (plan : PostPlan) (alls : List Step) : Type 0 where
  pub k : EndCause
  pub ending : (state plan alls).agenda.ending ≡ Some k
  pub reply : (state plan alls).agenda.reply ≡ None
  pub datagram : (state plan alls).agenda.datagram ≡ None
  pub order : (state plan alls).agenda.order ≡ None

last_act : (c : ToldCodecs) (plan : PostPlan) (S : ℕ → ℕ → Type 0) (steps : List Step) (q : Option Reading) (a : Act) (taken : Bool) → IsLast plan steps → Acts c.words plan S (state plan steps) q a taken → (n : ℕ) × (a ≡ End n)
last_act c plan S steps q a taken e acts =
    let s = state plan steps in
    let l = leaves c plan S steps q a taken e.k e.ending acts in
    elim (left_todo s.agenda e.k l.todo e.datagram e.reply e.ending l.acts) [
      | inl x ↦ absurd (let y : None ≡ Some x.0 = sym e.order ∙ x.1 in cc)
      | inr x ↦ (number_of e.k, finished c.words e.k l.todo a taken x.1 l.done)
    ]

-- a step that isn't the end doesn't follow then
not_last : {A : Type 0} (c : ToldCodecs) (plan : PostPlan) (q : Option Reading) (a : Act) (taken : Bool) (old : List ToldStep) (t : ToldStep) (steps : List Step) → Known c plan (t ∷ old) (Does q a taken ∷ steps) → ((n : ℕ) → a ≡ End n → ⊥) → IsLast plan steps → A
not_last c plan q a taken old t steps k n last =
    let run = k.all.laws.run.1 in
    let x = last_act c plan (Shows run.0 run.1 run.2) steps q a taken last run.3 in
    absurd (n x.0 x.1)

ending_come : (c : ToldCodecs) (plan : PostPlan) (olds : List ToldStep) (alls : List Step) → Ending c plan olds alls → HasCause c plan olds ⊎ IsLast plan alls
ending_come c plan olds alls e = elim e.why [
  | inl cut ↦ inl cut.1
  | inr shut ↦ inr (record { k = e.k; ending = e.ending; reply = e.reply; datagram = e.datagram; order = shut.1 })
]

phase_come : (c : ToldCodecs) (plan : PostPlan) (olds : List ToldStep) (alls : List Step) → Known c plan olds alls → Phased c plan olds alls → HasCome c.words plan alls → HasCause c plan olds ⊎ IsLast plan alls
phase_come c plan olds alls k (inl g) h = let x = come_told c plan olds alls h.cause k g h.is h.comes in inl (come_cause c plan olds x.0 x.1)
phase_come c plan olds alls k (inr e) h = ending_come c plan olds alls e

abbrev HadCome : ToldCodecs → PostPlan → List Step → Type 0
HadCome c plan alls = HasCome c.words plan alls ⊎ CameBefore c.words plan alls

-- what came before a step
before_by : (c : ToldCodecs) (plan : PostPlan) (t : ToldStep) (old : List ToldStep) (s : Step) (steps : List Step) → Aligned t s → Known c plan (t ∷ old) (s ∷ steps) → (Known c plan old steps → HadCome c plan steps → HasCause c plan old ⊎ IsLast plan steps) → CameBefore c.words plan (s ∷ steps)
    → told_causes.CameBefore (HasCause c plan old) t old
before_by c plan t old s steps (AtHearing at e) k rest b = absurd b
before_by c plan t old s steps (AtAct r q (Give o) taken other) k rest b = elim (rest (known_other c plan r q (Give o) (Give o) taken taken old steps k) b) [
  | inl cause ↦ cause
  | inr last ↦ not_last c plan q (Give o) taken old (told.Does r (Give o) taken) steps k (λ n e. cc) last
]
before_by c plan t old s steps (AtAct r q (Send bytes) taken other) k rest b = absurd other
before_by c plan t old s steps (AtAct r q (Answer bytes) taken other) k rest b = elim (rest (known_other c plan r q (Answer bytes) (Answer bytes) taken taken old steps k) b) [
  | inl cause ↦ cause
  | inr last ↦ not_last c plan q (Answer bytes) taken old (told.Does r (Answer bytes) taken) steps k (λ n e. cc) last
]
before_by c plan t old s steps (AtAct r q (End n) taken other) k rest b = absurd b
before_by c plan t old s steps (AtSending r q bytes taken said) k rest b = elim (rest (known_send c plan r q bytes (Send bytes) taken taken said old steps k) b) [
  | inl cause ↦ cause
  | inr last ↦ not_last c plan q (Send bytes) taken old (told.Sends r bytes taken said) steps k (λ n e. cc) last
]

come_all : (c : ToldCodecs) (plan : PostPlan) (olds : List ToldStep) (alls : List Step) → Known c plan olds alls → Along c plan olds alls → HadCome c plan alls → HasCause c plan olds ⊎ IsLast plan alls
come_all c plan [] [] k a (inl h) = phase_come c plan [] [] k a h
come_all c plan [] [] k a (inr b) = absurd b
come_all c plan [] (s ∷ steps) k a h = absurd a
come_all c plan (t ∷ old) [] k a h = absurd a
come_all c plan (t ∷ old) (s ∷ steps) k a (inl h) = phase_come c plan (t ∷ old) (s ∷ steps) k a.0.0 h
come_all c plan (t ∷ old) (s ∷ steps) k a (inr b) = inl (inr (before_by c plan t old s steps (aligned c plan t old s steps k) k (λ known x. come_all c plan old steps known a.1 x) b))

-- ---- so the first cause stands

pub first_stands : (c : ToldCodecs) (plan : PostPlan) (t : ToldStep) (old : List ToldStep) (s : Step) (steps : List Step) → Known c plan (t ∷ old) (s ∷ steps) → Along c plan (t ∷ old) (s ∷ steps) → IsFirst c plan t old → Stands c.words plan (s ∷ steps) ⊎ MustHear (s ∷ steps)
first_stands c plan t old s steps k a f =
    let on : live (map seen_of (s ∷ steps)) ≡ true = sym (ap live k.same) ∙ f.live_is in
    elim (phase_stands c plan (t ∷ old) (s ∷ steps) f.cause k a.0.0 on f.comes) [
      | inl x ↦ inl (record {
        cause = x.0;
        is = x.1;
        live_is = on;
        none_before = λ b. f.first (before_by c plan t old s steps (aligned c plan t old s steps k) k (λ known y. come_all c plan old steps known a.1 y) b);
      })
      | inr must ↦ inr must
    ]

-- ---- and the next step is an order to open

-- what the laws of a run say of a step behind these
pub record Laws (c : ToldCodecs) (plan : PostPlan) (alls : List Step) : Type 0 where
  pub opening : OpenWhereStanding c.words plan alls
  pub again : OpensAgain (map seen_of alls)

pub laws_before : (c : ToldCodecs) (plan : PostPlan) (s : Step) (steps : List Step) → Laws c plan (s ∷ steps) → Laws c plan steps
laws_before c plan s steps l = record { opening = l.opening.0; again = l.again.0 }

not_opening : {A : Type 0} (t : ToldStep) (s : Step) → Aligned t s → GoesOn t → IsOpening s → A
not_opening t s (AtHearing at e) g o = absurd g
not_opening t s (AtAct r q (Give order.Open) taken other) g o = absurd g
not_opening t s (AtAct r q (Give order.Close) taken other) g o = let x = o.2 in cc
not_opening t s (AtAct r q (Give (order.Limits voltage current watts)) taken other) g o = let x = o.2 in cc
not_opening t s (AtAct r q (Send bytes) taken other) g o = absurd other
not_opening t s (AtAct r q (Answer bytes) taken other) g o = let x = o.2 in cc
not_opening t s (AtAct r q (End n) taken other) g o = let x = o.2 in cc
not_opening t s (AtSending r q bytes taken said) g o = let x = o.2 in cc

opening_by : (s : Step) (taken : Bool) → seen_of s ≡ Did (Give order.Open) taken → IsOpening s
opening_by (Hears at e) taken h = cc
opening_by (Does q a t) taken h =
    let x : a ≡ Give order.Open = cc in
    (q, t, ap (λ (b : Act). Does q b t) x)

must_opens : (c : ToldCodecs) (plan : PostPlan) (x : Step) (alls : List Step) → OpensAgain (map seen_of (x ∷ alls)) → MustHear alls → IsOpening x
must_opens c plan x [] again must = absurd must
must_opens c plan x (Hears at e ∷ steps) again must = let o = again.1 (has_failed (map seen_of steps) must) in opening_by x o.0 o.1
must_opens c plan x (Does q a taken ∷ steps) again must = absurd must

pub next_opens : (c : ToldCodecs) (plan : PostPlan) (x : Step) (t : ToldStep) (old : List ToldStep) (s : Step) (steps : List Step) → Known c plan (t ∷ old) (s ∷ steps) → Along c plan (t ∷ old) (s ∷ steps) → Laws c plan (x ∷ (s ∷ steps)) → IsFirst c plan t old → IsOpening x
next_opens c plan x t old s steps k a l f = elim (first_stands c plan t old s steps k a f) [
  | inl stands ↦ l.opening.1 stands
  | inr must ↦ must_opens c plan x (s ∷ steps) l.again must
]

known_before : (c : ToldCodecs) (plan : PostPlan) (t : ToldStep) (old : List ToldStep) (s : Step) (steps : List Step) → Aligned t s → GoesOn t → Known c plan (t ∷ old) (s ∷ steps) → Known c plan old steps
known_before c plan t old s steps (AtHearing at e) g k = absurd g
known_before c plan t old s steps (AtAct r q a taken other) g k = known_other c plan r q a a taken taken old steps k
known_before c plan t old s steps (AtSending r q bytes taken said) g k = known_send c plan r q bytes (Send bytes) taken taken said old steps k

-- so what owes an order to open is the newest step
pub owes_first : (c : ToldCodecs) (plan : PostPlan) (t : ToldStep) (old : List ToldStep) (s : Step) (steps : List Step) → Known c plan (t ∷ old) (s ∷ steps) → Along c plan (t ∷ old) (s ∷ steps) → Laws c plan (s ∷ steps) → OwesOpen c plan (t ∷ old) → IsFirst c plan t old
owes_first c plan t old s steps k a l (inl f) = f
owes_first c plan t [] s steps k a l (inr (goes, owes)) = absurd owes
owes_first c plan t (u ∷ old) s [] k a l (inr (goes, owes)) = absurd a.1
owes_first c plan t (u ∷ old) s (x ∷ steps) k a l (inr (goes, owes)) =
    let al = aligned c plan t (u ∷ old) s (x ∷ steps) k in
    let known = known_before c plan t (u ∷ old) s (x ∷ steps) al goes k in
    let f = owes_first c plan u old x steps known a.1 (laws_before c plan s (x ∷ steps) l) owes in
    not_opening t s al goes (next_opens c plan s u old x steps known a.1 l f)
