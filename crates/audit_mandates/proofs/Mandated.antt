-- The values tell whether a post is mandated to close.
use Rattle.std.proofs.Common.{◌≡◌, inl, inr, Bool, true, false, List, [], ◌∷◌, map, Option, Some, None, refl, sym, ap, subst, ◌∙◌}
use Rattle.std.specs.Prelude.{◌&&◌, ◌||◌, if◌then◌else◌, is_some}
use Rattle.std.specs.List.{AllByRecursion, list_all}
use Rattle.std.proofs.lemmas.Bool.{and_parts}
use Rattle.charge_world.specs.declared.heard.PilotState.{PilotState}
use Rattle.session_words.specs.declared.code.Code.{Code}
use Rattle.session_words.specs.declared.code.Code.TheVariants as code
use Rattle.session_words.specs.declared.plan.PostPlan.{PostPlan}
use Rattle.session_words.specs.Codes.{IsOkClass}
use Rattle.contactor.specs.Rights.{is_ready}
use Rattle.session_rules.specs.Finishing.{is_ac}
use Rattle.session_rules.specs.Verdict.{is_accepted}
use Rattle.post_spec.specs.Facts.{pilot}
use Rattle.post_spec.specs.Prepared.{IsPrepared}
use Rattle.post_spec.specs.Sessions.{session}
use Rattle.post_spec.specs.Steps.{Seen}
use Rattle.post_spec.specs.Talk.{Exchange, Negotiation, Answered, IsOk}
use Rattle.told_pasts.specs.Mandated.{IsStarting, IsStarted, IsMandated}
use Rattle.told_pasts.specs.Spelling.{ToldCodecs}
use Rattle.told_pasts.specs.Steps.{ToldStep, seen_in}
use Rattle.told_pasts.specs.Talk.{is_judged, judged_over, exchange_of, replies, talk}
use Rattle.audit_mandates.specs.declared.values.MandateValues.{MandateValues}
use Rattle.audit_mandates.specs.Starting.{HasStarted, may_start, is_good}
use Rattle.audit_mandates.specs.Values.{AreOf, may, state_of, Starts, is_mandated}
use Rattle.audit_mandates.proofs.Preparing.{differ, by_or, or_first, or_second, and_both}
use Rattle.audit_mandates.proofs.Starting.{Checks, may_told, may_back, started_told, started_back}

-- ---- good answers

code_told : (x : Code) → is_accepted x ≡ true → IsOkClass x
code_told code.Ok h = tt
code_told code.OkNewSessionEstablished h = tt
code_told code.OkOldSessionJoined h = tt
code_told code.OkCertificateExpiresSoon h = tt
code_told x h = absurd (differ h)

code_back : (x : Code) → IsOkClass x → is_accepted x ≡ true
code_back code.Ok h = refl
code_back code.OkNewSessionEstablished h = refl
code_back code.OkOldSessionJoined h = refl
code_back code.OkCertificateExpiresSoon h = refl
code_back x h = absurd h

good_told : (x : Exchange) → is_good x ≡ true → IsOk x
good_told (Negotiation None) is = absurd (differ is)
good_told (Negotiation (Some dialect)) is = tt
good_told (Answered request reply before) is = code_told reply.code is

good_back : (x : Exchange) → IsOk x → is_good x ≡ true
good_back (Negotiation None) is = absurd is
good_back (Negotiation (Some dialect)) is = refl
good_back (Answered request reply before) is = code_back reply.code is

all_told : (xs : List Exchange) → list_all is_good xs ≡ true → AllByRecursion IsOk xs
all_told [] is = tt
all_told (x ∷ xs) is =
    let parts = and_parts (is_good x) (list_all is_good xs) is in
    (good_told x parts.0, all_told xs parts.1)

all_back : (xs : List Exchange) → AllByRecursion IsOk xs → list_all is_good xs ≡ true
all_back [] h = refl
all_back (x ∷ xs) h = and_both (is_good x) (list_all is_good xs) (good_back x h.0) (all_back xs h.1)

-- ---- of the values

some_of : {A : Type 0} (o : Option A) → is_some o ≡ true → (a : A) × (o ≡ Some a)
some_of None is = absurd (differ is)
some_of (Some a) is = (a, refl)

is_some_of : {A : Type 0} (o : Option A) (a : A) → o ≡ Some a → is_some o ≡ true
is_some_of o a is = rw is refl

may_is : (steps : List ToldStep) (v : MandateValues) (state : PilotState) → AreOf steps v → may v state ≡ may_start v.ac steps state
may_is steps v state h = rw (h.1.preparation_is, h.1.held_is, h.1.off_is) refl

-- the past over which the first word without a reply was judged, or would be now
abbrev judging : List ToldStep → List Seen
judging steps = if is_judged steps then judged_over steps else seen_in steps

pilot_if : (b : Bool) (before now : List Seen) (s t : PilotState) → s ≡ pilot before → t ≡ pilot now → (if b then s else t) ≡ pilot (if b then before else now)
pilot_if true before now s t h k = h
pilot_if false before now s t h k = k

state_is : (steps : List ToldStep) (v : MandateValues) → AreOf steps v → state_of v ≡ pilot (judging steps)
state_is steps v h = rw h.0.judged_is (pilot_if (is_judged steps) (judged_over steps) (seen_in steps) v.judged_pilot v.pilot h.0.judged_state_is h.0.state_is)

-- ---- towards the definition

starting_told : (c : ToldCodecs) (plan : PostPlan) (steps : List ToldStep) (v : MandateValues) → is_ac plan.mode ≡ v.ac → AreOf steps v
    → ((es : List Seen) × (session (seen_in steps) ≡ Some es)) → AllByRecursion IsOk (talk steps) → Starts c plan steps → may v (state_of v) ≡ true → IsMandated c plan steps
starting_told c plan steps v ac h lives ok s can =
    let able = may_told v.ac steps (pilot (judging steps)) (sym (may_is steps v (pilot (judging steps)) h) ∙ ap (may v) (sym (state_is steps v h)) ∙ can) in
    record {
      es = lives.0;
      session_is = lives.1;
      ok = ok;
      earlier = talk steps;
      judged = judging steps;
      starts = inl (record { words = s.words; request = s.request; unanswered = s.unanswered; start = s.start; earlier_is = refl; judged_is = refl });
      prepared = subst (λ (b : Bool). IsPrepared b (talk steps)) (sym ac) able.0;
      checked = subst (λ (b : Bool). Checks b (seen_in steps) (talk steps)) (sym ac) able.1;
      ready = able.2;
    }

started_mandate : (c : ToldCodecs) (plan : PostPlan) (steps : List ToldStep) (v : MandateValues) → is_ac plan.mode ≡ v.ac
    → ((es : List Seen) × (session (seen_in steps) ≡ Some es)) → AllByRecursion IsOk (talk steps) → HasStarted v.ac (seen_in steps) (replies steps) → IsMandated c plan steps
started_mandate c plan steps v ac lives ok s = record {
  es = lives.0;
  session_is = lives.1;
  ok = ok;
  earlier = map exchange_of s.rest;
  judged = s.reply.judged;
  starts = inr (record {
    behind = s.behind;
    reply = s.reply;
    rest = s.rest;
    replies_are = s.rs_are;
    request = s.request;
    answer = s.answer;
    watts = s.watts;
    said_is = s.said_is;
    start = s.start;
    goes_on = s.goes_on;
    earlier_is = refl;
    judged_is = refl;
  });
  prepared = subst (λ (b : Bool). IsPrepared b (map exchange_of s.rest)) (sym ac) s.prepared;
  checked = subst (λ (b : Bool). Checks b (seen_in steps) (map exchange_of s.rest)) (sym ac) s.checked;
  ready = s.ready;
}

pub mandated_told : (c : ToldCodecs) (plan : PostPlan) (steps : List ToldStep) (v : MandateValues) (starting : Bool) → is_ac plan.mode ≡ v.ac → AreOf steps v
    → (starting ≡ true → Starts c plan steps) → is_mandated starting v ≡ true → IsMandated c plan steps
mandated_told c plan steps v starting ac h starts is =
    let outer = and_parts v.lives (v.good && ((starting && may v (state_of v)) || v.started)) is in
    let inner = and_parts v.good ((starting && may v (state_of v)) || v.started) outer.1 in
    let lives = some_of (session (seen_in steps)) (sym h.0.lives_is ∙ outer.0) in
    let ok = all_told (talk steps) (sym h.1.good_is ∙ inner.0) in
    elim (by_or (starting && may v (state_of v)) v.started inner.1) [
      | inl now ↦ (let parts = and_parts starting (may v (state_of v)) now in starting_told c plan steps v ac h lives ok (starts parts.0) parts.1)
      | inr before ↦ started_mandate c plan steps v ac lives ok (started_told v.ac steps (sym h.1.begun_is ∙ before))
    ]

-- ---- from the definition

starting_back : (c : ToldCodecs) (plan : PostPlan) (steps : List ToldStep) (v : MandateValues) (starting : Bool) → is_ac plan.mode ≡ v.ac → AreOf steps v
    → (Starts c plan steps → starting ≡ true) → (m : IsMandated c plan steps) → IsStarting c plan steps m.earlier m.judged → (starting && may v (state_of v)) ≡ true
starting_back c plan steps v starting ac h starts m s =
    let prep = subst (λ (b : Bool). IsPrepared b (talk steps)) ac (subst (λ (xs : List Exchange). IsPrepared (is_ac plan.mode) xs) s.earlier_is m.prepared) in
    let check = subst (λ (b : Bool). Checks b (seen_in steps) (talk steps)) ac (subst (λ (xs : List Exchange). Checks (is_ac plan.mode) (seen_in steps) xs) s.earlier_is m.checked) in
    let ready : is_ready (pilot (judging steps)) ≡ true = ap (λ (past : List Seen). is_ready (pilot past)) (sym s.judged_is) ∙ m.ready in
    let can = may_back v.ac steps (pilot (judging steps)) prep check ready in
    and_both starting (may v (state_of v)) (starts (record { words = s.words; request = s.request; unanswered = s.unanswered; start = s.start }))
    (ap (may v) (state_is steps v h) ∙ may_is steps v (pilot (judging steps)) h ∙ can)

started_was : (c : ToldCodecs) (plan : PostPlan) (steps : List ToldStep) (v : MandateValues) → is_ac plan.mode ≡ v.ac → AreOf steps v
    → (m : IsMandated c plan steps) → IsStarted steps m.earlier m.judged → v.started ≡ true
started_was c plan steps v ac h m s =
    h.1.begun_is ∙ started_back v.ac steps (record {
      behind = s.behind;
      reply = s.reply;
      rest = s.rest;
      rs_are = s.replies_are;
      request = s.request;
      answer = s.answer;
      watts = s.watts;
      said_is = s.said_is;
      start = s.start;
      goes_on = s.goes_on;
      prepared = subst (λ (b : Bool). IsPrepared b (map exchange_of s.rest)) ac (subst (λ (xs : List Exchange). IsPrepared (is_ac plan.mode) xs) s.earlier_is m.prepared);
      checked = subst (λ (b : Bool). Checks b (seen_in steps) (map exchange_of s.rest)) ac
          (subst (λ (xs : List Exchange). Checks (is_ac plan.mode) (seen_in steps) xs) s.earlier_is m.checked);
      ready = ap (λ (past : List Seen). is_ready (pilot past)) (sym s.judged_is) ∙ m.ready;
    })

pub mandated_back : (c : ToldCodecs) (plan : PostPlan) (steps : List ToldStep) (v : MandateValues) (starting : Bool) → is_ac plan.mode ≡ v.ac → AreOf steps v
    → (Starts c plan steps → starting ≡ true) → IsMandated c plan steps → is_mandated starting v ≡ true
mandated_back c plan steps v starting ac h starts m =
    and_both v.lives (v.good && ((starting && may v (state_of v)) || v.started)) (h.0.lives_is ∙ is_some_of (session (seen_in steps)) m.es m.session_is)
    (and_both v.good ((starting && may v (state_of v)) || v.started) (h.1.good_is ∙ all_back (talk steps) m.ok)
    (elim m.starts [
      | inl s ↦ or_first (starting && may v (state_of v)) v.started (starting_back c plan steps v starting ac h starts m s)
      | inr s ↦ or_second (starting && may v (state_of v)) v.started (started_was c plan steps v ac h m s)
    ]))
