-- Each check off what is known of its post.
use Rattle.std.proofs.Common.{◌≡◌, ◌⊎◌, inl, inr, ◌↔◌, ℕ, ◌==◌, Bool, true, false, List, ◌∷◌, Option, Some, None, refl, sym, ap, subst, ◌∙◌, eq-eqb}
use Rattle.std.specs.Prelude.{not, ◌&&◌, ◌||◌, IsTrue, is_some, MatchBool}
use Rattle.std.specs.List.{list_any}
use Rattle.std.specs.Option.{option_map}
use Rattle.std.proofs.lemmas.Bool.{and_parts, eqb-true}
use Rattle.charge_world.specs.declared.entry.Entry.{Entry}
use Rattle.charge_world.specs.declared.entry.Entry.TheVariants as entry
use Rattle.charge_world.specs.declared.ports.Order.{Order}
use Rattle.charge_world.specs.declared.ports.Order.TheVariants as order
use Rattle.session_words.specs.declared.code.Code.{Code}
use Rattle.session_words.specs.declared.code.Code.TheVariants as code
use Rattle.session_words.specs.declared.phase.Standing.{Standing}
use Rattle.session_words.specs.declared.phase.Standing.TheVariants.{MustOpen}
use Rattle.session_words.specs.declared.plan.PostPlan.{PostPlan}
use Rattle.session_words.specs.declared.plan.SitePlan.{SitePlan}
use Rattle.session_words.specs.declared.word.Reply.{Reply}
use Rattle.session_words.specs.declared.word.Request.{Request}
use Rattle.session_words.specs.Codes.{IsOkClass}
use Rattle.session_rules.specs.Verdict.{is_accepted}
use Rattle.post_spec.specs.Contactors.{contactor_acts, standing, live, closed}
use Rattle.post_spec.specs.Course.{Talked, Course}
use Rattle.post_spec.specs.Steps.{Reading, seen}
use Rattle.told_pasts.specs.Checks as checks
use Rattle.told_pasts.specs.Checks.{is_heard, is_act_of, opens, in_block, before_block, EndsBlock, opened_in_vain, ends_opened, HasFailedCode}
use Rattle.told_pasts.specs.Course.{told_course}
use Rattle.told_pasts.specs.Mandated.{IsMandated}
use Rattle.told_pasts.specs.Reading.{IsNext}
use Rattle.told_pasts.specs.Site.{ToldPost, told_of, IsPostOf}
use Rattle.told_pasts.specs.Spelling.{ToldCodecs, SpelledWatts, AreTold}
use Rattle.told_pasts.specs.Steps.{Said, Response, Replied, Other, Unasked, ToldStep, Sends, seen_in}
use Rattle.audit_causes.specs.Values.{Passes}
use Rattle.audit_contactors.specs.declared.values.ContactorValues.{ContactorValues}
use Rattle.audit_contactors.specs.Site as contactors
use Rattle.audit_contactors.specs.Values as contactor_values
use Rattle.audit_course.specs.declared.course.TalkValues.{TalkValues}
use Rattle.audit_course.specs.declared.course.CourseValues.{CourseValues}
use Rattle.audit_course.specs.declared.words.Saying.{Saying}
use Rattle.audit_course.specs.Values.{talked_of, said_as}
use Rattle.audit_posts.specs.declared.stepping.About.{About}
use Rattle.audit_posts.specs.declared.values.KeptPost.{KeptPost}
use Rattle.audit_posts.specs.Steps.{StepIs, SendsSo}
use Rattle.audit_checks.specs.declared.around.Around.{Around}
use Rattle.audit_checks.specs.declared.checks.Check.{Check}
use Rattle.audit_checks.specs.declared.checks.Check.TheVariants as check
use Rattle.audit_checks.specs.Around.{AreSteps, IsAround, is_close, closes_at, sends_at, has_failed, is_good, is_no_answer, fails_by}
use Rattle.audit_checks.specs.Checks.{FailsOf}

-- an entry of a trace, for one of its posts
pub record Place : Type 1 where
  pub c : ToldCodecs
  pub site : SitePlan
  pub plan : PostPlan
  pub k : ℕ
  pub earlier : List Entry
  pub e : Entry
  pub behind : List Entry
  pub a : About
  pub before : KeptPost
  pub later : KeptPost
  pub steps : List ToldStep
  pub after : List ToldStep
  pub v : Around
  pub mandated : Bool
  pub stays : Bool
  pub passes : Bool
  pub so : AreSteps c site plan k earlier e a before later steps after
  pub is : IsAround c site plan k earlier e behind steps after v
  pub mandated_is : IsTrue mandated ↔ IsMandated c plan steps
  pub stays_is : IsTrue stays ↔ IsMandated c plan after
  pub passes_is : IsTrue passes ↔ Passes c site earlier e behind k

-- ---- truth values

differ : false ≡ true → ⊥
differ h = cc

and_both : (a b : Bool) → a ≡ true → b ≡ true → (a && b) ≡ true
and_both true b h k = k
and_both false b h k = cc

by_or : (a b : Bool) → (a || b) ≡ true → (a ≡ true) ⊎ (b ≡ true)
by_or true b h = inl refl
by_or false b h = inr h

or_first : (a b : Bool) → a ≡ true → (a || b) ≡ true
or_first true b h = refl
or_first false b h = cc

or_second : (a b : Bool) → b ≡ true → (a || b) ≡ true
or_second true b h = refl
or_second false b h = h

not_true : (b : Bool) → (b ≡ true → ⊥) → not b ≡ true
not_true true h = absurd (h refl)
not_true false h = refl

true_not : (b : Bool) → not b ≡ true → b ≡ true → ⊥
true_not true h k = differ h
true_not false h k = differ k

untrue : (b : Bool) → not b ≡ true → b ≡ false
untrue true is = cc
untrue false is = refl

false_not : (b : Bool) → b ≡ false → not b ≡ true
false_not true is = cc
false_not false is = refl

-- ---- entries

close_of : (given : Order) → is_close given ≡ true → given ≡ order.Close
close_of order.Open is = absurd (differ is)
close_of order.Close is = refl
close_of (order.Limits voltage current watts) is = absurd (differ is)

closes_of : (k : ℕ) (e : Entry) → closes_at k e ≡ true → (taken : Bool) × (e ≡ entry.Drove k order.Close taken)
closes_of k (entry.Heard heard bytes) is = absurd (differ is)
closes_of k entry.Lost is = absurd (differ is)
closes_of k (entry.Sent post bytes taken) is = absurd (differ is)
closes_of k (entry.Answered post bytes taken) is = absurd (differ is)
closes_of k (entry.Drove post given taken) is =
    let parts = and_parts (post == k) (is_close given) is in
    let same : post ≡ k = eqb-true post k parts.0 in
    (taken, ap (λ (n : ℕ). entry.Drove n given taken) same ∙ ap (λ (o : Order). entry.Drove k o taken) (close_of given parts.1))
closes_of k (entry.Dialed port taken) is = absurd (differ is)
closes_of k (entry.Ended post cause) is = absurd (differ is)

closes_back : (k : ℕ) (e : Entry) (taken : Bool) → e ≡ entry.Drove k order.Close taken → closes_at k e ≡ true
closes_back k e taken is = ap (closes_at k) is ∙ and_both (k == k) true (eq-eqb k k refl) refl

sends_of : (k : ℕ) (e : Entry) → sends_at k e ≡ true → (bytes : List ℕ) × (taken : Bool) × (e ≡ entry.Sent k bytes taken)
sends_of k (entry.Heard heard bytes) is = absurd (differ is)
sends_of k entry.Lost is = absurd (differ is)
sends_of k (entry.Sent post bytes taken) is = (bytes, taken, ap (λ (n : ℕ). entry.Sent n bytes taken) (eqb-true post k is))
sends_of k (entry.Answered post bytes taken) is = absurd (differ is)
sends_of k (entry.Drove post given taken) is = absurd (differ is)
sends_of k (entry.Dialed port taken) is = absurd (differ is)
sends_of k (entry.Ended post cause) is = absurd (differ is)

sends_back : (k : ℕ) (e : Entry) (bytes : List ℕ) (taken : Bool) → e ≡ entry.Sent k bytes taken → sends_at k e ≡ true
sends_back k e bytes taken is = ap (sends_at k) is ∙ eq-eqb k k refl

sends_so : (p : Place) (bytes : List ℕ) (taken : Bool) → p.e ≡ entry.Sent p.k bytes taken → SendsSo p.c p.plan p.a bytes taken p.steps p.after
sends_so p bytes taken is =
    subst (λ (b : Bool). MatchBool b (SendsSo p.c p.plan p.a bytes taken p.steps p.after) (p.after ≡ p.steps)) (eq-eqb p.k p.k refl)
    (subst (λ (e : Entry). StepIs p.c p.plan p.k p.earlier p.steps p.a e p.after) is p.so.step_is)

-- ---- posts

abbrev told : Place → ToldPost
told p = record { plan = p.plan; steps = p.steps }

abbrev told_after : Place → ToldPost
told_after p = record { plan = p.plan; steps = p.after }

one_before : (p : Place) (n : ℕ) (post : ToldPost) → n ≡ p.k → IsPostOf p.c p.site p.earlier n post → post ≡ told p
one_before p n post same is = p.so.only_before.only post (subst (λ (m : ℕ). IsPostOf p.c p.site p.earlier m post) same is)

one_after : (p : Place) (n : ℕ) (post : ToldPost) → n ≡ p.k → IsPostOf p.c p.site (p.e ∷ p.earlier) n post → post ≡ told_after p
one_after p n post same is = p.so.only_later.only post (subst (λ (m : ℕ). IsPostOf p.c p.site (p.e ∷ p.earlier) m post) same is)

said_same : (reading other : Option Reading) (bytes given : List ℕ) (taken failed : Bool) (said told : Said) (steps rest : List ToldStep)
    → Sends reading bytes taken said ∷ steps ≡ Sends other given failed told ∷ rest → said ≡ told
said_same reading other bytes given taken failed said told steps rest is = cc

says : (p : Place) (bytes : List ℕ) (taken : Bool) (post : ToldPost) (reading : Option Reading) (said : Said) (rest : List ToldStep)
    → p.e ≡ entry.Sent p.k bytes taken → post ≡ told_after p → post.steps ≡ Sends reading bytes taken said ∷ rest → p.a.saying ≡ said_as said
says p bytes taken post reading said rest entry_is same steps_are =
    let s = sends_so p bytes taken entry_is in
    s.says ∙ ap said_as (said_same s.reading reading bytes bytes taken taken s.said said p.steps rest
    (sym s.later_is ∙ sym (ap (λ (q : ToldPost). q.steps) same) ∙ steps_are))

sent_at : (p : Place) (n : ℕ) (bytes : List ℕ) (taken : Bool) → n ≡ p.k → p.e ≡ entry.Sent n bytes taken → p.e ≡ entry.Sent p.k bytes taken
sent_at p n bytes taken same is = is ∙ ap (λ (m : ℕ). entry.Sent m bytes taken) same

-- ---- what was sent

code_told : (x : Code) → is_accepted x ≡ true → IsOkClass x
code_told code.Ok h = tt
code_told code.OkNewSessionEstablished h = tt
code_told code.OkOldSessionJoined h = tt
code_told code.OkCertificateExpiresSoon h = tt
code_told x h = absurd (differ h)

code_back : (x : Code) → IsOkClass x → is_accepted x ≡ true
code_back code.Ok h = refl
code_back code.OkNewSessionEstablished h = refl
code_back code.OkOldSessionJoined h = refl
code_back code.OkCertificateExpiresSoon h = refl
code_back x h = absurd h

failed_told : (said : Said) → has_failed (said_as said) ≡ true → HasFailedCode said
failed_told (Response chosen positive) is = untrue positive is
failed_told (Replied request reply watts) is = λ ok. true_not (is_accepted reply.code) is (code_back reply.code ok)
failed_told Other is = absurd (differ is)
failed_told Unasked is = absurd (differ is)

failed_back : (said : Said) → HasFailedCode said → has_failed (said_as said) ≡ true
failed_back (Response chosen positive) is = false_not positive is
failed_back (Replied request reply watts) is = not_true (is_accepted reply.code) (λ ok. is (code_told reply.code ok))
failed_back Other is = absurd is
failed_back Unasked is = absurd is

good_told : (said : Said) → is_good (said_as said) ≡ true
    → (request : Request) × (reply : Reply) × (watts : SpelledWatts) × (said ≡ Replied request reply watts) × IsOkClass reply.code
good_told (Response chosen positive) is = absurd (differ is)
good_told (Replied request reply watts) is = (request, reply, watts, refl, code_told reply.code is)
good_told Other is = absurd (differ is)
good_told Unasked is = absurd (differ is)

nothing_told : (said : Said) → is_no_answer (said_as said) ≡ true → (said ≡ Other) ⊎ (said ≡ Unasked)
nothing_told (Response chosen positive) is = absurd (differ is)
nothing_told (Replied request reply watts) is = absurd (differ is)
nothing_told Other is = inl refl
nothing_told Unasked is = inr refl

nothing_back : (said : Said) → (said ≡ Other) ⊎ (said ≡ Unasked) → is_no_answer (said_as said) ≡ true
nothing_back said (inl is) = ap (λ (x : Said). is_no_answer (said_as x)) is
nothing_back said (inr is) = ap (λ (x : Said). is_no_answer (said_as x)) is

-- ---- the first

closes_told : (p : Place) → (closes_at p.k p.e && not p.mandated) ≡ true → FailsOf p.c p.site p.earlier p.e p.behind p.k check.ClosesUnmandated
closes_told p is =
    let parts = and_parts (closes_at p.k p.e) (not p.mandated) is in
    let found = closes_of p.k p.e parts.0 in (
      record {
        k = p.k;
        taken = found.0;
        post = told p;
        entry_is = found.1;
        is = p.so.only_before.is;
        unmandated = λ mandate. true_not p.mandated parts.1 (p.mandated_is.1 mandate);
      },
      refl,
    )

closes_untold : (p : Place) → FailsOf p.c p.site p.earlier p.e p.behind p.k check.ClosesUnmandated → (closes_at p.k p.e && not p.mandated) ≡ true
closes_untold p (f, same) =
    and_both (closes_at p.k p.e) (not p.mandated)
    (closes_back p.k p.e f.taken (f.entry_is ∙ ap (λ (m : ℕ). entry.Drove m order.Close f.taken) same))
    (not_true p.mandated (λ is. f.unmandated (subst (λ (q : ToldPost). IsMandated p.c q.plan q.steps) (sym (one_before p f.k f.post same f.is)) (p.mandated_is.0 is))))

-- ---- the second

live_told : (p : Place) → (sends_at p.k p.e && (has_failed p.a.saying && p.before.contactor.live)) ≡ true → FailsOf p.c p.site p.earlier p.e p.behind p.k check.FailsLive
live_told p is =
    let outer = and_parts (sends_at p.k p.e) (has_failed p.a.saying && p.before.contactor.live) is in
    let inner = and_parts (has_failed p.a.saying) p.before.contactor.live outer.1 in
    let sent = sends_of p.k p.e outer.0 in
    let s = sends_so p sent.0 sent.1 sent.2 in (
      record {
        k = p.k;
        bytes = sent.0;
        taken = sent.1;
        post = told_after p;
        reading = s.reading;
        said = s.said;
        steps = p.steps;
        entry_is = sent.2;
        is = p.so.only_later.is;
        steps_are = s.later_is;
        failed = failed_told s.said (sym (ap has_failed s.says) ∙ inner.0);
        live_is = sym p.so.before_are.contactor_is.live_is ∙ inner.1;
      },
      refl,
    )

live_untold : (p : Place) → FailsOf p.c p.site p.earlier p.e p.behind p.k check.FailsLive → (sends_at p.k p.e && (has_failed p.a.saying && p.before.contactor.live)) ≡ true
live_untold p (f, same) =
    let entry_is = sent_at p f.k f.bytes f.taken same f.entry_is in
    let saying = says p f.bytes f.taken f.post f.reading f.said f.steps entry_is (one_after p f.k f.post same f.is) f.steps_are in
    and_both (sends_at p.k p.e) (has_failed p.a.saying && p.before.contactor.live) (sends_back p.k p.e f.bytes f.taken entry_is)
    (and_both (has_failed p.a.saying) p.before.contactor.live (ap has_failed saying ∙ failed_back f.said f.failed)
    (p.so.before_are.contactor_is.live_is ∙ subst (λ (m : ℕ). live (seen m p.earlier) ≡ true) same f.live_is))

-- ---- the third

cause_told : (p : Place) → p.passes ≡ true → FailsOf p.c p.site p.earlier p.e p.behind p.k check.PassesCause
cause_told p is = (record { k = p.k; passes = p.passes_is.0 is }, refl)

cause_untold : (p : Place) → FailsOf p.c p.site p.earlier p.e p.behind p.k check.PassesCause → p.passes ≡ true
cause_untold p (f, same) = p.passes_is.1 (subst (λ (m : ℕ). Passes p.c p.site p.earlier p.e p.behind m) same f.passes)

-- ---- the fourth

must_of : (s : Standing) → contactors.has_failed s ≡ true → s ≡ MustOpen
must_of MustOpen is = refl
must_of s is = absurd (differ is)

abbrev IsForgotten : ℕ → List Entry → Type 0
IsForgotten k past = (list_any (is_act_of k) (in_block past) ≡ false) × (standing (seen k (before_block past)) ≡ MustOpen)

forgotten_told : (k : ℕ) (past : List Entry) (v : ContactorValues) → contactor_values.AreOf k past v → contactors.is_forgotten v ≡ true → IsForgotten k past
forgotten_told k past v h is =
    let parts = and_parts (not v.acted) (contactors.has_failed v.stood) is in
    (sym h.acted_is ∙ untrue v.acted parts.0, sym h.stood_is ∙ must_of v.stood parts.1)

forgotten_back : (k : ℕ) (past : List Entry) (v : ContactorValues) → contactor_values.AreOf k past v → IsForgotten k past → contactors.is_forgotten v ≡ true
forgotten_back k past v h (idle, failed) =
    and_both (not v.acted) (contactors.has_failed v.stood) (false_not v.acted (h.acted_is ∙ idle)) (ap contactors.has_failed (h.stood_is ∙ failed))

abbrev Forgets : List Entry → Entry → List Entry → ℕ → Type 0
Forgets earlier e behind k =
    ((is_act_of k e ≡ true) × (opens e ≡ false) × (list_any is_heard earlier ≡ true)
    × (list_any (is_act_of k) (in_block earlier) ≡ false) × (standing (seen k (before_block earlier)) ≡ MustOpen))
    ⊎ (EndsBlock behind (e ∷ earlier) × (list_any (is_act_of k) (in_block (e ∷ earlier)) ≡ false) × (standing (seen k (before_block (e ∷ earlier))) ≡ MustOpen))

abbrev forgets_at : Place → Bool
forgets_at p = is_act_of p.k p.e && (not (opens p.e) && (p.v.begun && contactors.is_forgotten p.before.contactor))

abbrev forgets_behind : Place → Bool
forgets_behind p = p.v.ends && contactors.is_forgotten p.later.contactor

forgets_told : (p : Place) → (forgets_at p || forgets_behind p) ≡ true → Forgets p.earlier p.e p.behind p.k
forgets_told p is = elim (by_or (forgets_at p) (forgets_behind p) is) [
  | inl now ↦ (let outer = and_parts (is_act_of p.k p.e) (not (opens p.e) && (p.v.begun && contactors.is_forgotten p.before.contactor)) now in
      let middle = and_parts (not (opens p.e)) (p.v.begun && contactors.is_forgotten p.before.contactor) outer.1 in
      let inner = and_parts p.v.begun (contactors.is_forgotten p.before.contactor) middle.1 in
      let forgotten = forgotten_told p.k p.earlier p.before.contactor p.so.before_are.contactor_is inner.1 in
      inl (outer.0, untrue (opens p.e) middle.0, sym p.is.begun_is ∙ inner.0, forgotten.0, forgotten.1))
  | inr at_end ↦ (let parts = and_parts p.v.ends (contactors.is_forgotten p.later.contactor) at_end in
      let forgotten = forgotten_told p.k (p.e ∷ p.earlier) p.later.contactor p.so.later_are.contactor_is parts.1 in
      inr (p.is.ends_is.0 parts.0, forgotten.0, forgotten.1))
]

forgets_untold : (p : Place) → Forgets p.earlier p.e p.behind p.k → (forgets_at p || forgets_behind p) ≡ true
forgets_untold p (inl (acts, unopened, begun, idle, failed)) =
    or_first (forgets_at p) (forgets_behind p)
    (and_both (is_act_of p.k p.e) (not (opens p.e) && (p.v.begun && contactors.is_forgotten p.before.contactor)) acts
    (and_both (not (opens p.e)) (p.v.begun && contactors.is_forgotten p.before.contactor) (false_not (opens p.e) unopened)
    (and_both p.v.begun (contactors.is_forgotten p.before.contactor) (p.is.begun_is ∙ begun)
    (forgotten_back p.k p.earlier p.before.contactor p.so.before_are.contactor_is (idle, failed)))))
forgets_untold p (inr (ends, idle, failed)) =
    or_second (forgets_at p) (forgets_behind p)
    (and_both p.v.ends (contactors.is_forgotten p.later.contactor) (p.is.ends_is.1 ends)
    (forgotten_back p.k (p.e ∷ p.earlier) p.later.contactor p.so.later_are.contactor_is (idle, failed)))

open_told : (p : Place) → (forgets_at p || forgets_behind p) ≡ true → FailsOf p.c p.site p.earlier p.e p.behind p.k check.ForgetsOpen
open_told p is = (record { k = p.k; forgets = forgets_told p is }, refl)

open_untold : (p : Place) → FailsOf p.c p.site p.earlier p.e p.behind p.k check.ForgetsOpen → (forgets_at p || forgets_behind p) ≡ true
open_untold p (f, same) = forgets_untold p (subst (λ (m : ℕ). Forgets p.earlier p.e p.behind m) same f.forgets)

-- ---- the fifth

stays_told : (p : Place) → (p.v.ends && (p.later.contactor.closed && (not p.later.contactor.opened_in_vain && not p.stays))) ≡ true
    → FailsOf p.c p.site p.earlier p.e p.behind p.k check.StaysClosed
stays_told p is =
    let outer = and_parts p.v.ends (p.later.contactor.closed && (not p.later.contactor.opened_in_vain && not p.stays)) is in
    let middle = and_parts p.later.contactor.closed (not p.later.contactor.opened_in_vain && not p.stays) outer.1 in
    let inner = and_parts (not p.later.contactor.opened_in_vain) (not p.stays) middle.1 in (
      record {
        ends = p.is.ends_is.0 outer.0;
        k = p.k;
        post = told_after p;
        is = p.so.only_later.is;
        closed_is = sym p.so.later_are.contactor_is.closed_is ∙ middle.0;
        unmandated = λ mandate. true_not p.stays inner.1 (p.stays_is.1 mandate);
        unopened = sym p.so.later_are.contactor_is.in_vain ∙ untrue p.later.contactor.opened_in_vain inner.0;
      },
      refl,
    )

stays_untold : (p : Place) → FailsOf p.c p.site p.earlier p.e p.behind p.k check.StaysClosed
    → (p.v.ends && (p.later.contactor.closed && (not p.later.contactor.opened_in_vain && not p.stays))) ≡ true
stays_untold p (f, same) =
    and_both p.v.ends (p.later.contactor.closed && (not p.later.contactor.opened_in_vain && not p.stays)) (p.is.ends_is.1 f.ends)
    (and_both p.later.contactor.closed (not p.later.contactor.opened_in_vain && not p.stays)
    (p.so.later_are.contactor_is.closed_is ∙ subst (λ (m : ℕ). closed (seen m (p.e ∷ p.earlier)) ≡ true) same f.closed_is)
    (and_both (not p.later.contactor.opened_in_vain) (not p.stays)
    (false_not p.later.contactor.opened_in_vain
    (p.so.later_are.contactor_is.in_vain ∙ subst (λ (m : ℕ). opened_in_vain (contactor_acts (seen m (p.e ∷ p.earlier))) ≡ false) same f.unopened))
    (not_true p.stays (λ is. f.unmandated (subst (λ (q : ToldPost). IsMandated p.c q.plan q.steps) (sym (one_after p f.k f.post same f.is)) (p.stays_is.0 is))))))

-- ---- the seventh

some_talk : (o : Option TalkValues) → is_some o ≡ true → (t : Talked) × (option_map talked_of o ≡ Some t)
some_talk None is = absurd (differ is)
some_talk (Some values) is = (talked_of values, refl)

talk_some : (o : Option TalkValues) (t : Talked) → option_map talked_of o ≡ Some t → is_some o ≡ true
talk_some None t is = cc
talk_some (Some values) t is = refl

session_is : (p : Place) → option_map talked_of p.later.course.session ≡ (told_course p.plan p.after).session
session_is p = ap (λ (x : Course). x.session) p.so.later_are.course_is

spells_told : (p : Place) → (sends_at p.k p.e && (is_good p.a.saying && (is_some p.later.course.session && not p.v.writes))) ≡ true
    → FailsOf p.c p.site p.earlier p.e p.behind p.k check.SpellsOthers
spells_told p is =
    let outer = and_parts (sends_at p.k p.e) (is_good p.a.saying && (is_some p.later.course.session && not p.v.writes)) is in
    let middle = and_parts (is_good p.a.saying) (is_some p.later.course.session && not p.v.writes) outer.1 in
    let inner = and_parts (is_some p.later.course.session) (not p.v.writes) middle.1 in
    let sent = sends_of p.k p.e outer.0 in
    let s = sends_so p sent.0 sent.1 sent.2 in
    let good = good_told s.said (sym (ap is_good s.says) ∙ middle.0) in
    let talk = some_talk p.later.course.session inner.0 in
    let steps_are : p.after ≡ Sends s.reading sent.0 sent.1 (Replied good.0 good.1 good.2) ∷ p.steps =
    s.later_is ∙ ap (λ (x : Said). Sends s.reading sent.0 sent.1 x ∷ p.steps) good.3 in
    let course_is : (told_course p.plan p.after).session ≡ Some talk.0 = sym (session_is p) ∙ talk.1 in (
      record {
        k = p.k;
        bytes = sent.0;
        taken = sent.1;
        post = told_after p;
        reading = s.reading;
        request = good.0;
        reply = good.1;
        watts = good.2;
        steps = p.steps;
        talked = talk.0;
        entry_is = sent.2;
        is = p.so.only_later.is;
        steps_are = steps_are;
        ok = good.4;
        course_is = course_is;
        others = λ told. true_not p.v.writes inner.1 ((p.is.writes_is s.reading sent.0 sent.1 good.0 good.1 good.2 p.steps talk.0 steps_are course_is).1 told);
      },
      refl,
    )

spells_untold : (p : Place) → FailsOf p.c p.site p.earlier p.e p.behind p.k check.SpellsOthers
    → (sends_at p.k p.e && (is_good p.a.saying && (is_some p.later.course.session && not p.v.writes))) ≡ true
spells_untold p (f, same) =
    let entry_is = sent_at p f.k f.bytes f.taken same f.entry_is in
    let one = one_after p f.k f.post same f.is in
    let saying = says p f.bytes f.taken f.post f.reading (Replied f.request f.reply f.watts) f.steps entry_is one f.steps_are in
    let steps_are : p.after ≡ Sends f.reading f.bytes f.taken (Replied f.request f.reply f.watts) ∷ f.steps = sym (ap (λ (q : ToldPost). q.steps) one) ∙ f.steps_are in
    let course_is : (told_course p.plan p.after).session ≡ Some f.talked =
    subst (λ (q : ToldPost). (told_course q.plan q.steps).session ≡ Some f.talked) one f.course_is in
    and_both (sends_at p.k p.e) (is_good p.a.saying && (is_some p.later.course.session && not p.v.writes)) (sends_back p.k p.e f.bytes f.taken entry_is)
    (and_both (is_good p.a.saying) (is_some p.later.course.session && not p.v.writes) (ap is_good saying ∙ code_back f.reply.code f.ok)
    (and_both (is_some p.later.course.session) (not p.v.writes) (talk_some p.later.course.session f.talked (session_is p ∙ course_is))
    (not_true p.v.writes (λ is. f.others (subst (λ (q : ToldPost). AreTold q.plan f.talked.stage.dialect (told_of q) f.watts) (sym one)
    ((p.is.writes_is f.reading f.bytes f.taken f.request f.reply f.watts f.steps f.talked steps_are course_is).0 is))))))

-- ---- the eighth

ends_told : (p : Place) → (p.v.last && contactors.is_left p.later.contactor) ≡ true → FailsOf p.c p.site p.earlier p.e p.behind p.k check.EndsLive
ends_told p is =
    let outer = and_parts p.v.last (contactors.is_left p.later.contactor) is in
    let inner = and_parts p.later.contactor.live (not p.later.contactor.ends_opened) outer.1 in (
      record {
        newest = p.is.last_is.0 outer.0;
        k = p.k;
        live_is = sym p.so.later_are.contactor_is.live_is ∙ inner.0;
        left = sym p.so.later_are.contactor_is.ends_is ∙ untrue p.later.contactor.ends_opened inner.1;
      },
      refl,
    )

ends_untold : (p : Place) → FailsOf p.c p.site p.earlier p.e p.behind p.k check.EndsLive → (p.v.last && contactors.is_left p.later.contactor) ≡ true
ends_untold p (f, same) =
    and_both p.v.last (contactors.is_left p.later.contactor) (p.is.last_is.1 f.newest)
    (and_both p.later.contactor.live (not p.later.contactor.ends_opened)
    (p.so.later_are.contactor_is.live_is ∙ subst (λ (m : ℕ). live (seen m (p.e ∷ p.earlier)) ≡ true) same f.live_is)
    (false_not p.later.contactor.ends_opened (p.so.later_are.contactor_is.ends_is ∙ subst (λ (m : ℕ). ends_opened m (p.e ∷ p.earlier) ≡ false) same f.left)))

-- ---- the ninth

answers_told : (p : Place) → (sends_at p.k p.e && is_no_answer p.a.saying) ≡ true → FailsOf p.c p.site p.earlier p.e p.behind p.k check.AnswersNothing
answers_told p is =
    let parts = and_parts (sends_at p.k p.e) (is_no_answer p.a.saying) is in
    let sent = sends_of p.k p.e parts.0 in
    let s = sends_so p sent.0 sent.1 sent.2 in (
      record {
        k = p.k;
        bytes = sent.0;
        taken = sent.1;
        post = told_after p;
        reading = s.reading;
        said = s.said;
        steps = p.steps;
        entry_is = sent.2;
        is = p.so.only_later.is;
        steps_are = s.later_is;
        nothing = nothing_told s.said (sym (ap is_no_answer s.says) ∙ parts.1);
      },
      refl,
    )

answers_untold : (p : Place) → FailsOf p.c p.site p.earlier p.e p.behind p.k check.AnswersNothing → (sends_at p.k p.e && is_no_answer p.a.saying) ≡ true
answers_untold p (f, same) =
    let entry_is = sent_at p f.k f.bytes f.taken same f.entry_is in
    let saying = says p f.bytes f.taken f.post f.reading f.said f.steps entry_is (one_after p f.k f.post same f.is) f.steps_are in
    and_both (sends_at p.k p.e) (is_no_answer p.a.saying) (sends_back p.k p.e f.bytes f.taken entry_is) (ap is_no_answer saying ∙ nothing_back f.said f.nothing)

-- ---- the tenth

left_told : (p : Place) → p.v.left ≡ true → FailsOf p.c p.site p.earlier p.e p.behind p.k check.LeavesWord
left_told p is =
    let left = p.is.left_is.0 is in
    (record { ends = left.0; k = p.k; post = told_after p; is = p.so.only_later.is; word = left.1; next = left.2 }, refl)

left_untold : (p : Place) → FailsOf p.c p.site p.earlier p.e p.behind p.k check.LeavesWord → p.v.left ≡ true
left_untold p (f, same) =
    p.is.left_is.1 (f.ends, f.word, subst (λ (q : ToldPost). IsNext p.c.words q.plan.dialects.items (seen_in q.steps) f.word) (one_after p f.k f.post same f.is) f.next)

-- ---- each

pub checked : (p : Place) (x : Check)
    → (IsTrue (fails_by x p.k p.e p.before p.later p.a.saying p.v p.mandated p.stays p.passes) ↔ FailsOf p.c p.site p.earlier p.e p.behind p.k x)
checked p check.ClosesUnmandated = (closes_told p, closes_untold p)
checked p check.FailsLive = (live_told p, live_untold p)
checked p check.PassesCause = (cause_told p, cause_untold p)
checked p check.ForgetsOpen = (open_told p, open_untold p)
checked p check.StaysClosed = (stays_told p, stays_untold p)
checked p check.PassesLimit = p.is.above_is
checked p check.SpellsOthers = (spells_told p, spells_untold p)
checked p check.EndsLive = (ends_told p, ends_untold p)
checked p check.AnswersNothing = (answers_told p, answers_untold p)
checked p check.LeavesWord = (left_told p, left_untold p)
