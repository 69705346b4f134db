-- What is kept behind an entry, of whichever kind it is.
use Rattle.std.proofs.Common.{◌≡◌, ℕ, max, ◌==◌, Bool, true, false, List, ◌∷◌, Option, None, refl, sym, ap, subst, ◌∙◌, eq-eqb}
use Rattle.std.specs.Prelude.{MatchBool}
use Rattle.std.proofs.lemmas.Bool.{eqb-true}
use Rattle.charge_world.specs.declared.entry.Entry.{Entry}
use Rattle.charge_world.specs.declared.entry.Entry.TheVariants as entry
use Rattle.charge_world.specs.declared.heard.Heard.{Heard as Hearing}
use Rattle.charge_world.specs.declared.ports.Order.{Order}
use Rattle.session_words.specs.declared.plan.PostPlan.{PostPlan}
use Rattle.post_spec.specs.Steps.{Give, Answer, End, Reading, moment, event_at}
use Rattle.told_pasts.specs.Checks.{is_heard, is_act_of}
use Rattle.told_pasts.specs.Spelling.{ToldCodecs}
use Rattle.told_pasts.specs.Steps.{Said, ToldStep, Hears, Does, Sends}
use Rattle.audit_course.specs.Values.{said_as, IsRead, IsNextWord}
use Rattle.audit_posts.specs.declared.stepping.About.{About}
use Rattle.audit_posts.specs.declared.values.KeptPost.{KeptPost}
use Rattle.audit_posts.specs.Steps.{HearsSo, SendsSo, DrivesSo, StepIs}
use Rattle.audit_posts.specs.Values.{AreOf, IsMost}

differ : false ≡ true → ⊥
differ h = cc

yes : (A B : Type 0) (b : Bool) → b ≡ true → MatchBool b A B → A
yes A B true is m = m
yes A B false is m = absurd (differ is)

no : (A B : Type 0) (b : Bool) → b ≡ false → MatchBool b A B → B
no A B true is m = absurd (differ (sym is))
no A B false is m = m

not_true : (b : Bool) → (b ≡ true → ⊥) → b ≡ false
not_true true h = absurd (h refl)
not_true false h = refl

apart : (a b : ℕ) → (a ≡ b → ⊥) → (a == b) ≡ false
apart a b h = not_true (a == b) (λ is. h (eqb-true a b is))

step_at : (c : ToldCodecs) (plan : PostPlan) (k : ℕ) (past : List Entry) (steps : List ToldStep) (a : About) (e d : Entry) (later : List ToldStep) → e ≡ d
    → StepIs c plan k past steps a e later → StepIs c plan k past steps a d later
step_at c plan k past steps a e d later is s = subst (λ (x : Entry). StepIs c plan k past steps a x later) is s

kept_at : (c : ToldCodecs) (plan : PostPlan) (k : ℕ) (past : List Entry) (l later : List ToldStep) (r : KeptPost) → later ≡ l → AreOf c plan k past l r → AreOf c plan k past later r
kept_at c plan k past l later r is h = subst (λ (x : List ToldStep). AreOf c plan k past x r) (sym is) h

pub heard_behind : (c : ToldCodecs) (plan : PostPlan) (k : ℕ) (past : List Entry) (steps : List ToldStep) (a : About) (e : Entry) (later : List ToldStep) (r : KeptPost) (heard : Hearing) (bytes : List ℕ)
    → e ≡ entry.Heard heard bytes → StepIs c plan k past steps a e later
    → (IsNextWord c plan (Hears (max (moment past) heard.at) (event_at k heard.what bytes) ∷ steps) a.next
    → AreOf c plan k (e ∷ past) (Hears (max (moment past) heard.at) (event_at k heard.what bytes) ∷ steps) r)
    → AreOf c plan k (e ∷ past) later r
heard_behind c plan k past steps a e later r heard bytes is s f =
    let so : HearsSo c plan a (Hears (max (moment past) heard.at) (event_at k heard.what bytes)) steps later =
    step_at c plan k past steps a e (entry.Heard heard bytes) later is s in
    kept_at c plan k (e ∷ past) _ later r so.later_is (f so.next)

pub sent_behind : (c : ToldCodecs) (plan : PostPlan) (k : ℕ) (past : List Entry) (steps : List ToldStep) (a : About) (e : Entry) (later : List ToldStep) (r : KeptPost) (at : ℕ) (bytes : List ℕ) (taken : Bool)
    → e ≡ entry.Sent at bytes taken → at ≡ k → StepIs c plan k past steps a e later
    → ((reading : Option Reading) (said : Said) → e ≡ entry.Sent k bytes taken → IsRead a.judged a.shown reading → a.saying ≡ said_as said → IsMost plan said a.most
    → IsNextWord c plan (Sends reading bytes taken said ∷ steps) a.next → AreOf c plan k (e ∷ past) (Sends reading bytes taken said ∷ steps) r)
    → AreOf c plan k (e ∷ past) later r
sent_behind c plan k past steps a e later r at bytes taken is same s f =
    let so : SendsSo c plan a bytes taken steps later = yes _ _ (at == k) (eq-eqb at k same) (step_at c plan k past steps a e (entry.Sent at bytes taken) later is s) in
    kept_at c plan k (e ∷ past) _ later r so.later_is
    (f so.reading so.said (is ∙ ap (λ (n : ℕ). entry.Sent n bytes taken) same) so.read so.says so.most so.next)

pub driven_behind : (c : ToldCodecs) (plan : PostPlan) (k : ℕ) (past : List Entry) (steps : List ToldStep) (a : About) (e : Entry) (later : List ToldStep) (r : KeptPost) (at : ℕ) (given : Order) (taken : Bool)
    → e ≡ entry.Drove at given taken → at ≡ k → StepIs c plan k past steps a e later
    → ((reading : Option Reading) → e ≡ entry.Drove k given taken → IsRead a.judged a.shown reading
    → IsNextWord c plan (Does reading (Give given) taken ∷ steps) a.next → AreOf c plan k (e ∷ past) (Does reading (Give given) taken ∷ steps) r)
    → AreOf c plan k (e ∷ past) later r
driven_behind c plan k past steps a e later r at given taken is same s f =
    let so : DrivesSo c plan a given taken steps later = yes _ _ (at == k) (eq-eqb at k same) (step_at c plan k past steps a e (entry.Drove at given taken) later is s) in
    kept_at c plan k (e ∷ past) _ later r so.later_is (f so.reading (is ∙ ap (λ (n : ℕ). entry.Drove n given taken) same) so.read so.next)

pub answered_behind : (c : ToldCodecs) (plan : PostPlan) (k : ℕ) (past : List Entry) (steps : List ToldStep) (a : About) (e : Entry) (later : List ToldStep) (r : KeptPost) (at : ℕ) (bytes : List ℕ) (taken : Bool)
    → e ≡ entry.Answered at bytes taken → at ≡ k → StepIs c plan k past steps a e later
    → (e ≡ entry.Answered k bytes taken → AreOf c plan k (e ∷ past) (Does None (Answer bytes) taken ∷ steps) r) → AreOf c plan k (e ∷ past) later r
answered_behind c plan k past steps a e later r at bytes taken is same s f =
    kept_at c plan k (e ∷ past) _ later r (yes _ _ (at == k) (eq-eqb at k same) (step_at c plan k past steps a e (entry.Answered at bytes taken) later is s))
    (f (is ∙ ap (λ (n : ℕ). entry.Answered n bytes taken) same))

pub ended_behind : (c : ToldCodecs) (plan : PostPlan) (k : ℕ) (past : List Entry) (steps : List ToldStep) (a : About) (e : Entry) (later : List ToldStep) (r : KeptPost) (at cause : ℕ)
    → e ≡ entry.Ended at cause → at ≡ k → StepIs c plan k past steps a e later
    → (e ≡ entry.Ended k cause → AreOf c plan k (e ∷ past) (Does None (End cause) true ∷ steps) r) → AreOf c plan k (e ∷ past) later r
ended_behind c plan k past steps a e later r at cause is same s f =
    kept_at c plan k (e ∷ past) _ later r (yes _ _ (at == k) (eq-eqb at k same) (step_at c plan k past steps a e (entry.Ended at cause) later is s))
    (f (is ∙ ap (λ (n : ℕ). entry.Ended n cause) same))

-- ---- an entry that is none of this post

-- what is kept behind it, where it is neither a hearing nor an act of this post
abbrev pub Passes : ToldCodecs → PostPlan → ℕ → List Entry → List ToldStep → Entry → KeptPost → Type 0
Passes c plan k past steps e r = is_heard e ≡ false → is_act_of k e ≡ false → AreOf c plan k (e ∷ past) steps r

pub passed_sent : (c : ToldCodecs) (plan : PostPlan) (k : ℕ) (past : List Entry) (steps : List ToldStep) (a : About) (e : Entry) (later : List ToldStep) (r : KeptPost) (at : ℕ) (bytes : List ℕ) (taken : Bool)
    → e ≡ entry.Sent at bytes taken → (at ≡ k → ⊥) → StepIs c plan k past steps a e later → Passes c plan k past steps e r → AreOf c plan k (e ∷ past) later r
passed_sent c plan k past steps a e later r at bytes taken is other s f =
    kept_at c plan k (e ∷ past) steps later r (no _ _ (at == k) (apart at k other) (step_at c plan k past steps a e (entry.Sent at bytes taken) later is s))
    (f (ap is_heard is) (ap (λ (d : Entry). is_act_of k d) is ∙ apart at k other))

pub passed_answered : (c : ToldCodecs) (plan : PostPlan) (k : ℕ) (past : List Entry) (steps : List ToldStep) (a : About) (e : Entry) (later : List ToldStep) (r : KeptPost) (at : ℕ) (bytes : List ℕ) (taken : Bool)
    → e ≡ entry.Answered at bytes taken → (at ≡ k → ⊥) → StepIs c plan k past steps a e later → Passes c plan k past steps e r → AreOf c plan k (e ∷ past) later r
passed_answered c plan k past steps a e later r at bytes taken is other s f =
    kept_at c plan k (e ∷ past) steps later r (no _ _ (at == k) (apart at k other) (step_at c plan k past steps a e (entry.Answered at bytes taken) later is s))
    (f (ap is_heard is) (ap (λ (d : Entry). is_act_of k d) is ∙ apart at k other))

pub passed_drove : (c : ToldCodecs) (plan : PostPlan) (k : ℕ) (past : List Entry) (steps : List ToldStep) (a : About) (e : Entry) (later : List ToldStep) (r : KeptPost) (at : ℕ) (given : Order) (taken : Bool)
    → e ≡ entry.Drove at given taken → (at ≡ k → ⊥) → StepIs c plan k past steps a e later → Passes c plan k past steps e r → AreOf c plan k (e ∷ past) later r
passed_drove c plan k past steps a e later r at given taken is other s f =
    kept_at c plan k (e ∷ past) steps later r (no _ _ (at == k) (apart at k other) (step_at c plan k past steps a e (entry.Drove at given taken) later is s))
    (f (ap is_heard is) (ap (λ (d : Entry). is_act_of k d) is ∙ apart at k other))

pub passed_ended : (c : ToldCodecs) (plan : PostPlan) (k : ℕ) (past : List Entry) (steps : List ToldStep) (a : About) (e : Entry) (later : List ToldStep) (r : KeptPost) (at cause : ℕ)
    → e ≡ entry.Ended at cause → (at ≡ k → ⊥) → StepIs c plan k past steps a e later → Passes c plan k past steps e r → AreOf c plan k (e ∷ past) later r
passed_ended c plan k past steps a e later r at cause is other s f =
    kept_at c plan k (e ∷ past) steps later r (no _ _ (at == k) (apart at k other) (step_at c plan k past steps a e (entry.Ended at cause) later is s))
    (f (ap is_heard is) (ap (λ (d : Entry). is_act_of k d) is ∙ apart at k other))

pub passed_lost : (c : ToldCodecs) (plan : PostPlan) (k : ℕ) (past : List Entry) (steps : List ToldStep) (a : About) (e : Entry) (later : List ToldStep) (r : KeptPost)
    → e ≡ entry.Lost → StepIs c plan k past steps a e later → Passes c plan k past steps e r → AreOf c plan k (e ∷ past) later r
passed_lost c plan k past steps a e later r is s f =
    kept_at c plan k (e ∷ past) steps later r (step_at c plan k past steps a e entry.Lost later is s) (f (ap is_heard is) (ap (λ (d : Entry). is_act_of k d) is))

pub passed_dialed : (c : ToldCodecs) (plan : PostPlan) (k : ℕ) (past : List Entry) (steps : List ToldStep) (a : About) (e : Entry) (later : List ToldStep) (r : KeptPost) (port : ℕ) (taken : Bool)
    → e ≡ entry.Dialed port taken → StepIs c plan k past steps a e later → Passes c plan k past steps e r → AreOf c plan k (e ∷ past) later r
passed_dialed c plan k past steps a e later r port taken is s f =
    kept_at c plan k (e ∷ past) steps later r (step_at c plan k past steps a e (entry.Dialed port taken) later is s) (f (ap is_heard is) (ap (λ (d : Entry). is_act_of k d) is))
