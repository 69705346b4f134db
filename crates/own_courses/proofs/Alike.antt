-- A told course and that of the run are alike.
use Rattle.std.proofs.Common.{◌≡◌, ℕ, Bool, true, false, List, ◌∷◌, map, Option, Some, None, refl, sym, ap, subst, ◌∙◌, inl, inr, ◌⊎◌}
use Rattle.session_words.specs.declared.plan.PostPlan.{PostPlan}
use Rattle.session_words.specs.declared.session.SessionId.{SessionId}
use Rattle.post_spec.specs.Course.{Talked, Course, course, opened, renew_heard, read_by, confirmed_in, kept_by, acted}
use Rattle.post_spec.specs.Sessions.{arriving}
use Rattle.post_spec.specs.Steps.{Event, Came, Bytes, Gone, Datagram, Plant, Clock, Over, Act, Give, Send, Answer, End, Seen, Heard, Did, Reading, Step, Hears, seen_of}
use Rattle.told_pasts.specs.Course.{told_course}
use Rattle.told_pasts.specs.Spelling.{ToldCodecs}
use Rattle.told_pasts.specs.Steps as told
use Rattle.told_pasts.specs.Steps.{ToldStep, seen_in}
use Rattle.silent_runs.specs.Silent.{IsSilent}
use Rattle.own_traces.proofs.Opening.{All}
use Rattle.own_traces.specs.Owning.{TellsOwn}
use Rattle.own_traces.proofs.Told.{IsToldRun}
use Rattle.own_traces.proofs.Talks.{AllSaid}

-- what is known of both
pub record Known (c : ToldCodecs) (plan : PostPlan) (old : List ToldStep) (steps : List Step) : Type 0 where
  pub own : TellsOwn c
  pub all : All c.words plan steps
  pub silent : IsSilent (map seen_of steps)
  pub told : IsToldRun c plan old
  pub same : seen_in old ≡ map seen_of steps
  pub said : AllSaid c plan old

-- Alike but that without a session, and where none begins, it says nothing whether the car is still to be asked to negotiate anew
pub record AreAlike (past : List Seen) (a b : Course) : Type 0 where
  pub session_is : a.session ≡ b.session
  pub kept_is : a.kept ≡ b.kept
  pub joined_is : a.joined ≡ b.joined
  pub renew_is : (a.renew ≡ b.renew) ⊎ ((a.session ≡ None) × (arriving past ≡ None))

courses_by : (s t : Option Talked) (k l : Option SessionId) (j i r q : Bool) → s ≡ t → k ≡ l → j ≡ i → r ≡ q
    → ◌≡◌ {A = Course} (record { session = s; kept = k; joined = j; renew = r }) (record { session = t; kept = l; joined = i; renew = q })
courses_by s t k l j i r q a b c d = cc

-- while a session lives they are one
pub as_one : (past : List Seen) (a b : Course) (t : Talked) → AreAlike past a b → b.session ≡ Some t → a ≡ b
as_one past a b t l s = elim l.renew_is [
  | inl r ↦ courses_by a.session b.session a.kept b.kept a.joined b.joined a.renew b.renew l.session_is l.kept_is l.joined_is r
  | inr n ↦ absurd (let x : None ≡ Some t = sym n.0 ∙ l.session_is ∙ s in cc)
]

pub same_alike : (past : List Seen) (a b : Course) → a ≡ b → AreAlike past a b
same_alike past a b e = subst (AreAlike past a) e (record { session_is = refl; kept_is = refl; joined_is = refl; renew_is = inl refl })

-- ---- a hearing

renew_came : (at : ℕ) (e : Event) (past : List Seen) (a b : Bool) → (renew_heard e a ≡ renew_heard e b) ⊎ (arriving (Heard at e ∷ past) ≡ None)
renew_came at (Came token) past a b = inl refl
renew_came at (Bytes bytes) past a b = inr refl
renew_came at Gone past a b = inr refl
renew_came at (Datagram bytes) past a b = inr refl
renew_came at (Plant event) past a b = inr refl
renew_came at Clock past a b = inr refl
renew_came at Over past a b = inr refl

heard_by : (past : List Seen) (at : ℕ) (e : Event) (a b : Course) (came : Option Seen) → arriving past ≡ came → AreAlike past a b
    → AreAlike (Heard at e ∷ past) (record (opened came a) { renew = renew_heard e (opened came a).renew }) (record (opened came b) { renew = renew_heard e (opened came b).renew })
heard_by past at e a b None h l = elim l.renew_is [
  | inl r ↦ record { session_is = l.session_is; kept_is = l.kept_is; joined_is = l.joined_is; renew_is = inl (ap (renew_heard e) r) }
  | inr n ↦ record {
    session_is = l.session_is;
    kept_is = l.kept_is;
    joined_is = l.joined_is;
    renew_is = elim (renew_came at e past a.renew b.renew) [
      | inl r ↦ inl r
      | inr u ↦ inr (n.0, u)
    ];
  }
]
heard_by past at e a b (Some (Heard m f)) h l = elim l.renew_is [
  | inl r ↦ record { session_is = refl; kept_is = l.kept_is; joined_is = refl; renew_is = inl (ap (renew_heard e) r) }
  | inr n ↦ absurd (let x : None ≡ Some (Heard m f) = sym n.1 ∙ h in cc)
]
heard_by past at e a b (Some (Did act taken)) h l = elim l.renew_is [
  | inl r ↦ record { session_is = l.session_is; kept_is = l.kept_is; joined_is = l.joined_is; renew_is = inl (ap (renew_heard e) r) }
  | inr n ↦ absurd (let x : None ≡ Some (Did act taken) = sym n.1 ∙ h in cc)
]

pub heard_alike : (plan : PostPlan) (old : List ToldStep) (steps : List Step) (at : ℕ) (e : Event) → seen_in old ≡ map seen_of steps → AreAlike (map seen_of steps) (told_course plan old) (course plan steps)
    → AreAlike (map seen_of (Hears at e ∷ steps)) (told_course plan (told.Hears at e ∷ old)) (course plan (Hears at e ∷ steps))
heard_alike plan old steps at e same l =
    let a = told_course plan old in
    let b = course plan steps in
    subst (λ (xs : List Seen). AreAlike (map seen_of (Hears at e ∷ steps)) (record (opened (arriving xs) a) { renew = renew_heard e (opened (arriving xs) a).renew }) (course plan (Hears at e ∷ steps))) (sym same)
    (heard_by (map seen_of steps) at e a b (arriving (map seen_of steps)) refl l)

-- ---- an act that reads the same

read_one : (past : List Seen) (a b : Course) (plan : PostPlan) (r : Option Reading) (s : Option Talked) → b.session ≡ s → AreAlike past a b → AreAlike past (read_by a.session past a plan r) (read_by b.session past b plan r)
read_one past a b plan r None e l =
    let f : a.session ≡ None = l.session_is ∙ e in
    let x : read_by a.session past a plan r ≡ a = ap (λ (s : Option Talked). read_by s past a plan r) f in
    let y : read_by b.session past b plan r ≡ b = ap (λ (s : Option Talked). read_by s past b plan r) e in
    subst (λ (z : Course). AreAlike past z (read_by b.session past b plan r)) (sym x) (subst (λ (z : Course). AreAlike past a z) (sym y) l)
read_one past a b plan r (Some t) e l =
    let same = as_one past a b t l e in
    same_alike past (read_by a.session past a plan r) (read_by b.session past b plan r) (ap (λ (z : Course). read_by z.session past z plan r) same)

pub read_alike : (plan : PostPlan) (past : List Seen) (a b : Course) (r q : Option Reading) → r ≡ q → AreAlike past a b → AreAlike past (read_by a.session past a plan r) (read_by b.session past b plan q)
read_alike plan past a b r q e l = subst (λ (x : Option Reading). AreAlike past (read_by a.session past a plan r) (read_by b.session past b plan x)) e (read_one past a b plan r b.session refl l)

confirmed_none : (s : Option Talked) → s ≡ None → confirmed_in s ≡ None
confirmed_none None h = refl
confirmed_none (Some t) h = cc

sent_alike : (past : List Seen) (bytes : List ℕ) (a b : Course) → AreAlike past a b → AreAlike (Did (Send bytes) true ∷ past) (acted (Send bytes) true a) (acted (Send bytes) true b)
sent_alike past bytes a b l = record {
  session_is = ap confirmed_in l.session_is;
  kept_is = l.kept_is;
  joined_is = l.joined_is;
  renew_is = elim l.renew_is [
    | inl r ↦ inl r
    | inr n ↦ inr (confirmed_none a.session n.0, n.1)
  ];
}

ended_alike : (past : List Seen) (cause : ℕ) (taken : Bool) (a b : Course) → AreAlike past a b → AreAlike (Did (End cause) taken ∷ past) (acted (End cause) taken a) (acted (End cause) taken b)
ended_alike past cause taken a b l = record {
  session_is = refl;
  kept_is = ap (λ (s : Option Talked). kept_by s cause a.kept) l.session_is ∙ ap (kept_by b.session cause) l.kept_is;
  joined_is = refl;
  renew_is = elim l.renew_is [
    | inl r ↦ inl r
    | inr n ↦ inr (refl, n.1)
  ];
}

-- an act
pub acted_alike : (past : List Seen) (act : Act) (taken : Bool) (a b : Course) → AreAlike past a b → AreAlike (Did act taken ∷ past) (acted act taken a) (acted act taken b)
acted_alike past (Give o) taken a b l = record { session_is = l.session_is; kept_is = l.kept_is; joined_is = l.joined_is; renew_is = l.renew_is }
acted_alike past (Answer bytes) taken a b l = record { session_is = l.session_is; kept_is = l.kept_is; joined_is = l.joined_is; renew_is = l.renew_is }
acted_alike past (Send bytes) false a b l = record { session_is = l.session_is; kept_is = l.kept_is; joined_is = l.joined_is; renew_is = l.renew_is }
acted_alike past (Send bytes) true a b l = sent_alike past bytes a b l
acted_alike past (End cause) taken a b l = ended_alike past cause taken a b l
