-- What each step changes of the values.
use Rattle.std.proofs.Common.{◌≡◌, ◌⊎◌, inl, inr, ◌↔◌, ℕ, ◌==◌, Bool, true, false, List, [], ◌∷◌, Option, Some, None, refl, sym, ◌∙◌}
use Rattle.std.specs.Prelude.{not, ◌&&◌, ◌||◌, if◌then◌else◌, is_some, IsTrue}
use Rattle.std.proofs.lemmas.Bool.{and_parts}
use Rattle.charge_world.specs.declared.heard.What.{What}
use Rattle.charge_world.specs.declared.heard.What.TheVariants as what
use Rattle.charge_world.specs.declared.ports.Order.{Order}
use Rattle.charge_world.specs.declared.ports.Order.TheVariants as order
use Rattle.session_words.specs.declared.plan.PostPlan.{PostPlan}
use Rattle.post_spec.specs.Contactors.{live}
use Rattle.post_spec.specs.Sessions.{arriving, if_came}
use Rattle.post_spec.specs.Steps.{Event, Came, Bytes, Gone, Datagram, Plant, Clock, Over, Give, Answer, End, Seen, Reading, event_at}
use Rattle.post_spec.specs.Talk.{Unless}
use Rattle.told_pasts.specs.Causes.{CameBefore, HasCause, IsFirst, GoesOn, OwesOpen}
use Rattle.told_pasts.specs.Checks.{is_open}
use Rattle.told_pasts.specs.Spelling.{ToldCodecs}
use Rattle.told_pasts.specs.Steps.{Said, ToldStep, Hears, Does, Sends, seen_in}
use Rattle.audit_causes.specs.declared.values.CauseValues.{CauseValues}
use Rattle.audit_causes.specs.Values.{Comes, AreOf, stepped, came_in, heard_by}

pub differ : false ≡ true → ⊥
differ h = cc

pub by_or : (a b : Bool) → (a || b) ≡ true → (a ≡ true) ⊎ (b ≡ true)
by_or true b is = inl refl
by_or false b is = inr is

pub or_first : (a b : Bool) → a ≡ true → (a || b) ≡ true
or_first true b is = refl
or_first false b is = cc

pub or_second : (a b : Bool) → b ≡ true → (a || b) ≡ true
or_second true b is = refl
or_second false b is = is

pub and_both : (a b : Bool) → a ≡ true → b ≡ true → (a && b) ≡ true
and_both true b h k = k
and_both false b h k = cc

pub not_true : (b : Bool) → (b ≡ true → ⊥) → not b ≡ true
not_true true h = absurd (h refl)
not_true false h = refl

pub true_not : (b : Bool) → not b ≡ true → b ≡ true → ⊥
true_not true h k = differ h
true_not false h k = differ k

-- ---- of any step

first_of_step : (c : ToldCodecs) (plan : PostPlan) (step : ToldStep) (steps : List ToldStep) (earlier is_live : Bool) → Comes c plan (step ∷ steps)
    → (CameBefore (HasCause c plan steps) step steps → earlier ≡ true) → is_live ≡ live (seen_in (step ∷ steps)) → (not earlier && is_live) ≡ true → IsFirst c plan step steps
first_of_step c plan step steps earlier is_live comes before same is =
    let parts = and_parts (not earlier) is_live is in
    record { cause = comes.0; comes = comes.1; first = λ h. true_not earlier parts.0 (before h); live_is = sym same ∙ parts.1 }

step_told : (c : ToldCodecs) (plan : PostPlan) (step : ToldStep) (steps : List ToldStep) (v : CauseValues) (comes is_live earlier goes_on : Bool) → AreOf c plan steps v
    → (IsTrue comes ↔ Comes c plan (step ∷ steps)) → is_live ≡ live (seen_in (step ∷ steps)) → (IsTrue earlier ↔ CameBefore (HasCause c plan steps) step steps)
    → (IsTrue goes_on ↔ GoesOn step)
    → (IsTrue (comes || earlier) ↔ HasCause c plan (step ∷ steps))
    × (IsTrue ((comes && (not earlier && is_live)) || (goes_on && v.owed)) ↔ OwesOpen c plan (step ∷ steps))
step_told c plan step steps v comes is_live earlier goes_on h come same before goes = (
  (
    λ is. elim (by_or comes earlier is) [ inl now ↦ inl (come.0 now) | inr then_is ↦ inr (before.0 then_is) ],
    λ has. elim has [ inl now ↦ or_first comes earlier (come.1 now) | inr then_is ↦ or_second comes earlier (before.1 then_is) ],
  ),
  (
    λ is. elim (by_or (comes && (not earlier && is_live)) (goes_on && v.owed) is) [
      | inl now ↦ (let parts = and_parts comes (not earlier && is_live) now in inl (first_of_step c plan step steps earlier is_live (come.0 parts.0) before.1 same parts.1))
      | inr on ↦ (let parts = and_parts goes_on v.owed on in inr (goes.0 parts.0, h.owed_is.0 parts.1))
    ],
    λ owes. elim owes [
      | inl first ↦ or_first (comes && (not earlier && is_live)) (goes_on && v.owed)
          (and_both comes (not earlier && is_live) (come.1 (first.cause, first.comes))
          (and_both (not earlier) is_live (not_true earlier (λ is. first.first (before.0 is))) (same ∙ first.live_is)))
      | inr on ↦ or_second (comes && (not earlier && is_live)) (goes_on && v.owed) (and_both goes_on v.owed (goes.1 on.0) (h.owed_is.1 on.1))
    ],
  ),
)

-- ---- a hearing

before_heard : (o : Option Seen) (arrived caused : Bool) (P : Type 0) → arrived ≡ is_some o → (IsTrue caused ↔ P) → (IsTrue (not arrived && caused) ↔ Unless o P ⊥)
before_heard None arrived caused P is h = (
  λ both. h.0 (and_parts (not arrived) caused both).1,
  λ p. and_both (not arrived) caused (rw is refl) (h.1 p),
)
before_heard (Some came) arrived caused P is h = (λ both. true_not arrived (and_parts (not arrived) caused both).0 is, λ p. absurd p)

came_is : (at : ℕ) (event : Event) → came_in event ≡ is_some (if_came at event)
came_is at (Came token) = refl
came_is at (Bytes bytes) = refl
came_is at Gone = refl
came_is at (Datagram bytes) = refl
came_is at (Plant event) = refl
came_is at Clock = refl
came_is at Over = refl

piece : (mine : Bool) (bytes : List ℕ) → came_in (if mine then Bytes [] else Clock) ≡ came_in (if mine then Bytes bytes else Clock)
piece true bytes = refl
piece false bytes = refl

datagram : (mine : Bool) (bytes : List ℕ) → came_in (if mine then Datagram [] else Clock) ≡ came_in (if mine then Datagram bytes else Clock)
datagram true bytes = refl
datagram false bytes = refl

no_bytes : (k : ℕ) (heard : What) (bytes : List ℕ) → came_in (event_at k heard []) ≡ came_in (event_at k heard bytes)
no_bytes k (what.Came post token) bytes = refl
no_bytes k (what.Bytes post n) bytes = piece (post == k) bytes
no_bytes k (what.Gone post) bytes = refl
no_bytes k (what.Datagram post n) bytes = datagram (post == k) bytes
no_bytes k (what.Plant post event) bytes = refl
no_bytes k what.Tick bytes = refl
no_bytes k what.Over bytes = refl

pub heard_told : (c : ToldCodecs) (plan : PostPlan) (k : ℕ) (heard : What) (at : ℕ) (bytes : List ℕ) (steps : List ToldStep) (v : CauseValues) (came comes is_live : Bool)
    → came ≡ came_in (event_at k heard []) → AreOf c plan steps v → (IsTrue comes ↔ Comes c plan (Hears at (event_at k heard bytes) ∷ steps))
    → is_live ≡ live (seen_in (Hears at (event_at k heard bytes) ∷ steps)) → AreOf c plan (Hears at (event_at k heard bytes) ∷ steps) (heard_by came comes is_live v)
heard_told c plan k heard at bytes steps v came comes is_live is h come same =
    let both = step_told c plan (Hears at (event_at k heard bytes)) steps v comes is_live (not v.arrived && v.caused) false h come same
    (before_heard (arriving (seen_in steps)) v.arrived v.caused (HasCause c plan steps) h.arrived_is h.caused_is) (λ f. differ f, λ p. absurd p) in
    record { arrived_is = is ∙ no_bytes k heard bytes ∙ came_is at (event_at k heard bytes); caused_is = both.0; owed_is = both.1 }

-- ---- acts

opening_goes : (reading : Option Reading) (given : Order) (taken : Bool) → IsTrue (not (is_open given)) ↔ GoesOn (Does reading (Give given) taken)
opening_goes reading order.Open taken = (λ f. differ f, λ p. absurd p)
opening_goes reading order.Close taken = (λ f. tt, λ p. refl)
opening_goes reading (order.Limits voltage current watts) taken = (λ f. tt, λ p. refl)

pub drove_told : (c : ToldCodecs) (plan : PostPlan) (steps : List ToldStep) (reading : Option Reading) (given : Order) (taken : Bool) (v : CauseValues) (comes is_live : Bool)
    → AreOf c plan steps v → (IsTrue comes ↔ Comes c plan (Does reading (Give given) taken ∷ steps)) → is_live ≡ live (seen_in (Does reading (Give given) taken ∷ steps))
    → AreOf c plan (Does reading (Give given) taken ∷ steps) (stepped comes is_live v.caused (not (is_open given)) v)
drove_told c plan steps reading given taken v comes is_live h come same =
    let both = step_told c plan (Does reading (Give given) taken) steps v comes is_live v.caused (not (is_open given)) h come same h.caused_is (opening_goes reading given taken) in
    record { arrived_is = h.arrived_is; caused_is = both.0; owed_is = both.1 }

pub answered_told : (c : ToldCodecs) (plan : PostPlan) (steps : List ToldStep) (reading : Option Reading) (bytes : List ℕ) (taken : Bool) (v : CauseValues) (comes is_live : Bool)
    → AreOf c plan steps v → (IsTrue comes ↔ Comes c plan (Does reading (Answer bytes) taken ∷ steps)) → is_live ≡ live (seen_in (Does reading (Answer bytes) taken ∷ steps))
    → AreOf c plan (Does reading (Answer bytes) taken ∷ steps) (stepped comes is_live v.caused true v)
answered_told c plan steps reading bytes taken v comes is_live h come same =
    let both = step_told c plan (Does reading (Answer bytes) taken) steps v comes is_live v.caused true h come same h.caused_is (λ f. tt, λ p. refl) in
    record { arrived_is = h.arrived_is; caused_is = both.0; owed_is = both.1 }

pub ended_told : (c : ToldCodecs) (plan : PostPlan) (steps : List ToldStep) (reading : Option Reading) (cause : ℕ) (taken : Bool) (v : CauseValues) (comes is_live : Bool)
    → AreOf c plan steps v → (IsTrue comes ↔ Comes c plan (Does reading (End cause) taken ∷ steps)) → is_live ≡ live (seen_in (Does reading (End cause) taken ∷ steps))
    → AreOf c plan (Does reading (End cause) taken ∷ steps) (stepped comes is_live false true v)
ended_told c plan steps reading cause taken v comes is_live h come same =
    let both = step_told c plan (Does reading (End cause) taken) steps v comes is_live false true h come same (λ f. differ f, λ p. absurd p) (λ f. tt, λ p. refl) in
    record { arrived_is = h.arrived_is; caused_is = both.0; owed_is = both.1 }

pub sent_told : (c : ToldCodecs) (plan : PostPlan) (steps : List ToldStep) (reading : Option Reading) (bytes : List ℕ) (taken : Bool) (said : Said) (v : CauseValues) (comes is_live : Bool)
    → AreOf c plan steps v → (IsTrue comes ↔ Comes c plan (Sends reading bytes taken said ∷ steps)) → is_live ≡ live (seen_in (Sends reading bytes taken said ∷ steps))
    → AreOf c plan (Sends reading bytes taken said ∷ steps) (stepped comes is_live v.caused true v)
sent_told c plan steps reading bytes taken said v comes is_live h come same =
    let both = step_told c plan (Sends reading bytes taken said) steps v comes is_live v.caused true h come same h.caused_is (λ f. tt, λ p. refl) in
    record { arrived_is = h.arrived_is; caused_is = both.0; owed_is = both.1 }
