-- In the hearing in which a connection opens the session, the offer of dialects is decided, or a cause.
use Rattle.std.proofs.Common.{◌≡◌, Bool, true, false, not, ◌&&◌, if◌then◌else◌, Option, Some, None, refl, sym, ap, subst, ◌⊎◌, inl, inr}
use Rattle.session_words.specs.declared.cause.EndCause.{EndCause}
use Rattle.session_words.specs.declared.plan.CarPlan.{CarPlan}
use Rattle.car_rules.specs.Deadlines.{hit}
use Rattle.post_spec.specs.Steps.{Event, Came, Bytes, Gone, Datagram, Plant, Clock, Over}
use Rattle.car_spec.specs.Deciding.{ending_by, ending_if, eventing, from_wording, from_eventing, from_timing, from_part, decide, decided}
use Rattle.car_spec.specs.Due.{all_deadlines}
use Rattle.car_spec.specs.States.{Agenda, Part, Unheard, Timing, Eventing, Wording, Session, State, nothing, is_done}
use Rattle.car_spec.specs.Steps.{Offer}
use Rattle.car_laws.proofs.Kept.{IsUnchosen, IsFresh, IsFreshIn}
use Rattle.car_closings.proofs.Ties.{is_early, is_new, is_fresh}

-- the session that was opened has no stage yet
new_unchosen : (e : Event) (stood : Bool) (o : Option Session) → IsFresh e stood o → is_new e stood ≡ true → IsUnchosen o
new_unchosen (Came token) true o f h = cc
new_unchosen (Came token) false o f h = f
new_unchosen (Bytes bytes) stood o f h = cc
new_unchosen Gone stood o f h = cc
new_unchosen (Datagram bytes) stood o f h = cc
new_unchosen (Plant event) stood o f h = cc
new_unchosen Clock stood o f h = cc
new_unchosen Over stood o f h = cc

pub fresh_unchosen : (part : Part) (e : Event) (stood : Bool) (o : Option Session) → IsFreshIn part e stood o → is_fresh part e stood ≡ true → IsUnchosen o
fresh_unchosen Unheard e stood o f h = cc
fresh_unchosen Timing e stood o f h = new_unchosen e stood o f h
fresh_unchosen Eventing e stood o f h = new_unchosen e stood o f h
fresh_unchosen Wording e stood o f h = cc

abbrev pub offering : Agenda
offering = record nothing { spoken = Some Offer }

pub record FreshlyDecided (s t : State) : Type 0 where
  pub agenda : Agenda
  pub part : Part
  pub is : t ≡ record s { agenda = agenda; part = part }
  pub how : ((cause : EndCause) × (agenda ≡ ending_by cause s.live)) ⊎ ((agenda ≡ offering) × (part ≡ Wording))

offered : (plan : CarPlan) (s : State) (e : Event) (stood : Bool) → s.event ≡ e → s.stood ≡ stood → is_new e stood ≡ true → eventing plan s.event s ≡ offering
offered plan s (Came token) true a b h = cc
offered plan s (Came token) false a b h = rw (a, b) refl
offered plan s (Bytes bytes) stood a b h = cc
offered plan s Gone stood a b h = cc
offered plan s (Datagram bytes) stood a b h = cc
offered plan s (Plant event) stood a b h = cc
offered plan s Clock stood a b h = cc
offered plan s Over stood a b h = cc

events_freshly : (plan : CarPlan) (s : State) → is_new s.event s.stood ≡ true → FreshlyDecided s (from_eventing plan s)
events_freshly plan s h =
    let o : eventing plan s.event s ≡ offering = offered plan s s.event s.stood refl refl h in
    record { agenda = offering; part = Wording; is = ap (λ (a : Agenda). decide a Wording s (from_wording plan s)) o; how = inr (refl, refl) }

ends_undone : (cause : EndCause) (live : Bool) → is_done (ending_by cause live) ≡ false
ends_undone cause true = refl
ends_undone cause false = refl

times_by : (plan : CarPlan) (s : State) (o : Option EndCause) → hit (all_deadlines plan s) s.clock ≡ o → is_new s.event s.stood ≡ true → FreshlyDecided s (from_timing plan s)
times_by plan s None e h =
    let same : from_timing plan s ≡ from_eventing plan s = ap (λ (x : Option EndCause). decide (ending_if x s.live) Eventing s (from_eventing plan s)) e in
    subst (FreshlyDecided s) (sym same) (events_freshly plan s h)
times_by plan s (Some cause) e h =
    let same : from_timing plan s ≡ decide (ending_by cause s.live) Eventing s (from_eventing plan s) = ap (λ (x : Option EndCause). decide (ending_if x s.live) Eventing s (from_eventing plan s)) e in
    subst (FreshlyDecided s) (sym same) (rw (ends_undone cause s.live) (record { agenda = ending_by cause s.live; part = Eventing; is = refl; how = inl (cause, refl) }))

part_freshly : (plan : CarPlan) (s : State) (part : Part) → (is_early part && is_new s.event s.stood) ≡ true → FreshlyDecided s (from_part plan part s)
part_freshly plan s Unheard h = cc
part_freshly plan s Timing h = times_by plan s _ refl h
part_freshly plan s Eventing h = events_freshly plan s h
part_freshly plan s Wording h = cc

pub freshly : (plan : CarPlan) (s : State) → is_done s.agenda ≡ true → s.over ≡ false → is_fresh s.part s.event s.stood ≡ true → FreshlyDecided s (decided plan s)
freshly plan s d v h =
    let on : (is_done s.agenda && not s.over) ≡ true = rw (d, v) refl in
    subst (λ (b : Bool). FreshlyDecided s (if b then from_part plan s.part s else s)) (sym on) (part_freshly plan s s.part h)
