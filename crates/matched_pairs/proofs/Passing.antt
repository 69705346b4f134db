-- When time passes: a car rests until it is to ask once more, or the post's contactor closes for a short while.
use Rattle.std.proofs.Common.{◌≡◌, ℕ, ◌+◌, ◌<◌, ◌≤◌, nat_le, true, false, [], Option, Some, None, is_some, refl, ap, sym, subst, ◌∙◌, arith}
use Rattle.std.proofs.lemmas.Bool.Decides.{nat_tests}
use Rattle.std.specs.Prelude.{slice_get}
use Rattle.session_words.specs.declared.phase.Standing.TheVariants as standing
use Rattle.session_words.specs.declared.plan.CarPlan.{CarPlan}
use Rattle.session_words.specs.declared.plan.PostPlan.{PostPlan}
use Rattle.plant_sim.specs.Charger.{Charger, NoneReached}
use Rattle.session_rules.specs.declared.stage.Stage.{Stage}
use Rattle.session_rules.specs.Stages.{is_set_up, is_waiting}
use Rattle.station_spec.specs.States.{Session, State, first}
use Rattle.car_rules.specs.declared.stage.CarPhase.TheVariants as phase
use Rattle.car_rules.specs.declared.stage.CarStage.{CarStage}
use Rattle.car_rules.specs.Moves.{is_again}
use Rattle.car_spec.specs.States as car_states
use Rattle.car_spec.specs.Due.{is_due}
use Rattle.pair_words.specs.Exchanges.{Both, judged}
use Rattle.pair_words.specs.Meeting.{Meets}
use Rattle.pair_deeds.specs.Posts as posts
use Rattle.pair_deeds.specs.Cars as cars
use Rattle.matched_pairs.specs.Ends.{Listens, Awaits, Pauses}
use Rattle.matched_pairs.specs.Phases.{exchange}
use Rattle.matched_pairs.specs.Pauses.{IsPausing, Resting, Closing}
use Rattle.matched_pairs.specs.Closing.{IsHeardSoon}
use Rattle.matched_pairs.proofs.Pacing.{IsRepeated, AgainBy, RestsBy, PacedBy, IsPaced, not_due}
use Rattle.matched_pairs.proofs.Starting.{waits_for_start, again_set_up}
use Rattle.matched_pairs.proofs.Waits.{WaitsFor, closes}

true_false : true ≡ false → ⊥
true_false e = cc

some_none : {A : Type 0} (a : A) → Some a ≡ None → ⊥
some_none a e = cc

-- the car is to ask once more, and not yet
pub record IsResting (now : ℕ) (s : State) (k : car_states.State) : Type 0 where
  pub post : Session
  pub post_is : s.session ≡ Some post
  pub arrived : s.arrived ≡ None
  pub set_up : is_set_up post.stage.row ≡ true
  pub car : car_states.Session
  pub car_is : k.session ≡ Some car
  pub live : k.over ≡ false
  pub stage : CarStage
  pub stage_is : car.stage ≡ Some stage
  pub repeats : is_again stage.phase stage.phase ≡ true
  pub unread : car.unread ≡ []
  pub sent : car.moments.sent ≡ None
  pub at : ℕ
  pub again : car.again ≡ Some at
  pub later : now < at

-- the contactor closes, and is heard of within 50 ms of its order
pub record IsInClosing (now : ℕ) (s : State) (k : car_states.State) : Type 0 where
  pub post : Session
  pub post_is : s.session ≡ Some post
  pub arrived : s.arrived ≡ None
  pub read : post.unread ≡ []
  pub closing : s.facts.contactor ≡ standing.Closing
  pub soon : now + 10 ≤ post.since + 60
  pub car : car_states.Session
  pub car_is : k.session ≡ Some car
  pub live : k.over ≡ false
  pub stage : CarStage
  pub stage_is : car.stage ≡ Some stage
  pub starts : stage.phase ≡ phase.Starting
  pub unread : car.unread ≡ []

pub data IsPassing (now : ℕ) (s : State) (k : car_states.State) : Type 0 where
  Rests : IsResting now s k → IsPassing now s k
  Closes : IsInClosing now s k → IsPassing now s k

-- ---- it rests

rests_so : (stage : Option CarStage) (sent : Option ℕ) (agenda : car_states.Agenda) (again : Option ℕ) (c : CarStage) → stage ≡ Some c → sent ≡ None → agenda ≡ car_states.nothing → RestsBy stage sent agenda again
    → is_some again ≡ true
rests_so None sent agenda again c e f g k = absurd (some_none c (sym e))
rests_so (Some d) (Some at) agenda again c e f g k = absurd (some_none at f)
rests_so (Some d) None agenda again c e f g k = k g

is_repeated : (again : Option ℕ) (at : ℕ) (stage : Option CarStage) (c : CarStage) → again ≡ Some at → stage ≡ Some c → AgainBy again stage → is_again c.phase c.phase ≡ true
is_repeated again at stage c e f k = subst IsRepeated f (subst (λ (a : Option ℕ). AgainBy a stage) e k)

later_by : (again : Option ℕ) (at now clock : ℕ) → again ≡ Some at → clock ≡ now → is_due again clock ≡ false → now < at
later_by again at now clock e c n =
    let d : nat_le at clock ≡ false = sym (ap (λ (a : Option ℕ). is_due a clock) e) ∙ n in
    grind (arith, nat_tests)

record Moment (again : Option ℕ) : Type 0 where
  at : ℕ
  is : again ≡ Some at

moment_of : (again : Option ℕ) → is_some again ≡ true → Moment again
moment_of None e = absurd (true_false (sym e))
moment_of (Some at) e = record { at = at; is = refl }

rests : (post_plan : PostPlan) (plan : CarPlan) (b : Both) (now : ℕ) (s : State) (k : car_states.State) → Meets post_plan b → IsPaced k → k.clock ≡ now → Listens post_plan s b.post [] → Pauses plan k b.car
    → IsResting now s k
rests post_plan plan b now s k m p clock l a =
    let still : posts.IsStill post_plan s l.session = l.still in
    let own : cars.IsStill plan k a.session = a.still in
    let paced : PacedBy k.agenda (Some a.session) = subst (PacedBy k.agenda) own.session_is p.paced in
    let t : Moment a.session.again = moment_of a.session.again (rests_so a.session.stage a.session.moments.sent k.agenda a.session.again b.car a.stage_is a.sent own.none paced.1) in
    let repeats : is_again b.car.phase b.car.phase ≡ true = is_repeated a.session.again t.at a.session.stage b.car t.is a.stage_is paced.0 in
    record {
      post = l.session;
      post_is = still.session_is;
      arrived = l.arrived;
      set_up = ap (λ (x : Stage). is_set_up x.row) l.stage_is ∙ again_set_up post_plan b m repeats;
      car = a.session;
      car_is = own.session_is;
      live = a.goes_on;
      stage = b.car;
      stage_is = a.stage_is;
      repeats = repeats;
      unread = a.unread_is;
      sent = a.sent;
      at = t.at;
      again = t.is;
      later = later_by a.session.again t.at now k.clock t.is clock (not_due plan k a.session b.car p a.still a.goes_on a.stage_is a.unread_is);
    }

-- ---- the contactor closes

ticks : (now since : ℕ) → now < since + 50 → now + 10 ≤ since + 60
ticks now since l = omega (arith, l)

some_session : (a b : Session) → Some a ≡ Some b → a ≡ b
some_session a b e = cc

soon_by : (s : State) (charger : Charger) (now : ℕ) (x : Session) → s.session ≡ Some x → NoneReached charger.moments now → IsHeardSoon s (slice_get charger.moments 5) now → now + 10 ≤ x.since + 60
soon_by s charger now x e n k =
    let same : k.session ≡ x = some_session k.session x (sym k.session_is ∙ e) in
    subst (λ (z : Session). now + 10 ≤ z.since + 60) same (ticks now k.session.since (n 5 (k.session.since + 50) k.to_come))

closing_on : (post_plan : PostPlan) (plan : CarPlan) (b : Both) (now : ℕ) (s : State) (k : car_states.State) (charger : Charger) → (stage : Stage) → Meets post_plan b → WaitsFor post_plan s
    → Listens post_plan s stage [] → is_waiting stage.row ≡ true → b.car.phase ≡ phase.Starting → Awaits plan k (Some b.car) [] → NoneReached charger.moments now
    → (s.facts.contactor ≡ standing.Closing → IsHeardSoon s (slice_get charger.moments 5) now) → IsInClosing now s k
closing_on post_plan plan b now s k charger stage m waits l w start a n heard =
    let still : posts.IsStill post_plan s l.session = l.still in
    let own : cars.IsStill plan k a.session = a.still in
    let closing : s.facts.contactor ≡ standing.Closing =
    closes post_plan s (waits l.session still.session_is (ap (λ (x : Stage). is_waiting x.row) l.stage_is ∙ w)) (ap (λ (x : State). first x.agenda) still.stays ∙ ap first still.none) in
    record {
      post = l.session;
      post_is = still.session_is;
      arrived = l.arrived;
      read = l.unread_is;
      closing = closing;
      soon = soon_by s charger now l.session still.session_is n (heard closing);
      car = a.session;
      car_is = own.session_is;
      live = a.goes_on;
      stage = b.car;
      stage_is = a.stage_is;
      starts = start;
      unread = a.unread_is;
    }

pub passing : (post_plan : PostPlan) (plan : CarPlan) (b : Both) (now : ℕ) (s : State) (k : car_states.State) (charger : Charger) → Meets post_plan b → IsPaced k → (k.over ≡ false → k.clock ≡ now) → WaitsFor post_plan s
    → NoneReached charger.moments now → (s.facts.contactor ≡ standing.Closing → IsHeardSoon s (slice_get charger.moments 5) now) → IsPausing post_plan plan b s k → IsPassing now s k
passing post_plan plan b now s k charger m p clock waits n heard (Resting l a) = Rests (rests post_plan plan b now s k m p (clock a.goes_on) l a)
passing post_plan plan b now s k charger m p clock waits n heard (Closing facts shown last l w a) =
    Closes (closing_on post_plan plan b now s k charger (judged post_plan plan b (exchange facts facts shown)) m waits l w
    (waits_for_start post_plan plan b (exchange facts facts shown) m w) a n heard)
