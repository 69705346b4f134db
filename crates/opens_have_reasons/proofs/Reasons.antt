-- Each order to open has its reason, and so each cause opens.
use Rattle.std.proofs.Common.{◌≡◌, ℕ, ◌+◌, Bool, true, false, List, [], ◌∷◌, ◌++◌, length, map, Option, Some, None, is_some, refl, sym, ap, subst, ◌∙◌, inl, inr, ◌⊎◌}
use Rattle.charge_world.specs.declared.entry.Entry.{Entry}
use Rattle.charge_world.specs.declared.offer.Dialect.{Dialect}
use Rattle.charge_world.specs.declared.ports.Order.TheVariants as order
use Rattle.session_words.specs.declared.cause.EndCause.{EndCause}
use Rattle.session_words.specs.declared.plan.PostPlan.{PostPlan}
use Rattle.session_words.specs.declared.plan.SitePlan.{SitePlan}
use Rattle.post_spec.specs.Causes.{IsCause, IsDue, IsTold, HasLeft, HasCome as HasArrived, IsOver, HasNotSent, HasNotDriven, HasNoMatch, IsWord}
use Rattle.post_spec.specs.Codecs.{Codecs}
use Rattle.post_spec.specs.Course.{Talked}
use Rattle.post_spec.specs.Spelled.{ReadsBack, AreDetermined, JudgesAll}
use Rattle.post_spec.specs.Sessions.{session, with_seen}
use Rattle.post_spec.specs.Steps.{Plant, Act, Give, Send, Answer, End, Seen, Did, Reading, Step, Hears, Does, seen_of}
use Rattle.post_spec.specs.Talk.{Negotiation, OneMore, InSession, Talks}
use Rattle.station_spec.specs.States.{Agenda, Part, Repeating, Timing, Eventing, Wording, Session, State, is_done}
use Rattle.station_spec.specs.Deciding.{repeating, timing, eventing, fronting, decide, from_wording, from_eventing, from_timing, from_part, decided}
use Rattle.station_spec.specs.Judging.{judged, wanted, filled}
use Rattle.station_spec.specs.Acting.{state}
use Rattle.station_spec.specs.Next.{Acts}
use Rattle.station_spec.specs.Sharing.{Post, Shows}
use Rattle.station_spec.specs.Runs.{IsRun}
use Rattle.station_laws.proofs.PostRuns.{run_posts, post_at}
use Rattle.station_laws.specs.PostRuns.{IsPostRun, ArePostsOf}
use Rattle.read_runs.specs.Courses.{talked_in}
use Rattle.read_runs.proofs.Agendas.{give_is, decided_done, decided_not}
use Rattle.read_runs.proofs.Courses.{courses_are_read}
use Rattle.read_runs.proofs.Facts.{facts_are_read}
use Rattle.served_sessions.proofs.Bytes.{AreHeard, run_heard}
use Rattle.coming_causes_open.specs.Causing.{Repeats, IsFirst}
use Rattle.standing_causes_open.specs.Standing.{CameBefore, StandsFirst, OpenAtFirst}
use Rattle.standing_causes_open.proofs.Again.{give_todo}
use Rattle.standing_causes_open.proofs.Coming.{laws_of, came_on, causes_open}
use Rattle.next_words.specs.Next.{IsReadNext}
use Rattle.opens_have_reasons.specs.Reasons.{IsReasoned, AreReasoned, RunsOpenForReasons, Stands, OpenWhereStanding, EveryCauseOpens}
use Rattle.opens_have_reasons.proofs.Opening.{Came, All, acted_all, heard_all, lives_in, timing_came, timing_open, done_order, front_came, front_live, event_needs, heard_came, repeats_failed}
use Rattle.opens_have_reasons.proofs.Reading.{is_live, read_reason}
use Rattle.opens_have_reasons.proofs.Settling.{acted_part, decides, does_settled, not_both, nothing_left, read_part, steps_order, todo_left}

-- An order to open for which nothing was read.

abbrev Reason : Codecs → PostPlan → List Step → State → Type 0
Reason c plan steps t = t.agenda.order ≡ Some order.Open → Repeats steps ⊎ Came c plan steps

decide_reason : (c : Codecs) (plan : PostPlan) (steps : List Step) (a : Agenda) (q : Part) (s rest : State) (b : Bool) → is_done a ≡ b → (a.order ≡ Some order.Open → Repeats steps ⊎ Came c plan steps) → Reason c plan steps rest → Reason c plan steps (decide a q s rest)
decide_reason c plan steps a q s rest true e f g = rw e g
decide_reason c plan steps a q s rest false e f g = rw e f

-- the reasons in each part
pub record Reasons (c : Codecs) (plan : PostPlan) (steps : List Step) (s : State) : Type 0 where
  pub again : s.part ≡ Repeating → (repeating s.facts.contactor).order ≡ Some order.Open → Repeats steps ⊎ Came c plan steps
  pub late : (timing s.session s.clock s.live).order ≡ Some order.Open → Repeats steps ⊎ Came c plan steps
  pub told : (s.part ≡ Wording → ⊥) → (eventing plan s.event s).order ≡ Some order.Open → Repeats steps ⊎ Came c plan steps
  pub front : (fronting s.session s.live).order ≡ Some order.Open → Repeats steps ⊎ Came c plan steps

wording_reason : (c : Codecs) (plan : PostPlan) (steps : List Step) (s : State) → Reasons c plan steps s → Reason c plan steps s → Reason c plan steps (from_wording s)
wording_reason c plan steps s r g = decide_reason c plan steps (fronting s.session s.live) Wording s s _ refl r.front g

eventing_reason : (c : Codecs) (plan : PostPlan) (steps : List Step) (s : State) → (s.part ≡ Wording → ⊥) → Reasons c plan steps s → Reason c plan steps s → Reason c plan steps (from_eventing plan s)
eventing_reason c plan steps s n r g = decide_reason c plan steps (eventing plan s.event s) Wording s (from_wording s) _ refl (r.told n) (wording_reason c plan steps s r g)

timing_reason : (c : Codecs) (plan : PostPlan) (steps : List Step) (s : State) → (s.part ≡ Wording → ⊥) → Reasons c plan steps s → Reason c plan steps s → Reason c plan steps (from_timing plan s)
timing_reason c plan steps s n r g = decide_reason c plan steps (timing s.session s.clock s.live) Eventing s (from_eventing plan s) _ refl r.late (eventing_reason c plan steps s n r g)

not_wording : (p q : Part) → p ≡ q → (q ≡ Wording → ⊥) → p ≡ Wording → ⊥
not_wording p q e n h = n (sym e ∙ h)

part_reason : (c : Codecs) (plan : PostPlan) (steps : List Step) (p : Part) (s : State) → s.part ≡ p → Reasons c plan steps s → Reason c plan steps s → Reason c plan steps (from_part plan p s)
part_reason c plan steps Repeating s e r g = decide_reason c plan steps (repeating s.facts.contactor) Timing s (from_timing plan s) _ refl (r.again e) (timing_reason c plan steps s (not_wording s.part Repeating e (λ x. cc)) r g)
part_reason c plan steps Timing s e r g = timing_reason c plan steps s (not_wording s.part Timing e (λ x. cc)) r g
part_reason c plan steps Eventing s e r g = eventing_reason c plan steps s (not_wording s.part Eventing e (λ x. cc)) r g
part_reason c plan steps Wording s e r g = wording_reason c plan steps s r g

-- no act is in the first part
never_repeating : (p q : Part) → p ≡ Repeating → p ≡ q → (q ≡ Repeating → ⊥) → ⊥
never_repeating p q h e n = n (sym e ∙ h)

decided_moved : (c : Codecs) (plan : PostPlan) (S : ℕ → ℕ → Type 0) (steps : List Step) (a : Act) (taken : Bool) → Acts c plan S (state plan steps) None a taken → is_done (state plan steps).agenda ≡ true → (decided plan (state plan steps)).part ≡ Repeating → ⊥
decided_moved c plan S steps a taken acts d h = elim (decides plan (state plan steps) d) [
  | inl x ↦ never_repeating (decided plan (state plan steps)).part Wording h x (λ y. cc)
  | inr (inl x) ↦ never_repeating (decided plan (state plan steps)).part Timing h x.0 (λ y. cc)
  | inr (inr (inl x)) ↦ never_repeating (decided plan (state plan steps)).part Eventing h x.0 (λ y. cc)
  | inr (inr (inr x)) ↦ not_both (is_done (decided plan (state plan steps)).agenda) x (todo_left (decided plan (state plan steps)).agenda acts.todo acts.acts)
]

moved_by : (c : Codecs) (plan : PostPlan) (S : ℕ → ℕ → Type 0) (steps : List Step) (a : Act) (taken b : Bool) → Acts c plan S (state plan steps) None a taken → is_done (state plan steps).agenda ≡ b → (b ≡ false → (state plan steps).part ≡ Repeating → ⊥) → (decided plan (state plan steps)).part ≡ Repeating → ⊥
moved_by c plan S steps a taken true acts d n h = decided_moved c plan S steps a taken acts d h
moved_by c plan S steps a taken false acts d n h = n refl (sym (ap (λ (t : State). t.part) (decided_not plan (state plan steps) d)) ∙ h)

left_moved : (c : Codecs) (plan : PostPlan) (steps : List Step) → IsPostRun c plan steps → is_done (state plan steps).agenda ≡ false → (state plan steps).part ≡ Repeating → ⊥
left_moved c plan [] run d h = nothing_left d
left_moved c plan (Hears at e ∷ steps) run d h = nothing_left d
left_moved c plan (Does (Some r) a taken ∷ steps) (run, (limit, before, later, acts)) d h =
    never_repeating (filled plan (Some r) (state plan steps)).part Wording (sym (acted_part a taken (filled plan (Some r) (state plan steps))) ∙ h) (read_part c plan (Shows limit before later) (state plan steps) r (wanted (decided plan (state plan steps))) refl acts.read) (λ y. cc)
left_moved c plan (Does None a taken ∷ steps) (run, (limit, before, later, acts)) d h =
    moved_by c plan (Shows limit before later) steps a taken (is_done (state plan steps).agenda) acts refl (λ x. left_moved c plan steps run x) (sym (acted_part a taken (decided plan (state plan steps))) ∙ h)

does_moved : (c : Codecs) (plan : PostPlan) (r : Option Reading) (a : Act) (taken : Bool) (steps : List Step) → IsPostRun c plan (Does r a taken ∷ steps) → (state plan (Does r a taken ∷ steps)).part ≡ Repeating → ⊥
does_moved c plan (Some r) a taken steps (run, (limit, before, later, acts)) h =
    never_repeating (filled plan (Some r) (state plan steps)).part Wording (sym (acted_part a taken (filled plan (Some r) (state plan steps))) ∙ h) (read_part c plan (Shows limit before later) (state plan steps) r (wanted (decided plan (state plan steps))) refl acts.read) (λ y. cc)
does_moved c plan None a taken steps (run, (limit, before, later, acts)) h =
    moved_by c plan (Shows limit before later) steps a taken (is_done (state plan steps).agenda) acts refl (λ x. left_moved c plan steps run x) (sym (acted_part a taken (decided plan (state plan steps))) ∙ h)

-- by what came last
again_reason : (c : Codecs) (plan : PostPlan) (steps : List Step) → All c plan steps → (state plan steps).part ≡ Repeating → (repeating (state plan steps).facts.contactor).order ≡ Some order.Open → Repeats steps ⊎ Came c plan steps
again_reason c plan [] all p h = cc
again_reason c plan (Hears at e ∷ steps) all p h = inl (repeats_failed plan at e steps h)
again_reason c plan (Does r a taken ∷ steps) all p h = absurd (does_moved c plan r a taken steps all.laws.run p)

told_reason : (c : Codecs) (plan : PostPlan) (steps : List Step) → All c plan steps → ((state plan steps).part ≡ Wording → ⊥) → (eventing plan (state plan steps).event (state plan steps)).order ≡ Some order.Open → Repeats steps ⊎ Came c plan steps
told_reason c plan [] all n h = absurd (n refl)
told_reason c plan (Hears at e ∷ steps) all n h = elim (heard_came c plan at e steps all.laws.run h) [
  | inl x ↦ inl x
  | inr x ↦ inr (inl x)
]
told_reason c plan (Does r a taken ∷ steps) all n h =
    let x = event_needs plan (state plan (Does r a taken ∷ steps)).event (state plan (Does r a taken ∷ steps)) h in
    elim (does_settled c plan r a taken steps all) [
      | inl y ↦ absurd (n y)
      | inr (inl y) ↦ absurd (not_both (state plan (Does r a taken ∷ steps)).live x.0 y)
      | inr (inr (inl y)) ↦ absurd (not_both (is_some (state plan (Does r a taken ∷ steps)).session) x.1 y)
      | inr (inr (inr y)) ↦ inr y
    ]

reasons : (c : Codecs) (plan : PostPlan) (steps : List Step) → All c plan steps → is_done (state plan steps).agenda ≡ true → Reasons c plan steps (state plan steps)
reasons c plan steps all d = record {
  again = again_reason c plan steps all;
  late = λ h. inr (timing_came c plan steps all d (timing_open (state plan steps).session (state plan steps).clock (state plan steps).live (is_done (timing (state plan steps).session (state plan steps).clock (state plan steps).live)) refl h));
  told = told_reason c plan steps all;
  front = λ h. inr (front_came c plan steps all d (is_live plan steps (front_live (state plan steps).session (state plan steps).live h)) h);
}

unread_reason : (c : Codecs) (plan : PostPlan) (steps : List Step) (b : Bool) → All c plan steps → is_done (state plan steps).agenda ≡ b → (decided plan (state plan steps)).agenda.order ≡ Some order.Open → Repeats steps ⊎ Came c plan steps
unread_reason c plan steps true all d h =
    let g : Reason c plan steps (state plan steps) = λ x. absurd (done_order (state plan steps).agenda d x) in
    part_reason c plan steps (state plan steps).part (state plan steps) refl (reasons c plan steps all d) g (sym (ap (λ (t : State). t.agenda.order) (decided_done plan (state plan steps) d)) ∙ h)
unread_reason c plan steps false all d h = inr (steps_order c plan steps order.Open all (sym (ap (λ (t : State). t.agenda.order) (decided_not plan (state plan steps) d)) ∙ h)).1

-- Every order to open.

open_reason : (c : Codecs) (plan : PostPlan) (S : ℕ → ℕ → Type 0) (r : Option Reading) (taken : Bool) (steps : List Step) → All c plan steps → Acts c plan S (state plan steps) r (Give order.Open) taken → IsReadNext c plan (map seen_of steps) r → IsReasoned c plan r (Give order.Open) steps
open_reason c plan S None taken steps all acts next =
    let f = decided plan (state plan steps) in
    let o = give_is f.agenda.datagram f.agenda.order f.agenda.reply f.agenda.ending order.Open (acts.acts ∙ ap Some (give_todo c acts.todo order.Open taken acts.done)) in
    elim (unread_reason c plan steps (is_done (state plan steps).agenda) all refl o) [
      | inl x ↦ inl x
      | inr x ↦ inr (inr x)
    ]
open_reason c plan S (Some r) taken steps all acts next =
    inr (read_reason c plan S steps r (wanted (decided plan (state plan steps))) all next refl acts.read (acts.acts ∙ ap Some (give_todo c acts.todo order.Open taken acts.done)))

act_reason : (c : Codecs) (plan : PostPlan) (S : ℕ → ℕ → Type 0) (r : Option Reading) (a : Act) (taken : Bool) (steps : List Step) → All c plan steps → Acts c plan S (state plan steps) r a taken → IsReadNext c plan (map seen_of steps) r → IsReasoned c plan r a steps
act_reason c plan S r (Give order.Open) taken steps all acts next = open_reason c plan S r taken steps all acts next
act_reason c plan S r (Give order.Close) taken steps all acts next = tt
act_reason c plan S r (Give (order.Limits voltage current watts)) taken steps all acts next = tt
act_reason c plan S r (Send bytes) taken steps all acts next = tt
act_reason c plan S r (Answer bytes) taken steps all acts next = tt
act_reason c plan S r (End cause) taken steps all acts next = tt

are_reasoned : (c : Codecs) (plan : PostPlan) (steps : List Step) → All c plan steps → AreReasoned c plan steps
are_reasoned c plan [] all = tt
are_reasoned c plan (Hears at e ∷ steps) all = are_reasoned c plan steps (heard_all c plan at e steps all)
are_reasoned c plan (Does r a taken ∷ steps) all =
    let before = acted_all c plan r a taken steps all in (
      are_reasoned c plan steps before,
      act_reason c plan (Shows all.laws.run.1.0 all.laws.run.1.1 all.laws.run.1.2) r a taken steps before all.laws.run.1.3 all.laws.ordered.1,
    )

-- and so a failed one is the first of its session, or a cause came before it

first_act : (c : Codecs) (plan : PostPlan) (r : Option Reading) (a : Act) (taken : Bool) (steps : List Step) (es : List Seen) → session (map seen_of (Does r a taken ∷ steps)) ≡ Some es → IsReasoned c plan r a steps → (CameBefore c plan (Does r a taken ∷ steps) → ⊥) → IsFirst plan (Does r a taken ∷ steps)
first_act c plan r (Give order.Open) false steps es here (inl h) n = inl h
first_act c plan r (Give order.Open) false steps es here (inr (inl h)) n = inr h
first_act c plan r (Give order.Open) false steps es here (inr (inr h)) n = absurd (n (came_on c plan r (Give order.Open) false steps es here h))
first_act c plan r (Give order.Open) true steps es here h n = tt
first_act c plan r (Give order.Close) taken steps es here h n = tt
first_act c plan r (Give (order.Limits voltage current watts)) taken steps es here h n = tt
first_act c plan r (Send bytes) taken steps es here h n = tt
first_act c plan r (Answer bytes) taken steps es here h n = tt
first_act c plan r (End cause) taken steps es here h n = tt

talked_some : (kept : Option Session) (t : Talked) → talked_in kept ≡ Some t → is_some kept ≡ true
talked_some None t h = cc
talked_some (Some ss) t h = refl

some_more : (x : Seen) (lives : Option (List Seen)) → is_some lives ≡ true → is_some (with_seen x lives) ≡ true
some_more x None h = h
some_more x (Some es) h = refl

talks_lives : (lives : Option (List Seen)) (A : List Seen → Type 0) → InSession lives A (Negotiation None ∷ [] ≡ []) → is_some lives ≡ true
talks_lives None A h = absurd (cc)
talks_lives (Some es) A h = refl

no_match_lives : (c : Codecs) (offers : List Dialect) (past : List Seen) (bytes : List ℕ) → Talks c offers (Did (Send bytes) true ∷ past) (Negotiation None ∷ []) → is_some (session (Did (Send bytes) true ∷ past)) ≡ true
no_match_lives c offers past bytes t = some_more (Did (Send bytes) true) (session past) (talks_lives (session past) (λ zs. OneMore c offers zs past bytes (Talks c offers past) (Negotiation None ∷ [])) t)

-- a cause is one of a session that lives
cause_lives : (c : Codecs) (plan : PostPlan) (steps : List Step) (k : EndCause) → IsCause c plan steps k → IsPostRun c plan steps → is_some (session (map seen_of steps)) ≡ true
cause_lives c plan steps k (IsDue before t es course_is session_is reached bound) run = ap is_some session_is
cause_lives c plan steps k (IsTold at event before t it session_is told) run = sym (facts_are_read plan (Hears at (Plant event) ∷ before)).session_is ∙ talked_some (state plan (Hears at (Plant event) ∷ before)).session t ((courses_are_read c plan (Hears at (Plant event) ∷ before) run).session_is ∙ session_is)
cause_lives c plan steps k (HasLeft at before es session_is) run = ap is_some session_is
cause_lives c plan steps k (HasArrived at token before es session_is) run = ap is_some session_is
cause_lives c plan steps k (IsOver at before es session_is) run = ap is_some session_is
cause_lives c plan steps k (HasNotSent reading bytes before es session_is) run = ap is_some session_is
cause_lives c plan steps k (HasNotDriven reading o before es session_is) run = ap is_some session_is
cause_lives c plan steps k (HasNoMatch reading bytes before talks) run = no_match_lives c plan.dialects.items (map seen_of before) bytes talks
cause_lives c plan steps k (IsWord before t es words rest word it course_is session_is heard next judged) run = ap is_some session_is

lives_as : (plan : PostPlan) (steps : List Step) → is_some (session (map seen_of steps)) ≡ true → (es : List Seen) × (session (map seen_of steps) ≡ Some es)
lives_as plan steps h = lives_in plan steps ((facts_are_read plan steps).session_is ∙ h)

stands_first : (c : Codecs) (plan : PostPlan) (steps : List Step) → All c plan steps → Stands c plan steps → StandsFirst c plan steps
stands_first c plan [] all s = record { cause = s.cause; is = s.is; live_is = s.live_is; none_before = s.none_before; first = tt }
stands_first c plan (Hears at e ∷ steps) all s = record { cause = s.cause; is = s.is; live_is = s.live_is; none_before = s.none_before; first = tt }
stands_first c plan (Does r a taken ∷ steps) all s =
    let l = lives_as plan (Does r a taken ∷ steps) (cause_lives c plan (Does r a taken ∷ steps) s.cause s.is all.laws.run) in
    record { cause = s.cause; is = s.is; live_is = s.live_is; none_before = s.none_before; first = first_act c plan r a taken steps l.0 l.1 (are_reasoned c plan (Does r a taken ∷ steps) all).1 s.none_before }

open_standing : (c : Codecs) (plan : PostPlan) (steps : List Step) → All c plan steps → OpenAtFirst c plan steps → OpenWhereStanding c plan steps
open_standing c plan [] all o = tt
open_standing c plan (Hears at e ∷ steps) all o = let b = heard_all c plan at e steps all in (open_standing c plan steps b o.0, λ s. o.1 (stands_first c plan steps b s))
open_standing c plan (Does r a taken ∷ steps) all o = let b = acted_all c plan r a taken steps all in (open_standing c plan steps b o.0, λ s. o.1 (stands_first c plan steps b s))

-- In every run.

all_of : (c : Codecs) (site : SitePlan) (past : List Entry) (posts before : List Post) (post : Post) (behind : List Post) → ReadsBack c → AreDetermined c → JudgesAll c → IsRun c site past posts → posts ≡ before ++ post ∷ behind → All c post.plan post.steps
all_of c site past posts before post behind back det judges run is =
    let k = post_at c past (length before + 1) 1 before post behind refl (subst (ArePostsOf c past 1) is (run_posts c site past posts run)) in
    record { back = back; det = det; judges = judges; laws = laws_of c site past posts before post behind back det run is; heard = subst AreHeard k.seen_is (run_heard c site past posts (length before + 1) run) }

pub runs_open_for_reasons : (c : Codecs) → RunsOpenForReasons c
runs_open_for_reasons c site past posts before post behind back det judges run is = are_reasoned c post.plan post.steps (all_of c site past posts before post behind back det judges run is)

pub every_cause_opens : (c : Codecs) → EveryCauseOpens c
every_cause_opens c site past posts before post behind back det judges run is =
    let all = all_of c site past posts before post behind back det judges run is in
    let o = causes_open c site past posts before post behind back det run is in
    (open_standing c post.plan post.steps all o.0, λ q s. o.1 q (stands_first c post.plan post.steps all s))
