-- A contactor is ordered open again.
use Rattle.std.proofs.Common.{arith, ◌≡◌, ◌≢◌, ◌<◌, ℕ, suc, ◌+◌, Bool, true, false, List, [], ◌∷◌, ◌++◌, length, map, Option, Some, None, refl, sym, ap, subst, ◌∙◌, MatchBool}
use Rattle.std.proofs.lemmas.Bool.{eq-eqb, ne_eqb}
use Rattle.charge_world.specs.declared.entry.Entry.{Entry}
use Rattle.charge_world.specs.declared.entry.Entry.TheVariants as entry
use Rattle.charge_world.specs.declared.heard.PlantEvent.TheVariants as plant
use Rattle.charge_world.specs.declared.ports.Order.TheVariants as order
use Rattle.session_words.specs.declared.facts.Facts.{Facts}
use Rattle.session_words.specs.declared.phase.Standing.TheVariants as standing
use Rattle.session_words.specs.declared.plan.PostPlan.{PostPlan}
use Rattle.contactor.specs.Standing.{Kind, last_order, feedback_since, standing_by}
use Rattle.contactor.specs.Standing as contactor
use Rattle.post_spec.specs.Codecs.{Codecs}
use Rattle.post_spec.specs.Contactors.{contactor_acts, live}
use Rattle.post_spec.specs.Steps.{Event, Came, Bytes, Gone, Datagram, Plant, Clock, Over, Act, Give, Seen, Heard, Did, Reading, Step, Hears, Does, seen, seen_of}
use Rattle.station_spec.specs.States.{Agenda, Timing, State, nothing, first}
use Rattle.station_spec.specs.States as states
use Rattle.station_spec.specs.Deciding.{decided}
use Rattle.station_spec.specs.Judging.{wanted, read, IsRead}
use Rattle.station_spec.specs.Hearing.{heard_facts, hearing}
use Rattle.station_spec.specs.Acting.{state}
use Rattle.station_spec.specs.Next.{IsQuiet, IsDone, Acts}
use Rattle.station_spec.specs.Sharing.{Post, state_of, Shows}
use Rattle.station_spec.specs.Runs.{AreQuiet, Closes}
use Rattle.station_laws.specs.PostRuns.{IsPostRun, ArePostsOf}
use Rattle.station_laws.proofs.Contactors.{contactors_are_read}
use Rattle.station_laws.proofs.PostRuns.{run_posts, post_at, quiet_at}
use Rattle.safe_runs.specs.Opening.{HasFailed, RepeatsOpen, OpensAgain, HasOpened, RunsOpenAgain, RunsEndOpen}

taken_not : (b : Bool) → true ≡ false → ⊥
taken_not b h = cc

abbrev second : Option (Kind × Bool) → Bool
second None = false
second (Some p) = p.1

failed_by : (o : Option (Kind × Bool)) (fed : List Bool) (kind : Kind) → o ≡ Some (kind, false) → standing_by o fed ≡ standing.MustOpen
failed_by None fed kind h = cc
failed_by (Some (contactor.Close, true)) fed kind h = absurd (taken_not true (ap second h))
failed_by (Some (contactor.Open, true)) fed kind h = absurd (taken_not true (ap second h))
failed_by (Some (contactor.Close, false)) fed kind h = refl
failed_by (Some (contactor.Open, false)) fed kind h = refl

pub must_open : (plan : PostPlan) (steps : List Step) → HasFailed (map seen_of steps) → (state plan steps).facts.contactor ≡ standing.MustOpen
must_open plan steps h =
    let past = map seen_of steps in
    (contactors_are_read plan steps).standing_is ∙ failed_by (last_order (contactor_acts past)) (feedback_since (contactor_acts past)) h.0 h.1

heard_must : (e : Event) (f : Facts) → f.contactor ≡ standing.MustOpen → (heard_facts e f).contactor ≡ standing.MustOpen
heard_must (Came token) f h = h
heard_must (Bytes bytes) f h = h
heard_must Gone f h = h
heard_must (Datagram bytes) f h = h
heard_must (Plant (plant.Pilot st)) f h = h
heard_must (Plant (plant.Isolation level)) f h = h
heard_must (Plant (plant.Measured voltage current)) f h = h
heard_must (Plant (plant.Feedback true)) f h = rw h refl
heard_must (Plant (plant.Feedback false)) f h = rw h refl
heard_must (Plant plant.Paid) f h = h
heard_must (Plant plant.Emergency) f h = h
heard_must (Plant plant.StopAsked) f h = h
heard_must (Plant plant.RenewAsked) f h = h
heard_must Clock f h = h
heard_must Over f h = h

abbrev pub opening : Agenda
opening = record nothing { order = Some order.Open }

pub opens_decided : (plan : PostPlan) (at : ℕ) (e : Event) (s : State) → s.facts.contactor ≡ standing.MustOpen → decided plan (hearing at e s) ≡ record (hearing at e s) { agenda = opening; part = Timing }
opens_decided plan at e s h = let m = heard_must e s.facts h in rw m refl

pub open_todo : (c : Codecs) (todo : states.Todo) (a : Act) (taken : Bool) → IsDone c todo a taken → todo ≡ states.Give order.Open → a ≡ Give order.Open
open_todo c (states.Tell d) a taken i h = cc
open_todo c (states.Give o) a taken i h = let x : o ≡ order.Open = cc in i ∙ ap Give x
open_todo c (states.Say spoken) a taken i h = cc
open_todo c (states.Finish cause) a taken i h = cc

opens_read : (c : Codecs) (plan : PostPlan) (S : ℕ → ℕ → Type 0) (t : State) (r : Option Reading) (todo : states.Todo) → t.agenda ≡ opening → IsRead c plan S t (wanted t) r → first (read plan t r).agenda ≡ Some todo → todo ≡ states.Give order.Open
opens_read c plan S t None todo e i f = let g : first t.agenda ≡ Some (states.Give order.Open) = ap first e in let x : Some todo ≡ Some (states.Give order.Open) = sym f ∙ g in cc
opens_read c plan S t (Some r) todo e i f =
    let w : wanted t ≡ None = rw e refl in
    absurd (subst (λ p. IsRead c plan S t p (Some r)) w i)

opens_first : (c : Codecs) (plan : PostPlan) (S : ℕ → ℕ → Type 0) (at : ℕ) (e : Event) (s : State) (r : Option Reading) (a : Act) (taken : Bool) → s.facts.contactor ≡ standing.MustOpen → Acts c plan S (hearing at e s) r a taken → a ≡ Give order.Open
opens_first c plan S at e s r a taken h acts =
    let d = opens_decided plan at e s h in
    open_todo c acts.todo a taken acts.done (opens_read c plan S (decided plan (hearing at e s)) r acts.todo (ap (λ (t : State). t.agenda) d) acts.read acts.acts)

not_quiet : (plan : PostPlan) (at : ℕ) (e : Event) (s : State) → s.facts.contactor ≡ standing.MustOpen → IsQuiet plan (hearing at e s) → ⊥
not_quiet plan at e s h q = let d = opens_decided plan at e s h in let x : Some (states.Give order.Open) ≡ None = sym (ap (λ (t : State). first t.agenda) d) ∙ q.none in cc

quiet_opened : (plan : PostPlan) (steps : List Step) → IsQuiet plan (state plan steps) → HasOpened (map seen_of steps)
quiet_opened plan [] q = tt
quiet_opened plan (Hears at e ∷ steps) q = λ f. not_quiet plan at e (state plan steps) (must_open plan steps f) q
quiet_opened plan (Does r a taken ∷ steps) q = tt

heard_again : (plan : PostPlan) (x : Seen) (steps : List Step) → IsQuiet plan (state plan steps) → RepeatsOpen x (map seen_of steps)
heard_again plan x [] q = tt
heard_again plan x (Hears at e ∷ steps) q = λ f. absurd (not_quiet plan at e (state plan steps) (must_open plan steps f) q)
heard_again plan x (Does r a taken ∷ steps) q = tt

acted_again : (c : Codecs) (plan : PostPlan) (S : ℕ → ℕ → Type 0) (steps : List Step) (r : Option Reading) (a : Act) (taken : Bool) → Acts c plan S (state plan steps) r a taken → RepeatsOpen (Did a taken) (map seen_of steps)
acted_again c plan S [] r a taken acts = tt
acted_again c plan S (Hears at e ∷ steps) r a taken acts = λ f. (taken, ap (λ (x : Act). Did x taken) (opens_first c plan S at e (state plan steps) r a taken (must_open plan steps f) acts))
acted_again c plan S (Does q b t ∷ steps) r a taken acts = tt

steps_again : (c : Codecs) (plan : PostPlan) (steps : List Step) → IsPostRun c plan steps → OpensAgain (map seen_of steps)
steps_again c plan [] run = tt
steps_again c plan (Hears at e ∷ steps) run = (steps_again c plan steps run.0, heard_again plan (Heard at e) steps run.1)
steps_again c plan (Does r a taken ∷ steps) (run, (limit, before, behind, acts)) = (steps_again c plan steps run, acted_again c plan (Shows limit before behind) steps r a taken acts)

pub runs_open_again : (c : Codecs) → RunsOpenAgain c
runs_open_again c site past posts before post behind run is =
    let all = subst (ArePostsOf c past 1) is (run_posts c site past posts run) in
    let k = post_at c past (length before + 1) 1 before post behind refl all in (
      subst OpensAgain (sym k.seen_is) (steps_again c post.plan post.steps k.run),
      λ q. subst HasOpened (sym k.seen_is) (quiet_opened post.plan post.steps (quiet_at before post behind (subst AreQuiet is q))),
    )

-- The orders that close a run.

seen_not : (n k : ℕ) (taken : Bool) (blocks : List Entry) → k ≢ n → seen n (entry.Drove k order.Open taken ∷ blocks) ≡ seen n blocks
seen_not n k taken blocks ne = let t = ne_eqb k n ne in rw t refl

seen_it : (n k : ℕ) (taken : Bool) (blocks : List Entry) → k ≡ n → seen n (entry.Drove k order.Open taken ∷ blocks) ≡ Did (Give order.Open) taken ∷ seen n blocks
seen_it n k taken blocks e = let t = eq-eqb k n e in rw t refl

mutual_past : (n k : ℕ) (posts : List Post) (blocks past : List Entry) (b : Bool) → n < k
    → ((bs : List Entry) → Closes (suc k) posts bs past → seen n past ≡ seen n bs)
    → MatchBool b ((taken : Bool) × Closes (suc k) posts (entry.Drove k order.Open taken ∷ blocks) past) (Closes (suc k) posts blocks past) → seen n past ≡ seen n blocks
mutual_past n k posts blocks past true less rest c = rest (entry.Drove k order.Open c.0 ∷ blocks) c.1 ∙ seen_not n k c.0 blocks (λ e. omega (arith, e, less))
mutual_past n k posts blocks past false less rest c = rest blocks c

closes_behind : (n k : ℕ) (posts : List Post) (blocks past : List Entry) → n < k → Closes k posts blocks past → seen n past ≡ seen n blocks
closes_behind n k [] blocks past less c = ap (seen n) c
closes_behind n k (p ∷ posts) blocks past less c = mutual_past n k posts blocks past (state_of p).live less (λ bs d. closes_behind n (suc k) posts bs past (omega (arith, less)) d) c

closes_here : (n k : ℕ) (behind : List Post) (blocks past : List Entry) (b : Bool) → n ≡ k → MatchBool b ((taken : Bool) × Closes (suc k) behind (entry.Drove k order.Open taken ∷ blocks) past) (Closes (suc k) behind blocks past)
    → MatchBool b ((taken : Bool) × (seen n past ≡ Did (Give order.Open) taken ∷ seen n blocks)) (seen n past ≡ seen n blocks)
closes_here n k behind blocks past true e c = (c.0, closes_behind n (suc k) behind (entry.Drove k order.Open c.0 ∷ blocks) past (omega (arith, e)) c.1 ∙ seen_it n k c.0 blocks (sym e))
closes_here n k behind blocks past false e c = closes_behind n (suc k) behind blocks past (omega (arith, e)) c

abbrev Ends : ℕ → Bool → List Entry → List Entry → Type 0
Ends n b past blocks = MatchBool b ((taken : Bool) × (seen n past ≡ Did (Give order.Open) taken ∷ seen n blocks)) (seen n past ≡ seen n blocks)

ends_over : (n : ℕ) (b : Bool) (past blocks later : List Entry) → seen n later ≡ seen n blocks → Ends n b past later → Ends n b past blocks
ends_over n true past blocks later e h = (h.0, h.1 ∙ ap (λ (xs : List Seen). Did (Give order.Open) h.0 ∷ xs) e)
ends_over n false past blocks later e h = h ∙ e

closes_before : (n k : ℕ) (d : Bool) (b : Bool) (posts : List Post) (blocks past : List Entry) → k ≢ n → ((bs : List Entry) → Closes (suc k) posts bs past → Ends n d past bs)
    → MatchBool b ((taken : Bool) × Closes (suc k) posts (entry.Drove k order.Open taken ∷ blocks) past) (Closes (suc k) posts blocks past) → Ends n d past blocks
closes_before n k d true posts blocks past ne rest c = ends_over n d past blocks (entry.Drove k order.Open c.0 ∷ blocks) (seen_not n k c.0 blocks ne) (rest (entry.Drove k order.Open c.0 ∷ blocks) c.1)
closes_before n k d false posts blocks past ne rest c = rest blocks c

closes_at : (n k : ℕ) (before : List Post) (p : Post) (behind : List Post) (blocks past : List Entry) → n ≡ length before + k → Closes k (before ++ p ∷ behind) blocks past → Ends n (state_of p).live past blocks
closes_at n k [] p behind blocks past e c = closes_here n k behind blocks past (state_of p).live (omega (arith, e)) c
closes_at n k (q ∷ before) p behind blocks past e c =
    let l : length (q ∷ before) ≡ length before + 1 = omega arith in
    closes_before n k (state_of p).live (state_of q).live (before ++ p ∷ behind) blocks past (λ s. omega (arith, e, l, s)) (λ bs d. closes_at n (suc k) before p behind bs past (omega (arith, e, l)) d) c

pub runs_end_open : (c : Codecs) → RunsEndOpen c
runs_end_open c site past blocks posts before post behind run closes is =
    let n = length before + 1 in
    let all = subst (ArePostsOf c blocks 1) is (run_posts c site blocks posts run) in
    let k = post_at c blocks n 1 before post behind refl all in
    let l : (state_of post).live ≡ live (seen n blocks) = (contactors_are_read post.plan post.steps).live_is ∙ ap live (sym k.seen_is) in
    let h = closes_at n 1 before post behind blocks past refl (subst (λ (ps : List Post). Closes 1 ps blocks past) is closes) in
    subst (λ (b : Bool). MatchBool b ((taken : Bool) × (seen n past ≡ Did (Give order.Open) taken ∷ seen n blocks)) (seen n past ≡ seen n blocks)) l h
