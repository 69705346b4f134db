-- Two runs of a post that are alike are the same.
use Rattle.std.proofs.Common.{◌≡◌, ℕ, ◌+◌, Bool, true, false, List, [], ◌∷◌, ◌++◌, length, reverse, map, Option, Some, None, refl, sym, ap, subst, ◌∙◌, MatchBool}
use Rattle.charge_world.specs.declared.entry.Entry.{Entry}
use Rattle.charge_world.specs.declared.offer.Dialect.{Dialect}
use Rattle.charge_world.specs.declared.ports.Order.TheVariants as order
use Rattle.session_words.specs.declared.plan.PostPlan.{PostPlan}
use Rattle.session_words.specs.declared.plan.SitePlan.{SitePlan}
use Rattle.v2gtp_frames.specs.Frames.{frame}
use Rattle.post_spec.specs.Codecs.{Judged, Codecs, Judges, judged_word}
use Rattle.post_spec.specs.Contactors.{live}
use Rattle.post_spec.specs.Spelled.{AreDetermined}
use Rattle.post_spec.specs.Steps.{Act, Give, Send, Seen, Did, Reading, Step, Hears, Does, seen, seen_of}
use Rattle.station_spec.specs.States.{Spoken, Response, Said, State, fresh, first}
use Rattle.station_spec.specs.States as states
use Rattle.station_spec.specs.Deciding.{decided}
use Rattle.station_spec.specs.Judging.{Payload, wanted, filled, IsRead}
use Rattle.station_spec.specs.Acting.{state, acted}
use Rattle.station_spec.specs.Hearing.{hearing}
use Rattle.station_spec.specs.Next.{IsQuiet, IsSpoken, IsDone, Acts}
use Rattle.station_spec.specs.Sharing.{Post, Shows}
use Rattle.station_spec.specs.Runs.{IsSiteRun, AreQuiet}
use Rattle.station_laws.specs.PostRuns.{IsPostRun, ArePostsOf}
use Rattle.station_laws.proofs.PostRuns.{run_posts, post_at, quiet_at}
use Rattle.safe_runs.specs.Opening.{EndsOpen}
use Rattle.safe_runs.proofs.Openings.{runs_end_open}
use Rattle.isolated_runs.specs.Isolated.{with_some, gather, hearing_in, outcome_in, shown_to, shown_in, Agree, AreAlike, RunsAreIsolated}

-- one word, one encoding, one act
word_once : (c : Codecs) → AreDetermined c → (offers : List Dialect) (d : Option Dialect) (payload : List ℕ) (a b : Judged) → Judges c offers d payload a → Judges c offers d payload b → a ≡ b
word_once c one offers None payload a b j k = one.negotiates offers payload a b j k
word_once c one offers (Some d) payload a b j k = j.2 ∙ ap judged_word (one.reads d payload j.0 k.0 j.1 k.1) ∙ sym k.2

spoken_once : (c : Codecs) → AreDetermined c → (spoken : Spoken) (x y : List ℕ) → IsSpoken c spoken x → IsSpoken c spoken y → x ≡ y
spoken_once c one (Response payload) x y i k = i ∙ sym k
spoken_once c one (Said d reply) x y i k = i.2 ∙ ap frame (one.encodes d reply i.0 k.0 i.1 k.1) ∙ sym k.2

done_once : (c : Codecs) → AreDetermined c → (todo : states.Todo) (a b : Act) (t u : Bool) → IsDone c todo a t → IsDone c todo b u → a ≡ b
done_once c one (states.Tell d) a b t u i k = i ∙ sym k
done_once c one (states.Give o) a b t u i k = i ∙ sym k
done_once c one (states.Say spoken) a b t u i k = i.2 ∙ ap Send (spoken_once c one spoken i.0 k.0 i.1 k.1) ∙ sym k.2
done_once c one (states.Finish cause) a b t u i k = i.0 ∙ sym k.0

-- In the order of time.
abbrev pub ActsFor : Codecs → PostPlan → State → Option Reading → Act → Bool → Type 0
ActsFor c plan s r a taken = (limit : ℕ) × (before : List Post) × (behind : List Post) × Acts c plan (Shows limit before behind) s r a taken

abbrev pub RunFrom : Codecs → PostPlan → State → List Step → Type 0
RunFrom c plan s [] = IsQuiet plan s
RunFrom c plan s (Hears at e ∷ xs) = IsQuiet plan s × RunFrom c plan (hearing at e s) xs
RunFrom c plan s (Does r a taken ∷ xs) = RunFrom c plan (acted a taken (filled plan r s)) xs × ActsFor c plan s r a taken

abbrev pub onto : {A : Type 0} → List A → List A → List A
onto [] ys = ys
onto (x ∷ xs) ys = onto xs (x ∷ ys)

from_first : (c : Codecs) (plan : PostPlan) (xs later : List Step) → IsPostRun c plan xs → RunFrom c plan (state plan xs) later → RunFrom c plan fresh (onto xs later)
from_first c plan [] later run after = after
from_first c plan (Hears at e ∷ xs) later run after = from_first c plan xs (Hears at e ∷ later) run.0 (run.1, after)
from_first c plan (Does r a taken ∷ xs) later (run, acts) after = from_first c plan xs (Does r a taken ∷ later) run (after, acts)

-- what is gathered of steps, through what is seen of them
abbrev pub of_steps : {B : Type 0} → (Seen → Option B) → List Step → List B
of_steps f xs = gather (λ s. f (seen_of s)) xs

gather_seen : {B : Type 0} (f : Seen → Option B) (xs : List Step) → gather f (map seen_of xs) ≡ of_steps f xs
gather_seen f [] = refl
gather_seen f (x ∷ xs) = ap (with_some (f (seen_of x))) (gather_seen f xs)

onto_some : {B : Type 0} (o : Option B) (xs ys : List B) → onto (with_some o xs) ys ≡ onto xs (with_some o ys)
onto_some None xs ys = refl
onto_some (Some a) xs ys = refl

some_end : {B : Type 0} (o : Option B) (xs ys : List B) → with_some o xs ++ ys ≡ with_some o (xs ++ ys)
some_end None xs ys = refl
some_end (Some a) xs ys = refl

-- in the order of time, with what came behind them
gather_onto : {B : Type 0} (f : Step → Option B) (xs ys : List Step) (o : List B) → gather f (onto xs ys) ++ o ≡ onto (gather f xs) (gather f ys ++ o)
gather_onto f [] ys o = refl
gather_onto f (x ∷ xs) ys o = gather_onto f xs (x ∷ ys) o ∙ ap (onto (gather f xs)) (some_end (f x) (gather f ys) o) ∙ sym (onto_some (f x) (gather f xs) (gather f ys ++ o))

append_none : {B : Type 0} (xs : List B) → xs ++ [] ≡ xs
append_none [] = refl
append_none (x ∷ xs) = ap (λ ys. x ∷ ys) (append_none xs)

in_time : {B : Type 0} (xs : List B) → onto xs [] ≡ reverse xs
in_time xs = refl

-- lists that agree, under other names
agree_as : {B : Type 0} (xs xs' ys ys' : List B) → xs ≡ xs' → ys ≡ ys' → Agree xs' ys' → Agree xs ys
agree_as {B} xs xs' ys ys' e i a = subst (λ (us : List B). Agree us ys) (sym e) (subst (λ (us : List B). Agree xs' us) (sym i) a)

-- What is read is one.
read_same : (c : Codecs) → AreDetermined c → (plan : PostPlan) (S T : ℕ → ℕ → Type 0) (s : State) (w : Option Payload) (r r' : Option Reading) (rest rest' : List ℕ) → IsRead c plan S s w r → IsRead c plan T s w r' → Agree (with_some (shown_to r) rest) (with_some (shown_to r') rest') → (r ≡ r') × Agree rest rest'
read_same c one plan S T s None None None rest rest' i k e = (refl, e)
read_same c one plan S T s None None (Some x) rest rest' i k e = absurd k
read_same c one plan S T s None (Some x) r' rest rest' i k e = absurd i
read_same c one plan S T s (Some p) None r' rest rest' i k e = absurd i
read_same c one plan S T s (Some p) (Some x) None rest rest' i k e = absurd k
read_same c one plan S T s (Some p) (Some x) (Some y) rest rest' i k e =
    let w = word_once c one plan.dialects.items p.dialect p.bytes x.judged y.judged i.0 k.0 in
    (ap (λ (j : Judged). Some (record { judged = j; shown = x.shown })) w ∙ ap (λ (n : ℕ). Some (record { judged = y.judged; shown = n })) e.0, e.1)

-- at rest nothing is done
quiet_read : (c : Codecs) (plan : PostPlan) (S : ℕ → ℕ → Type 0) (s : State) (r : Option Reading) (todo : states.Todo) → IsQuiet plan s → IsRead c plan S (decided plan s) (wanted (decided plan s)) r → first (filled plan r s).agenda ≡ Some todo → ⊥
quiet_read c plan S s None todo q i f = let g : None ≡ Some todo = sym q.none ∙ f in cc
quiet_read c plan S s (Some x) todo q i f = subst (λ (w : Option Payload). IsRead c plan S (decided plan s) w (Some x)) q.no_word i

quiet_acts : (c : Codecs) (plan : PostPlan) (s : State) (r : Option Reading) (a : Act) (t : Bool) → IsQuiet plan s → ActsFor c plan s r a t → ⊥
quiet_acts c plan s r a t q (limit, before, behind, acts) = quiet_read c plan (Shows limit before behind) s r acts.todo q acts.read acts.acts

pub same_runs : (c : Codecs) → AreDetermined c → (plan : PostPlan) (s : State) (xs ys : List Step) (o o' : List Bool) → RunFrom c plan s xs → RunFrom c plan s ys → of_steps hearing_in xs ≡ of_steps hearing_in ys → Agree (of_steps outcome_in xs ++ o) (of_steps outcome_in ys ++ o')
    → Agree (gather shown_in xs) (gather shown_in ys) → (xs ≡ ys) × Agree o o'
same_runs c one plan s [] [] o o' x y h k n = (refl, k)
same_runs c one plan s [] (Hears at e ∷ ys) o o' x y h k n = absurd (cc)
same_runs c one plan s [] (Does r a taken ∷ ys) o o' x (y, acts) h k n = absurd (quiet_acts c plan s r a taken x acts)
same_runs c one plan s (Hears at e ∷ xs) [] o o' x y h k n = absurd (cc)
same_runs c one plan s (Hears at e ∷ xs) (Hears at' e' ∷ ys) o o' x y h k n =
    let i : at ≡ at' = cc in
    let j : e ≡ e' = cc in
    let t : of_steps hearing_in xs ≡ of_steps hearing_in ys = cc in
    let next : hearing at' e' s ≡ hearing at e s = rw (i, j) refl in
    let rest = same_runs c one plan (hearing at e s) xs ys o o' x.1 (subst (λ (u : State). RunFrom c plan u ys) next y.1) t k n in
    (rw (i, j, rest.0) refl, rest.1)
same_runs c one plan s (Hears at e ∷ xs) (Does r a taken ∷ ys) o o' x (y, acts) h k n = absurd (quiet_acts c plan s r a taken x.0 acts)
same_runs c one plan s (Does r a taken ∷ xs) [] o o' (x, acts) y h k n = absurd (quiet_acts c plan s r a taken y acts)
same_runs c one plan s (Does r a taken ∷ xs) (Hears at e ∷ ys) o o' (x, acts) y h k n = absurd (quiet_acts c plan s r a taken y.0 acts)
same_runs c one plan s (Does r a taken ∷ xs) (Does r' a' taken' ∷ ys) o o' (x, (limit, before, behind, acts)) (y, (limit', before', behind', acts')) h k n =
    let i = read_same c one plan (Shows limit before behind) (Shows limit' before' behind') (decided plan s) (wanted (decided plan s)) r r' (gather shown_in xs) (gather shown_in ys) acts.read acts'.read n in
    let z : Some acts.todo ≡ Some acts'.todo = sym acts.acts ∙ ap (λ (q : Option Reading). first (filled plan q s).agenda) i.0 ∙ acts'.acts in
    let w : acts.todo ≡ acts'.todo = cc in
    let j : a ≡ a' = done_once c one acts.todo a a' taken taken' acts.done (subst (λ (q : states.Todo). IsDone c q a' taken') (sym w) acts'.done) in
    let m = k.0 in
    let e = i.0 in
    let next : acted a' taken' (filled plan r' s) ≡ acted a taken (filled plan r s) = rw (e, j, m) refl in
    let rest = same_runs c one plan (acted a taken (filled plan r s)) xs ys o o' x (subst (λ (u : State). RunFrom c plan u ys) next y) h k.1 i.1 in
    (rw (e, j, m, rest.0) refl, rest.1)

onto_back : {A : Type 0} (xs ys : List A) → onto (onto xs ys) [] ≡ onto ys xs
onto_back [] ys = refl
onto_back (x ∷ xs) ys = onto_back xs (x ∷ ys)

-- the same in the order of pasts
pub alone : (c : Codecs) → AreDetermined c → (plan : PostPlan) (xs ys : List Step) (o o' : List Bool) → IsPostRun c plan xs → IsPostRun c plan ys → IsQuiet plan (state plan xs) → IsQuiet plan (state plan ys)
    → of_steps hearing_in xs ≡ of_steps hearing_in ys → Agree (onto (of_steps outcome_in xs) o) (onto (of_steps outcome_in ys) o') → Agree (onto (gather shown_in xs) []) (onto (gather shown_in ys) []) → (xs ≡ ys) × Agree o o'
alone c one plan xs ys o o' x y q p h k n =
    let hs = λ (zs : List Step). sym (append_none (of_steps hearing_in (onto zs []))) ∙ gather_onto (λ z. hearing_in (seen_of z)) zs [] [] in
    let ns = λ (zs : List Step). sym (append_none (gather shown_in (onto zs []))) ∙ gather_onto shown_in zs [] [] in
    let same = same_runs c one plan fresh (onto xs []) (onto ys []) o o' (from_first c plan xs [] x q) (from_first c plan ys [] y p)
    (hs xs ∙ ap (λ l. onto l []) h ∙ sym (hs ys))
    (agree_as _ _ _ _ (gather_onto (λ z. outcome_in (seen_of z)) xs [] o) (gather_onto (λ z. outcome_in (seen_of z)) ys [] o') k)
    (agree_as _ _ _ _ (ns xs) (ns ys) n) in
    (sym (onto_back xs []) ∙ ap (λ (l : List Step). onto l []) same.0 ∙ onto_back ys [], same.1)

-- The closing order.
abbrev closing_of : (b : Bool) (past blocks : List Seen) → MatchBool b ((taken : Bool) × (past ≡ Did (Give order.Open) taken ∷ blocks)) (past ≡ blocks) → List Bool
closing_of true past blocks e = e.0 ∷ []
closing_of false past blocks e = []

ends_hearings : (b : Bool) (past blocks : List Seen) → MatchBool b ((taken : Bool) × (past ≡ Did (Give order.Open) taken ∷ blocks)) (past ≡ blocks) → gather hearing_in past ≡ gather hearing_in blocks
ends_hearings true past blocks e = ap (gather hearing_in) e.1
ends_hearings false past blocks e = ap (gather hearing_in) e

ends_outcomes : (b : Bool) (past blocks : List Seen) (e : MatchBool b ((taken : Bool) × (past ≡ Did (Give order.Open) taken ∷ blocks)) (past ≡ blocks)) → onto (gather outcome_in past) [] ≡ onto (gather outcome_in blocks) (closing_of b past blocks e)
ends_outcomes true past blocks e = ap (λ (xs : List Seen). onto (gather outcome_in xs) []) e.1
ends_outcomes false past blocks e = ap (λ (xs : List Seen). onto (gather outcome_in xs) []) e

ends_same : (b b' : Bool) (past blocks past' blocks' : List Seen) (e : MatchBool b ((taken : Bool) × (past ≡ Did (Give order.Open) taken ∷ blocks)) (past ≡ blocks)) (e' : MatchBool b' ((taken : Bool) × (past' ≡ Did (Give order.Open) taken ∷ blocks')) (past' ≡ blocks'))
    → b ≡ b' → blocks ≡ blocks' → Agree (closing_of b past blocks e) (closing_of b' past' blocks' e') → past ≡ past'
ends_same true true past blocks past' blocks' e e' q s o = let t = o.0 in e.1 ∙ ap (λ (xs : List Seen). Did (Give order.Open) e.0 ∷ xs) s ∙ ap (λ (t : Bool). Did (Give order.Open) t ∷ blocks') t ∙ sym e'.1
ends_same true false past blocks past' blocks' e e' q s o = absurd (cc)
ends_same false true past blocks past' blocks' e e' q s o = absurd (cc)
ends_same false false past blocks past' blocks' e e' q s o = e ∙ s ∙ sym e'

-- a post of a whole run
pub record Whole (c : Codecs) (post : Post) (past blocks : List Seen) : Type 0 where
  pub run : IsPostRun c post.plan post.steps
  pub quiet : IsQuiet post.plan (state post.plan post.steps)
  pub seen_is : blocks ≡ map seen_of post.steps
  pub ends : EndsOpen past blocks

whole_at : (c : Codecs) (site : SitePlan) (past : List Entry) (run : IsSiteRun c site past) (n : ℕ) (before : List Post) (post : Post) (behind : List Post) → run.posts ≡ before ++ post ∷ behind → n ≡ length before + 1 → Whole c post (seen n past) (seen n run.blocks)
whole_at c site past run n before post behind is e =
    let all = subst (ArePostsOf c run.blocks 1) is (run_posts c site run.blocks run.posts run.run) in
    let k = post_at c run.blocks n 1 before post behind e all in
    record {
      run = k.run;
      quiet = quiet_at before post behind (subst AreQuiet is run.whole);
      seen_is = k.seen_is;
      ends = subst (λ (i : ℕ). EndsOpen (seen i past) (seen i run.blocks)) (sym e) (runs_end_open c site past run.blocks run.posts before post behind run.run run.closes is);
    }

hearings_of : (c : Codecs) (post : Post) (past blocks : List Seen) → Whole c post past blocks → gather hearing_in past ≡ of_steps hearing_in post.steps
hearings_of c post past blocks w = ends_hearings (live blocks) past blocks w.ends ∙ ap (gather hearing_in) w.seen_is ∙ gather_seen hearing_in post.steps

outcomes_of : (c : Codecs) (post : Post) (past blocks : List Seen) (w : Whole c post past blocks) → onto (gather outcome_in past) [] ≡ onto (of_steps outcome_in post.steps) (closing_of (live blocks) past blocks w.ends)
outcomes_of c post past blocks w =
    ends_outcomes (live blocks) past blocks w.ends ∙ ap (λ (os : List Bool). onto os (closing_of (live blocks) past blocks w.ends)) (ap (gather outcome_in) w.seen_is ∙ gather_seen outcome_in post.steps)

both_same : (c : Codecs) → AreDetermined c → (post post' : Post) (past past' blocks blocks' : List Seen) → Whole c post past blocks → Whole c post' past' blocks' → AreAlike post post' past past' → past ≡ past'
both_same c one post post' past past' blocks blocks' w w' a =
    let plan = a.plan in
    let same = alone c one post.plan post.steps post'.steps (closing_of (live blocks) past blocks w.ends) (closing_of (live blocks') past' blocks' w'.ends) w.run
    (subst (λ (p : PostPlan). IsPostRun c p post'.steps) (sym plan) w'.run) w.quiet (subst (λ (p : PostPlan). IsQuiet p (state p post'.steps)) (sym plan) w'.quiet)
    (sym (hearings_of c post past blocks w) ∙ a.hearings ∙ hearings_of c post' past' blocks' w')
    (agree_as _ _ _ _ (sym (outcomes_of c post past blocks w) ∙ in_time (gather outcome_in past)) (sym (outcomes_of c post' past' blocks' w') ∙ in_time (gather outcome_in past')) a.outcomes)
    (agree_as _ _ _ _ (in_time (gather shown_in post.steps)) (in_time (gather shown_in post'.steps)) a.shown) in
    let blocks_are = w.seen_is ∙ ap (map seen_of) same.0 ∙ sym w'.seen_is in
    ends_same (live blocks) (live blocks') past blocks past' blocks' w.ends w'.ends (ap live blocks_are) blocks_are same.1

pub runs_are_isolated : (c : Codecs) → RunsAreIsolated c
runs_are_isolated c site site' past past' run run' n before before' post post' behind behind' one is is' e e' a =
    both_same c one post post' (seen n past) (seen n past') (seen n run.blocks) (seen n run'.blocks)
    (whole_at c site past run n before post behind is e) (whole_at c site' past' run' n before' post' behind' is' e') a
