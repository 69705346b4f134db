-- Posts act one behind another, so what all of them do is what each does in its turn.
use Rattle.std.proofs.Common.{◌≡◌, ◌<◌, ℕ, suc, ◌+◌, max, Bool, false, List, [], ◌∷◌, ◌++◌, length, map, append_assoc, Option, Some, None, refl, sym, ap, subst, ◌∙◌, inl, inr}
use Rattle.charge_world.specs.declared.entry.Entry.{Entry}
use Rattle.charge_world.specs.declared.entry.Entry.TheVariants as entry
use Rattle.charge_world.specs.declared.heard.Heard.{Heard}
use Rattle.session_words.specs.declared.plan.PostPlan.{PostPlan}
use Rattle.session_words.specs.declared.plan.SitePlan.{SitePlan}
use Rattle.post_spec.specs.Codecs.{Codecs}
use Rattle.post_spec.specs.Steps.{Act, Step, Hears, Does, Reading, moment}
use Rattle.station_spec.specs.States.{State, Todo, first}
use Rattle.station_spec.specs.Deciding.{decided}
use Rattle.station_spec.specs.Judging.{Payload, wanted, filled, IsRead}
use Rattle.station_spec.specs.Acting.{state}
use Rattle.station_spec.specs.Next.{IsQuiet, Acts}
use Rattle.station_spec.specs.Blocks.{is_last, hearings}
use Rattle.station_spec.specs.Sharing.{Post, state_of, Shows}
use Rattle.station_spec.specs.Runs.{entry_of, with_step, unheard, heard_from, Rests, AreQuiet, HeardBy, MayAct, IsRun}
use Rattle.blocks_of_runs.specs.Answers.{Move, behind, Answers}
use Rattle.blocks_of_runs.specs.BlockRuns.{past_behind, with_moves, AreAnswered, IsBlock, AreBlocks}
use Rattle.blocks_of_runs.proofs.Chains.{Acting}
use Rattle.blocks_of_runs.proofs.Parts.{hearing_fresh, to_answers, from_answers}

-- what posts do in turn, whatever one of them does
abbrev pub InTurn : Codecs → ℕ → List Post → List Post → List Entry → List Post → List Entry → Type 0
InTurn c limit before [] past answered later = (answered ≡ before) × (later ≡ past)
InTurn c limit before (post ∷ posts) past answered later =
    (moves : List Move) × Acting c post.plan (Shows limit before posts) post.steps moves
    × InTurn c limit (before ++ with_moves moves post ∷ []) posts (past_behind (length before + 1) moves past) answered later

pub append_nil : (posts : List Post) → posts ++ [] ≡ posts
append_nil [] = refl
append_nil (p ∷ posts) = ap (λ (ps : List Post). p ∷ ps) (append_nil posts)

pub one_more : (before : List Post) (p : Post) (behind : List Post) → (before ++ p ∷ []) ++ behind ≡ before ++ p ∷ behind
one_more before p behind = append_assoc before (p ∷ []) behind

pub quiet_more : (before : List Post) (p : Post) → AreQuiet before → Rests p → AreQuiet (before ++ p ∷ [])
quiet_more [] p q r = (r, tt)
quiet_more (b ∷ before) p q r = (q.0, quiet_more before p q.1 r)

-- at rest nothing is done
pub busy_read : (c : Codecs) (plan : PostPlan) (S : ℕ → ℕ → Type 0) (s : State) (r : Option Reading) (todo : Todo) → IsQuiet plan s → IsRead c plan S (decided plan s) (wanted (decided plan s)) r → first (filled plan r s).agenda ≡ Some todo → ⊥
busy_read c plan S s None todo q i f = let g : None ≡ Some todo = sym q.none ∙ f in cc
busy_read c plan S s (Some x) todo q i f = subst (λ (w : Option Payload). IsRead c plan S (decided plan s) w (Some x)) q.no_word i

pub quiet_moves : (c : Codecs) (plan : PostPlan) (S : ℕ → ℕ → Type 0) (steps : List Step) (moves : List Move) → IsQuiet plan (state plan steps) → Acting c plan S steps moves → moves ≡ []
quiet_moves c plan S steps [] q x = refl
quiet_moves c plan S steps (m ∷ moves) q x = absurd (busy_read c plan S (state plan steps) m.reading x.0.todo q x.0.read x.0.acts)

-- an act of the first post that has something to do is the first of what it does in its turn
act_turn : (c : Codecs) (limit : ℕ) (before xs : List Post) (p : Post) (behind : List Post) (r : Option Reading) (a : Act) (taken : Bool) (past : List Entry) (answered : List Post) (later : List Entry) → AreQuiet xs
    → Acts c p.plan (Shows limit (before ++ xs) behind) (state_of p) r a taken → InTurn c limit before (xs ++ with_step (Does r a taken) p ∷ behind) (entry_of (length (before ++ xs) + 1) a taken ∷ past) answered later
    → InTurn c limit before (xs ++ p ∷ behind) past answered later
act_turn c limit before [] p behind r a taken past answered later q x (moves, k, rest) =
    let none : before ++ [] ≡ before = append_nil before in (
      record { reading = r; act = a; taken = taken } ∷ moves,
      (subst (λ (ps : List Post). Acts c p.plan (Shows limit ps behind) (state_of p) r a taken) none x, k),
      subst (λ (ps : List Post). InTurn c limit (before ++ with_moves moves (with_step (Does r a taken) p) ∷ []) behind (past_behind (length before + 1) moves (entry_of (length ps + 1) a taken ∷ past)) answered later) none rest,
    )
act_turn c limit before (y ∷ xs) p behind r a taken past answered later q x (moves, k, rest) =
    let none = quiet_moves c y.plan (Shows limit before (xs ++ with_step (Does r a taken) p ∷ behind)) y.steps moves q.0 k in
    let same : (before ++ y ∷ []) ++ xs ≡ before ++ y ∷ xs = one_more before y xs in
    let next : InTurn c limit (before ++ y ∷ []) (xs ++ with_step (Does r a taken) p ∷ behind) (entry_of (length (before ++ y ∷ xs) + 1) a taken ∷ past) answered later =
    subst (λ (ms : List Move). InTurn c limit (before ++ with_moves ms y ∷ []) (xs ++ with_step (Does r a taken) p ∷ behind) (past_behind (length before + 1) ms (entry_of (length (before ++ y ∷ xs) + 1) a taken ∷ past)) answered later) none rest in (
      [],
      q.0,
      act_turn c limit (before ++ y ∷ []) xs p behind r a taken past answered later q.1
          (subst (λ (ps : List Post). Acts c p.plan (Shows limit ps behind) (state_of p) r a taken) (sym same) x)
          (subst (λ (ps : List Post). InTurn c limit (before ++ y ∷ []) (xs ++ with_step (Does r a taken) p ∷ behind) (entry_of (length ps + 1) a taken ∷ past) answered later) (sym same) next),
    )

-- and posts at rest do nothing in their turns
pub rest_turn : (c : Codecs) (limit : ℕ) (before xs : List Post) (past : List Entry) → AreQuiet xs → InTurn c limit before xs past (before ++ xs) past
rest_turn c limit before [] past q = (append_nil before, refl)
rest_turn c limit before (y ∷ xs) past q =
    ([], q.0, subst (λ (ps : List Post). InTurn c limit (before ++ y ∷ []) xs past ps past) (one_more before y xs) (rest_turn c limit (before ++ y ∷ []) xs past q.1))

-- the turns of a run: from the newest hearing on
posts_turn : (c : Codecs) (limit : ℕ) (posts : List Post) (e : Entry) (later : List Post) (past : List Entry) (answered : List Post) (end : List Entry) → (m : MayAct c limit posts e later) → InTurn c limit [] later (e ∷ past) answered end → InTurn c limit [] posts past answered end
posts_turn c limit posts e later past answered end m x =
    let a : InTurn c limit [] (m.before ++ with_step (Does m.reading m.act m.taken) m.post ∷ m.behind) (entry_of (length m.before + 1) m.act m.taken ∷ past) answered end =
    subst (λ (y : Entry). InTurn c limit [] (m.before ++ with_step (Does m.reading m.act m.taken) m.post ∷ m.behind) (y ∷ past) answered end) m.entry_is
    (subst (λ (ps : List Post). InTurn c limit [] ps (e ∷ past) answered end) m.later_is x) in
    subst (λ (ps : List Post). InTurn c limit [] ps past answered end) (sym m.posts_are) (act_turn c limit [] m.before m.post m.behind m.reading m.act m.taken past answered end m.first m.acts a)

-- posts that have just heard answer in three parts
abbrev pub HasHeard : List Step → Type 0
HasHeard [] = ⊥
HasHeard (Hears at event ∷ steps) = Unit {0}
HasHeard (Does reading act taken ∷ steps) = ⊥

pub heard_to : (c : Codecs) (plan : PostPlan) (S : ℕ → ℕ → Type 0) (steps : List Step) (moves : List Move) → HasHeard steps → Acting c plan S steps moves → Answers c plan S steps moves
heard_to c plan S [] moves h x = absurd h
heard_to c plan S (Hears at event ∷ steps) moves h x = to_answers c plan S (Hears at event ∷ steps) moves (hearing_fresh plan at event steps) x
heard_to c plan S (Does reading act taken ∷ steps) moves h x = absurd h

pub heard_back : (c : Codecs) (plan : PostPlan) (S : ℕ → ℕ → Type 0) (steps : List Step) (moves : List Move) → HasHeard steps → Answers c plan S steps moves → Acting c plan S steps moves
heard_back c plan S [] moves h x = absurd h
heard_back c plan S (Hears at event ∷ steps) moves h x = from_answers c plan S (Hears at event ∷ steps) moves (hearing_fresh plan at event steps) x
heard_back c plan S (Does reading act taken ∷ steps) moves h x = absurd h

abbrev pub HaveHeard : List Post → Type 0
HaveHeard [] = Unit {0}
HaveHeard (post ∷ posts) = HasHeard post.steps × HaveHeard posts

heard_posts : (k at : ℕ) (h : Heard) (bytes : List ℕ) (posts : List Post) → HaveHeard (heard_from k at h bytes posts)
heard_posts k at h bytes [] = tt
heard_posts k at h bytes (p ∷ posts) = (tt, heard_posts (suc k) at h bytes posts)

turn_answers : (c : Codecs) (limit : ℕ) (before xs : List Post) (past : List Entry) (answered : List Post) (later : List Entry) → HaveHeard xs → InTurn c limit before xs past answered later → AreAnswered c limit before xs past answered later
turn_answers c limit before [] past answered later h x = x
turn_answers c limit before (p ∷ xs) past answered later h (moves, k, rest) =
    (moves, heard_to c p.plan (Shows limit before xs) p.steps moves h.0 k, turn_answers c limit (before ++ with_moves moves p ∷ []) xs (past_behind (length before + 1) moves past) answered later h.1 rest)

answers_turn : (c : Codecs) (limit : ℕ) (before xs : List Post) (past : List Entry) (answered : List Post) (later : List Entry) → HaveHeard xs → AreAnswered c limit before xs past answered later → InTurn c limit before xs past answered later
answers_turn c limit before [] past answered later h x = x
answers_turn c limit before (p ∷ xs) past answered later h (moves, k, rest) =
    (moves, heard_back c p.plan (Shows limit before xs) p.steps moves h.0 k, answers_turn c limit (before ++ with_moves moves p ∷ []) xs (past_behind (length before + 1) moves past) answered later h.1 rest)

-- nothing is heard by acts
pub heard_by : (past : List Entry) (posts : List Post) (h : Heard) (bytes : List ℕ) (later : List Post) → HeardBy past posts (entry.Heard h bytes) later → HaveHeard later
heard_by past posts h bytes later x = subst HaveHeard (sym x.2) (heard_posts 1 (max (moment past) h.at) h bytes posts)

pub fresh_quiet : (plans : List PostPlan) → AreQuiet (map unheard plans)
fresh_quiet [] = tt
fresh_quiet (plan ∷ plans) = (record { none = refl; no_word = refl }, fresh_quiet plans)

-- what posts at rest do in their turns is nothing
turn_rests : (c : Codecs) (limit : ℕ) (before xs : List Post) (past : List Entry) (answered : List Post) (later : List Entry) → AreQuiet xs → InTurn c limit before xs past answered later → (answered ≡ before ++ xs) × (later ≡ past)
turn_rests c limit before [] past answered later q x = (x.0 ∙ sym (append_nil before), x.1)
turn_rests c limit before (y ∷ xs) past answered later q (moves, k, rest) =
    let none = quiet_moves c y.plan (Shows limit before xs) y.steps moves q.0 k in
    let next : InTurn c limit (before ++ y ∷ []) xs past answered later = subst (λ (ms : List Move). InTurn c limit (before ++ with_moves ms y ∷ []) xs (past_behind (length before + 1) ms past) answered later) none rest in
    let e = turn_rests c limit (before ++ y ∷ []) xs past answered later q.1 next in
    (e.0 ∙ one_more before y xs, e.1)

-- a run, and what its posts still do in their turns, are blocks
pub record InBlocks (c : Codecs) (site : SitePlan) (past : List Entry) (posts : List Post) : Type 0 where
  pub heard : List Entry
  pub are : AreBlocks c site heard past posts

blocks_heard : (c : Codecs) (site : SitePlan) (past : List Entry) (before : List Post) (e : Entry) (posts answered : List Post) (later : List Entry) → InBlocks c site past before → is_last past ≡ false → hearings past < site.turns → AreQuiet before → HeardBy past before e posts
    → InTurn c site.limit [] posts (e ∷ past) answered later → InBlocks c site later answered
blocks_heard c site past before (entry.Heard h bytes) posts answered later b l t q x turn = record {
  heard = entry.Heard h bytes ∷ b.heard;
  are = (past, before, b.are, l, t, (posts, x, turn_answers c site.limit [] posts (entry.Heard h bytes ∷ past) answered later (heard_by past before h bytes posts x) turn));
}
blocks_heard c site past before entry.Lost posts answered later b l t q x turn =
    let r = turn_rests c site.limit [] posts (entry.Lost ∷ past) answered later (subst AreQuiet (sym x) q) turn in
    record { heard = entry.Lost ∷ b.heard; are = (past, before, b.are, l, t, (r.0 ∙ x, r.1)) }
blocks_heard c site past before (entry.Sent post bytes taken) posts answered later b l t q x turn = absurd x
blocks_heard c site past before (entry.Answered post bytes taken) posts answered later b l t q x turn = absurd x
blocks_heard c site past before (entry.Drove post order taken) posts answered later b l t q x turn = absurd x
blocks_heard c site past before (entry.Dialed port taken) posts answered later b l t q x turn = absurd x
blocks_heard c site past before (entry.Ended post cause) posts answered later b l t q x turn = absurd x

pub blocks_by : (c : Codecs) (site : SitePlan) (past : List Entry) (posts answered : List Post) (later : List Entry) → IsRun c site past posts → InTurn c site.limit [] posts past answered later → InBlocks c site later answered
blocks_by c site [] posts answered later run turn =
    let r = turn_rests c site.limit [] posts [] answered later (subst AreQuiet (sym run) (fresh_quiet site.post.items)) turn in
    record { heard = []; are = (r.1, r.0 ∙ run) }
blocks_by c site (e ∷ past) posts answered later (before, run, inl h) turn =
    blocks_heard c site past before e posts answered later (blocks_by c site past before before past run (rest_turn c site.limit [] before past h.whole)) h.goes_on h.turns_left h.whole h.heard turn
blocks_by c site (e ∷ past) posts answered later (before, run, inr m) turn = blocks_by c site past before answered later run (posts_turn c site.limit before e posts past answered later m turn)

-- and blocks are a run
pub record RunsOn (c : Codecs) (site : SitePlan) (past : List Entry) (posts : List Post) : Type 0 where
  pub run : IsRun c site past posts
  pub quiet : AreQuiet posts

-- the moves of one post
pub run_more : (c : Codecs) (site : SitePlan) (before : List Post) (p : Post) (behind : List Post) (m : Move) (past : List Entry) → AreQuiet before → IsRun c site past (before ++ p ∷ behind) → Acts c p.plan (Shows site.limit before behind) (state_of p) m.reading m.act m.taken
    → IsRun c site (entry_of (length before + 1) m.act m.taken ∷ past) (before ++ with_step (Does m.reading m.act m.taken) p ∷ behind)
run_more c site before p behind m past q run x = (
  before ++ p ∷ behind,
  run,
  inr (record {
    before = before;
    post = p;
    behind = behind;
    posts_are = refl;
    first = q;
    reading = m.reading;
    act = m.act;
    taken = m.taken;
    acts = x;
    entry_is = refl;
    later_is = refl;
  }),
)

pub moves_run : (c : Codecs) (site : SitePlan) (before : List Post) (p : Post) (behind : List Post) (moves : List Move) (past : List Entry) → AreQuiet before → IsRun c site past (before ++ p ∷ behind) → Acting c p.plan (Shows site.limit before behind) p.steps moves
    → IsRun c site (past_behind (length before + 1) moves past) (before ++ with_moves moves p ∷ behind) × Rests (with_moves moves p)
moves_run c site before p behind [] past q run x = (run, x)
moves_run c site before p behind (m ∷ moves) past q run x =
    moves_run c site before (with_step (Does m.reading m.act m.taken) p) behind moves (entry_of (length before + 1) m.act m.taken ∷ past) q (run_more c site before p behind m past q run x.0) x.1

turns_run : (c : Codecs) (site : SitePlan) (before xs : List Post) (past : List Entry) (answered : List Post) (later : List Entry) → AreQuiet before → IsRun c site past (before ++ xs) → InTurn c site.limit before xs past answered later → RunsOn c site later answered
turns_run c site before [] past answered later q run x =
    subst (λ (es : List Entry). RunsOn c site es answered) (sym x.1)
    (subst (λ (ps : List Post). RunsOn c site past ps) (sym x.0) (record { run = subst (λ (ps : List Post). IsRun c site past ps) (append_nil before) run; quiet = q }))
turns_run c site before (p ∷ xs) past answered later q run (moves, k, rest) =
    let y = moves_run c site before p xs moves past q run k in
    turns_run c site (before ++ with_moves moves p ∷ []) xs (past_behind (length before + 1) moves past) answered later (quiet_more before (with_moves moves p) q y.1)
    (subst (λ (ps : List Post). IsRun c site (past_behind (length before + 1) moves past) ps) (sym (one_more before (with_moves moves p) xs)) y.0) rest

block_run : (c : Codecs) (site : SitePlan) (past : List Entry) (before : List Post) (e : Entry) (posts : List Post) (later : List Entry) → RunsOn c site past before → is_last past ≡ false → hearings past < site.turns → IsBlock c site.limit past before e posts later → RunsOn c site later posts
block_run c site past before (entry.Heard h bytes) posts later r l t (hearing, x, answers) =
    turns_run c site [] hearing (entry.Heard h bytes ∷ past) posts later tt (before, r.run, inl (record { whole = r.quiet; goes_on = l; turns_left = t; heard = x }))
    (answers_turn c site.limit [] hearing (entry.Heard h bytes ∷ past) posts later (heard_by past before h bytes hearing x) answers)
block_run c site past before entry.Lost posts later r l t x =
    subst (λ (es : List Entry). RunsOn c site es posts) (sym x.1)
    (record { run = (before, r.run, inl (record { whole = r.quiet; goes_on = l; turns_left = t; heard = x.0 })); quiet = subst AreQuiet (sym x.0) r.quiet })
block_run c site past before (entry.Sent post bytes taken) posts later r l t x = absurd x
block_run c site past before (entry.Answered post bytes taken) posts later r l t x = absurd x
block_run c site past before (entry.Drove post order taken) posts later r l t x = absurd x
block_run c site past before (entry.Dialed port taken) posts later r l t x = absurd x
block_run c site past before (entry.Ended post cause) posts later r l t x = absurd x

pub runs_by : (c : Codecs) (site : SitePlan) (heard : List Entry) (past : List Entry) (posts : List Post) → AreBlocks c site heard past posts → RunsOn c site past posts
runs_by c site [] past posts (none, fresh) =
    subst (λ (es : List Entry). RunsOn c site es posts) (sym none) (record { run = fresh; quiet = subst AreQuiet (sym fresh) (fresh_quiet site.post.items) })
runs_by c site (e ∷ heard) past posts (earlier, before, are, l, t, block) = block_run c site earlier before e posts past (runs_by c site heard earlier before are) l t block

pub to_blocks : (c : Codecs) (site : SitePlan) (past : List Entry) (posts : List Post) → IsRun c site past posts → AreQuiet posts → InBlocks c site past posts
to_blocks c site past posts run q = blocks_by c site past posts posts past run (rest_turn c site.limit [] posts past q)
