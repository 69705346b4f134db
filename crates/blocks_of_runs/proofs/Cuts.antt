-- A run that stops anywhere is whole blocks and at most one that has begun.
use Rattle.std.proofs.Common.{◌⊎◌, ◌≡◌, ◌<◌, ℕ, ◌+◌, Bool, false, List, [], ◌∷◌, ◌++◌, length, Option, refl, sym, ap, subst, ◌∙◌, inl, inr}
use Rattle.charge_world.specs.declared.entry.Entry.{Entry}
use Rattle.charge_world.specs.declared.entry.Entry.TheVariants as entry
use Rattle.session_words.specs.declared.plan.PostPlan.{PostPlan}
use Rattle.session_words.specs.declared.plan.SitePlan.{SitePlan}
use Rattle.post_spec.specs.Codecs.{Codecs}
use Rattle.post_spec.specs.Steps.{Act, Step, Hears, Does, Reading}
use Rattle.station_spec.specs.Acting.{state}
use Rattle.station_spec.specs.Next.{IsQuiet, Acts}
use Rattle.station_spec.specs.Blocks.{is_last, hearings}
use Rattle.station_spec.specs.Sharing.{Post, state_of, Shows}
use Rattle.station_spec.specs.Runs.{entry_of, with_step, Rests, AreQuiet, HeardBy, MayAct, IsRun}
use Rattle.blocks_of_runs.specs.Answers.{Move, behind}
use Rattle.blocks_of_runs.specs.BlockRuns.{past_behind, with_moves}
use Rattle.blocks_of_runs.proofs.Chains.{Acting}
use Rattle.blocks_of_runs.specs.CutRuns.{AreMade, AreBegun, IsLastBlock, StopInBlocks, RunsAreBlocks}
use Rattle.blocks_of_runs.specs.Stops.{Stops}
use Rattle.blocks_of_runs.proofs.Parts.{hearing_fresh}
use Rattle.blocks_of_runs.proofs.Stops.{to_stops}
use Rattle.blocks_of_runs.proofs.Posts.{append_nil, one_more, quiet_more, busy_read, run_more, moves_run, HasHeard, HaveHeard, heard_to, heard_back, heard_by, fresh_quiet, InBlocks, runs_by, to_blocks}

-- what posts have done in turn, whatever one of them does
abbrev Begun : Codecs → ℕ → List Post → List Post → List Entry → List Post → List Entry → Type 0
Begun c limit before [] past answered later = (answered ≡ before) × (later ≡ past)
Begun c limit before (post ∷ posts) past answered later =
    ((moves : List Move) × Acting c post.plan (Shows limit before posts) post.steps moves
    × Begun c limit (before ++ with_moves moves post ∷ []) posts (past_behind (length before + 1) moves past) answered later)
    ⊎ ((moves : List Move) × AreMade c post.plan (Shows limit before posts) post.steps moves
    × (answered ≡ before ++ with_moves moves post ∷ posts) × (later ≡ past_behind (length before + 1) moves past))

-- nothing is done yet
starts : (c : Codecs) (limit : ℕ) (before xs : List Post) (past : List Entry) → Begun c limit before xs past (before ++ xs) past
starts c limit before [] past = (append_nil before, refl)
starts c limit before (p ∷ xs) past = inr ([], tt, refl, refl)

quiet_made : (c : Codecs) (plan : PostPlan) (S : ℕ → ℕ → Type 0) (steps : List Step) (moves : List Move) → IsQuiet plan (state plan steps) → AreMade c plan S steps moves → moves ≡ []
quiet_made c plan S steps [] q x = refl
quiet_made c plan S steps (m ∷ moves) q x = absurd (busy_read c plan S (state plan steps) m.reading x.0.todo q x.0.read x.0.acts)

quiet_acting : (c : Codecs) (plan : PostPlan) (S : ℕ → ℕ → Type 0) (steps : List Step) (moves : List Move) → IsQuiet plan (state plan steps) → Acting c plan S steps moves → moves ≡ []
quiet_acting c plan S steps [] q x = refl
quiet_acting c plan S steps (m ∷ moves) q x = absurd (busy_read c plan S (state plan steps) m.reading x.0.todo q x.0.read x.0.acts)

-- a post at rest is passed by
passed : (c : Codecs) (limit : ℕ) (before : List Post) (y : Post) (rest : List Post) (past : List Entry) (answered : List Post) (later : List Entry) → Rests y → Begun c limit before (y ∷ rest) past answered later → Begun c limit (before ++ y ∷ []) rest past answered later
passed c limit before y rest past answered later q (inl (moves, k, next)) =
    subst (λ (ms : List Move). Begun c limit (before ++ with_moves ms y ∷ []) rest (past_behind (length before + 1) ms past) answered later) (quiet_acting c y.plan (Shows limit before rest) y.steps moves q k) next
passed c limit before y rest past answered later q (inr (moves, k, e, f)) =
    let none = quiet_made c y.plan (Shows limit before rest) y.steps moves q k in
    let posts : answered ≡ before ++ (y ∷ rest) = e ∙ ap (λ (ms : List Move). before ++ (with_moves ms y ∷ rest)) none in
    let end : later ≡ past = f ∙ ap (λ (ms : List Move). past_behind (length before + 1) ms past) none in
    subst (λ (ps : List Post). Begun c limit (before ++ y ∷ []) rest past ps later) (one_more before y rest ∙ sym posts)
    (subst (λ (es : List Entry). Begun c limit (before ++ y ∷ []) rest past ((before ++ y ∷ []) ++ rest) es) (sym end) (starts c limit (before ++ y ∷ []) rest past))

-- an act of the first post that has something to do
act_begun : (c : Codecs) (limit : ℕ) (before xs : List Post) (p : Post) (behind : List Post) (r : Option Reading) (a : Act) (taken : Bool) (past : List Entry) (answered : List Post) (later : List Entry) → AreQuiet xs
    → Acts c p.plan (Shows limit (before ++ xs) behind) (state_of p) r a taken → Begun c limit before (xs ++ with_step (Does r a taken) p ∷ behind) (entry_of (length (before ++ xs) + 1) a taken ∷ past) answered later
    → Begun c limit before (xs ++ p ∷ behind) past answered later
act_begun c limit before [] p behind r a taken past answered later q x (inl (moves, k, rest)) =
    let none : before ++ [] ≡ before = append_nil before in
    inl (
      record { reading = r; act = a; taken = taken } ∷ moves,
      (subst (λ (ps : List Post). Acts c p.plan (Shows limit ps behind) (state_of p) r a taken) none x, k),
      subst (λ (ps : List Post). Begun c limit (before ++ with_moves moves (with_step (Does r a taken) p) ∷ []) behind (past_behind (length before + 1) moves (entry_of (length ps + 1) a taken ∷ past)) answered later) none rest,
    )
act_begun c limit before [] p behind r a taken past answered later q x (inr (moves, k, e, f)) =
    let none : before ++ [] ≡ before = append_nil before in
    inr (
      record { reading = r; act = a; taken = taken } ∷ moves,
      (subst (λ (ps : List Post). Acts c p.plan (Shows limit ps behind) (state_of p) r a taken) none x, k),
      e,
      subst (λ (ps : List Post). later ≡ past_behind (length before + 1) moves (entry_of (length ps + 1) a taken ∷ past)) none f,
    )
act_begun c limit before (y ∷ xs) p behind r a taken past answered later q x b =
    let same : (before ++ y ∷ []) ++ xs ≡ before ++ y ∷ xs = one_more before y xs in
    let next = passed c limit before y (xs ++ with_step (Does r a taken) p ∷ behind) (entry_of (length (before ++ y ∷ xs) + 1) a taken ∷ past) answered later q.0 b in
    inl (
      [],
      q.0,
      act_begun c limit (before ++ y ∷ []) xs p behind r a taken past answered later q.1
          (subst (λ (ps : List Post). Acts c p.plan (Shows limit ps behind) (state_of p) r a taken) (sym same) x)
          (subst (λ (ps : List Post). Begun c limit (before ++ y ∷ []) (xs ++ with_step (Does r a taken) p ∷ behind) (entry_of (length ps + 1) a taken ∷ past) answered later) (sym same) next),
    )

posts_begun : (c : Codecs) (limit : ℕ) (posts : List Post) (e : Entry) (later : List Post) (past : List Entry) (answered : List Post) (end : List Entry) → (m : MayAct c limit posts e later) → Begun c limit [] later (e ∷ past) answered end → Begun c limit [] posts past answered end
posts_begun c limit posts e later past answered end m x =
    let a : Begun c limit [] (m.before ++ with_step (Does m.reading m.act m.taken) m.post ∷ m.behind) (entry_of (length m.before + 1) m.act m.taken ∷ past) answered end =
    subst (λ (y : Entry). Begun c limit [] (m.before ++ with_step (Does m.reading m.act m.taken) m.post ∷ m.behind) (y ∷ past) answered end) m.entry_is
    (subst (λ (ps : List Post). Begun c limit [] ps (e ∷ past) answered end) m.later_is x) in
    subst (λ (ps : List Post). Begun c limit [] ps past answered end) (sym m.posts_are) (act_begun c limit [] m.before m.post m.behind m.reading m.act m.taken past answered end m.first m.acts a)

-- posts at rest have done nothing
begun_rests : (c : Codecs) (limit : ℕ) (before xs : List Post) (past : List Entry) (answered : List Post) (later : List Entry) → AreQuiet xs → Begun c limit before xs past answered later → (answered ≡ before ++ xs) × (later ≡ past)
begun_rests c limit before [] past answered later q x = (x.0 ∙ sym (append_nil before), x.1)
begun_rests c limit before (y ∷ xs) past answered later q x =
    let e = begun_rests c limit (before ++ y ∷ []) xs past answered later q.1 (passed c limit before y xs past answered later q.0 x) in
    (e.0 ∙ one_more before y xs, e.1)

-- in three parts, up to the one in which the post that acts last stops
heard_stops : (c : Codecs) (plan : PostPlan) (S : ℕ → ℕ → Type 0) (steps : List Step) (moves : List Move) → HasHeard steps → AreMade c plan S steps moves → Stops c plan S steps moves
heard_stops c plan S [] moves h x = absurd h
heard_stops c plan S (Hears at event ∷ steps) moves h x = to_stops c plan S (Hears at event ∷ steps) moves (hearing_fresh plan at event steps) x
heard_stops c plan S (Does reading act taken ∷ steps) moves h x = absurd h

begun_answers : (c : Codecs) (limit : ℕ) (before xs : List Post) (past : List Entry) (answered : List Post) (later : List Entry) → HaveHeard xs → Begun c limit before xs past answered later → AreBegun c limit before xs past answered later
begun_answers c limit before [] past answered later h x = x
begun_answers c limit before (p ∷ xs) past answered later h (inl (moves, k, rest)) =
    inl (moves, heard_to c p.plan (Shows limit before xs) p.steps moves h.0 k, begun_answers c limit (before ++ with_moves moves p ∷ []) xs (past_behind (length before + 1) moves past) answered later h.1 rest)
begun_answers c limit before (p ∷ xs) past answered later h (inr (moves, k, e, f)) = inr (moves, k, heard_stops c p.plan (Shows limit before xs) p.steps moves h.0 k, e, f)

answers_begun : (c : Codecs) (limit : ℕ) (before xs : List Post) (past : List Entry) (answered : List Post) (later : List Entry) → HaveHeard xs → AreBegun c limit before xs past answered later → Begun c limit before xs past answered later
answers_begun c limit before [] past answered later h x = x
answers_begun c limit before (p ∷ xs) past answered later h (inl (moves, k, rest)) =
    inl (moves, heard_back c p.plan (Shows limit before xs) p.steps moves h.0 k, answers_begun c limit (before ++ with_moves moves p ∷ []) xs (past_behind (length before + 1) moves past) answered later h.1 rest)
answers_begun c limit before (p ∷ xs) past answered later h (inr (moves, k, stops, e, f)) = inr (moves, k, e, f)

cut_heard : (c : Codecs) (site : SitePlan) (past : List Entry) (before : List Post) (e : Entry) (posts answered : List Post) (later : List Entry) → InBlocks c site past before → is_last past ≡ false → hearings past < site.turns → AreQuiet before → HeardBy past before e posts
    → Begun c site.limit [] posts (e ∷ past) answered later → StopInBlocks c site later answered
cut_heard c site past before (entry.Heard h bytes) posts answered later b l t q x turn = inr (record {
  at = h;
  bytes = bytes;
  heard = b.heard;
  earlier = past;
  before = before;
  are = b.are;
  goes_on = l;
  turns_left = t;
  hearing = posts;
  heard_by = x;
  begun = begun_answers c site.limit [] posts (entry.Heard h bytes ∷ past) answered later (heard_by past before h bytes posts x) turn;
})
cut_heard c site past before entry.Lost posts answered later b l t q x turn =
    let r = begun_rests c site.limit [] posts (entry.Lost ∷ past) answered later (subst AreQuiet (sym x) q) turn in
    inl (entry.Lost ∷ b.heard, (past, before, b.are, l, t, (r.0 ∙ x, r.1)))
cut_heard c site past before (entry.Sent post bytes taken) posts answered later b l t q x turn = absurd x
cut_heard c site past before (entry.Answered post bytes taken) posts answered later b l t q x turn = absurd x
cut_heard c site past before (entry.Drove post order taken) posts answered later b l t q x turn = absurd x
cut_heard c site past before (entry.Dialed port taken) posts answered later b l t q x turn = absurd x
cut_heard c site past before (entry.Ended post cause) posts answered later b l t q x turn = absurd x

cut_by : (c : Codecs) (site : SitePlan) (past : List Entry) (posts answered : List Post) (later : List Entry) → IsRun c site past posts → Begun c site.limit [] posts past answered later → StopInBlocks c site later answered
cut_by c site [] posts answered later run turn =
    let r = begun_rests c site.limit [] posts [] answered later (subst AreQuiet (sym run) (fresh_quiet site.post.items)) turn in
    inl ([], (r.1, r.0 ∙ run))
cut_by c site (e ∷ past) posts answered later (before, run, inl h) turn =
    cut_heard c site past before e posts answered later (to_blocks c site past before run h.whole) h.goes_on h.turns_left h.whole h.heard turn
cut_by c site (e ∷ past) posts answered later (before, run, inr m) turn = cut_by c site past before answered later run (posts_begun c site.limit before e posts past answered later m turn)

to_cut : (c : Codecs) (site : SitePlan) (past : List Entry) (posts : List Post) → IsRun c site past posts → StopInBlocks c site past posts
to_cut c site past posts run = cut_by c site past posts posts past run (starts c site.limit [] posts past)

-- and back
made_run : (c : Codecs) (site : SitePlan) (before : List Post) (p : Post) (behind : List Post) (moves : List Move) (past : List Entry) → AreQuiet before → IsRun c site past (before ++ p ∷ behind) → AreMade c p.plan (Shows site.limit before behind) p.steps moves
    → IsRun c site (past_behind (length before + 1) moves past) (before ++ with_moves moves p ∷ behind)
made_run c site before p behind [] past q run x = run
made_run c site before p behind (m ∷ moves) past q run x =
    made_run c site before (with_step (Does m.reading m.act m.taken) p) behind moves (entry_of (length before + 1) m.act m.taken ∷ past) q (run_more c site before p behind m past q run x.0) x.1

begun_run : (c : Codecs) (site : SitePlan) (before xs : List Post) (past : List Entry) (answered : List Post) (later : List Entry) → AreQuiet before → IsRun c site past (before ++ xs) → Begun c site.limit before xs past answered later → IsRun c site later answered
begun_run c site before [] past answered later q run x =
    subst (λ (es : List Entry). IsRun c site es answered) (sym x.1) (subst (λ (ps : List Post). IsRun c site past ps) (append_nil before ∙ sym x.0) run)
begun_run c site before (p ∷ xs) past answered later q run (inl (moves, k, rest)) =
    let y = moves_run c site before p xs moves past q run k in
    begun_run c site (before ++ with_moves moves p ∷ []) xs (past_behind (length before + 1) moves past) answered later (quiet_more before (with_moves moves p) q y.1)
    (subst (λ (ps : List Post). IsRun c site (past_behind (length before + 1) moves past) ps) (sym (one_more before (with_moves moves p) xs)) y.0) rest
begun_run c site before (p ∷ xs) past answered later q run (inr (moves, k, e, f)) =
    subst (λ (es : List Entry). IsRun c site es answered) (sym f)
    (subst (λ (ps : List Post). IsRun c site (past_behind (length before + 1) moves past) ps) (sym e) (made_run c site before p xs moves past q run k))

from_cut : (c : Codecs) (site : SitePlan) (past : List Entry) (posts : List Post) → IsLastBlock c site past posts → IsRun c site past posts
from_cut c site past posts b =
    let r = runs_by c site b.heard b.earlier b.before b.are in
    begun_run c site [] b.hearing (entry.Heard b.at b.bytes ∷ b.earlier) posts past tt
    (b.before, r.run, inl (record { whole = r.quiet; goes_on = b.goes_on; turns_left = b.turns_left; heard = b.heard_by }))
    (answers_begun c site.limit [] b.hearing (entry.Heard b.at b.bytes ∷ b.earlier) posts past (heard_by b.earlier b.before b.at b.bytes b.hearing b.heard_by) b.begun)

from_stop : (c : Codecs) (site : SitePlan) (past : List Entry) (posts : List Post) → StopInBlocks c site past posts → IsRun c site past posts
from_stop c site past posts (inl b) = (runs_by c site b.0 past posts b.1).run
from_stop c site past posts (inr b) = from_cut c site past posts b

pub runs_are_blocks : (c : Codecs) → RunsAreBlocks c
runs_are_blocks c = record {
  pasts = λ site past posts. record {
    to_blocks = λ run q. let b = to_blocks c site past posts run q in (b.heard, b.are);
    to_run = λ heard are. let r = runs_by c site heard past posts are in (r.run, r.quiet);
  };
  cut = λ site past posts. record { to_blocks = λ run. to_cut c site past posts run; to_run = λ b. from_stop c site past posts b };
  whole_to_blocks = λ site past w.
      let b = to_blocks c site w.blocks w.posts w.run w.whole in
      record { blocks = w.blocks; posts = w.posts; heard = b.heard; are = b.are; ended = w.ended; closes = w.closes };
  whole_to_run = λ site past w.
      let r = runs_by c site w.heard w.blocks w.posts w.are in
      record { blocks = w.blocks; posts = w.posts; run = r.run; whole = r.quiet; ended = w.ended; closes = w.closes };
  cut_to_blocks = λ site past w. record { blocks = w.blocks; posts = w.posts; stop = to_cut c site w.blocks w.posts w.run; closes = w.closes };
  cut_to_run = λ site past w. record { blocks = w.blocks; posts = w.posts; run = from_stop c site w.blocks w.posts w.stop; closes = w.closes };
}
