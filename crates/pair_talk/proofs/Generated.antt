-- The sessions of a generated list, one after another, and what is counted of them.
use Rattle.std.proofs.Common.{◌≡◌, ◌<◌, ◌≤◌, ℕ, suc, ◌+◌, ◌*◌, ◌^◌, false, List, [], ◌∷◌, ◌++◌, Option, refl, sym, ap, subst, ◌∙◌, inl, arith, add-one}
use Rattle.charge_world.specs.declared.offer.Dialect.{Dialect}
use Rattle.session_words.specs.declared.plan.CarPlan.{CarPlan}
use Rattle.session_words.specs.declared.plan.SitePlan.{SitePlan}
use Rattle.session_words.specs.declared.word.Word.{Word}
use Rattle.site_plan.specs.Plans.{IsFixedSite}
use Rattle.post_spec.specs.Codecs.{Codecs}
use Rattle.site_posts.specs.Places.{capped}
use Rattle.car_spec.specs.Codecs as car
use Rattle.pair_plans.specs.Drawn.{IsDrawnCar}
use Rattle.pair_plans.specs.Generated.{AreSessions, IsNextSession}
use Rattle.pipe_spec.specs.Counts.{Counts, counts}
use Rattle.pipe_spec.specs.Histories.{Happening, CarComes, NumberIsDrawn, joined, ported}
use Rattle.pipe_spec.specs.Numbers.{behind}
use Rattle.pipe_spec.specs.Runs.{IsRun}
use Rattle.pipe_spec.specs.Turns.{Station, BothRest}
use Rattle.pair_talk.specs.Beginning.{IsNew, Awaits}
use Rattle.pair_talk.specs.Ending.{Ends}
use Rattle.pair_talk.specs.Generating.{AreHeld, AreCounts}
use Rattle.pair_talk.specs.Keeping.{AreSound}
use Rattle.pair_talk.specs.Parting.{all_hearings, IsOver, HasParted}
use Rattle.pair_talk.specs.Sides.{Sides, with_plan}
use Rattle.pair_talk.proofs.Bounds.{moments_are_early, session_heard, counts_are_exact}
use Rattle.pair_talk.proofs.Partings.{draw_rests, both_drawn}
use Rattle.pair_talk.proofs.Sessions.{awaits_first}

-- ---- a session that is over

few_turns : (turns n : ℕ) → n ≡ turns → n ≤ 4294967296 → turns ≤ 4294967296
few_turns turns n e l = omega (arith, e, l)

pub over_by : (c : Codecs) (cs : car.Codecs) (st : Station) (plan : CarPlan) (before : List Happening) (s : Sides) → (e : Ends c cs st plan before s) → IsOver c cs st plan e.history s
over_by c cs st plan before s e = record { at = e.at; rest = e.session.rest; over = e.session.over }

-- its hearings
pub ends_few : (c : Codecs) (cs : car.Codecs) (st : Station) (plan : CarPlan) (before : List Happening) (s : Sides) → 1 ≤ st.turns → s.turns ≤ 4294967296 → (e : Ends c cs st plan before s)
    → all_hearings e.history ≤ 4294967296 + all_hearings before
ends_few c cs st plan before s some few e =
    let x = e.session in
    let k = x.session ++ CarComes plan ∷ before in
    let run : IsRun c cs st k = subst (IsRun c cs st) x.h_is x.run in
    let h = session_heard c cs st plan before x.session some x.within run in
    let all = h.all in
    let within = h.within in
    let turns = few_turns st.turns s.turns e.at.turns_is few in
    let here : all_hearings k ≤ 4294967296 + all_hearings before = omega (arith, all, within, turns) in
    subst (λ (y : List Happening). all_hearings y ≤ 4294967296 + all_hearings before) (sym x.h_is) here

-- ---- the first one

new_rests : (st : Station) → BothRest st []
new_rests st = record { station_rests = record { none = refl; no_word = refl }; car_rests = tt }

pub first_awaits : (c : Codecs) (cs : car.Codecs) (site : SitePlan) (old plan : CarPlan) (seed : ℕ) (s new : Sides) → IsNew site old seed s
    → new ≡ with_plan (ported (joined plan)) (record s { number = behind s.number 2 })
    → Awaits c cs (record { limit = site.limit; turns = site.turns; post = s.post.plan; seed = seed }) plan (NumberIsDrawn ∷ NumberIsDrawn ∷ []) new
first_awaits c cs site old plan seed s new n e =
    let st : Station = record { limit = site.limit; turns = site.turns; post = s.post.plan; seed = seed } in
    let k = awaits_first c cs site old seed s n in
    let p = k.post in
    let t = p.tally in
    subst (Awaits c cs st plan (NumberIsDrawn ∷ NumberIsDrawn ∷ [])) (sym e) (record {
      run = ((tt, new_rests st), draw_rests st [] (new_rests st));
      short = (tt, (tt, tt));
      may = inl refl;
      post = record { plan_is = p.plan_is; post_is = p.post_is; limit_is = p.limit_is; charger_is = p.charger_is; tally = record { hearings = t.hearings; cause = t.cause; replies = t.replies; bytes = t.bytes; closed = t.closed; opened = t.opened } };
      plan_is = refl;
      moment_is = n.moment_is;
      number_is = ap (λ (x : ℕ). behind x 2) n.number_is;
      turns_is = n.turns_are;
    })

pub first_are_held : (c : Codecs) (cs : car.Codecs) (site : SitePlan) (old plan : CarPlan) (seed : ℕ) (s new : Sides) → IsFixedSite false site → 1 ≤ site.turns → IsNew site old seed s → IsDrawnCar s.number plan → new.turns ≤ 4294967296
    → Ends c cs (record { limit = site.limit; turns = site.turns; post = s.post.plan; seed = seed }) plan (NumberIsDrawn ∷ NumberIsDrawn ∷ []) new → AreHeld c cs seed 1 new
first_are_held c cs site old plan seed s new fixed some n drawn turns e =
    let st : Station = record { limit = site.limit; turns = site.turns; post = s.post.plan; seed = seed } in
    let few = ends_few c cs st plan (NumberIsDrawn ∷ NumberIsDrawn ∷ []) new some turns e in
    let is_next : IsNextSession c cs st [] e.history = record {
      plan = plan;
      drawn = subst (λ (x : ℕ). IsDrawnCar x plan) n.number_is drawn;
      gone = [];
      between = tt;
      session = e.session;
    } in
    record {
      site = site;
      site_is = fixed;
      station = st;
      station_is = record { others = n.others; first = n.first; limit = refl; turns = refl; seed_is = refl };
      history = e.history;
      sessions = ([], refl, is_next);
      plan = plan;
      over = over_by c cs st plan (NumberIsDrawn ∷ NumberIsDrawn ∷ []) new e;
      some = some;
      few = omega (arith, few);
    }

-- ---- one more

pub draw_sound : (Reads : Dialect → List ℕ → Option Word → Type 0) (s : Sides) (n : ℕ) → AreSound Reads s → AreSound Reads (record s { number = n })
draw_sound Reads s n k = record { ready = k.ready; rules = k.rules; sound = k.sound; turns = k.turns }

pub draw_over : (c : Codecs) (cs : car.Codecs) (st : Station) (plan : CarPlan) (h : List Happening) (s : Sides) (n : ℕ) → n ≡ behind s.number 2 → IsOver c cs st plan h s
    → IsOver c cs st plan (NumberIsDrawn ∷ NumberIsDrawn ∷ h) (record s { number = n })
draw_over c cs st plan h s n e k = subst (λ (m : ℕ). IsOver c cs st plan (NumberIsDrawn ∷ NumberIsDrawn ∷ h) (record s { number = m })) (sym e) (both_drawn c cs st plan h s k)

one_more_few : (n m k count : ℕ) → n ≤ 4294967297 * count → m ≤ suc n → k ≤ 4294967296 + m → k ≤ 4294967297 * (count + 1)
one_more_few n m k count a b d = omega (arith, a, b, d)

pub next_are_held : (c : Codecs) (cs : car.Codecs) (plan : CarPlan) (seed count : ℕ) (s new : Sides) → IsDrawnCar s.number plan → new.turns ≤ 4294967296 → (k : AreHeld c cs seed count s) → (old : CarPlan) → (mid : Sides)
    → (p : HasParted c cs k.station old (NumberIsDrawn ∷ NumberIsDrawn ∷ k.history) mid) → Ends c cs k.station plan (p.gone ++ NumberIsDrawn ∷ NumberIsDrawn ∷ k.history) new → AreHeld c cs seed (count + 1) new
next_are_held c cs plan seed count s new drawn turns k old mid p e =
    let before = p.gone ++ NumberIsDrawn ∷ NumberIsDrawn ∷ k.history in
    let is_next : IsNextSession c cs k.station k.history e.history = record {
      plan = plan;
      drawn = subst (λ (x : ℕ). IsDrawnCar x plan) k.over.at.number_is drawn;
      gone = p.gone;
      between = p.between;
      session = e.session;
    } in
    let more : AreSessions c cs k.station (suc count) e.history = (k.history, k.sessions, is_next) in
    record {
      site = k.site;
      site_is = k.site_is;
      station = k.station;
      station_is = k.station_is;
      history = e.history;
      sessions = subst (λ (n : ℕ). AreSessions c cs k.station n e.history) (sym (add-one count)) more;
      plan = plan;
      over = over_by c cs k.station plan before new e;
      some = k.some;
      few = one_more_few (all_hearings k.history) (all_hearings before) (all_hearings e.history) count k.few p.few (ends_few c cs k.station plan before new k.some turns e);
    }

-- the clock is early
pub held_early : (c : Codecs) (cs : car.Codecs) (seed count : ℕ) (s : Sides) → count ≤ 1000 → AreHeld c cs seed count s → s.moment ≤ 2 ^ 62
held_early c cs seed count s most k =
    let m = moments_are_early k.history in
    let e = k.over.at.moment_is in
    let few = k.few in
    omega (arith, m, e, few, most)

-- ---- what is counted

exact : (n m : ℕ) → m ≡ capped n → n < 2 ^ 64 → m ≡ n
exact n m e l = omega (arith, e, l)

few_in_all : (n count : ℕ) → count ≤ 1000 → n ≤ 4294967297 * count → n ≤ 4294967297000
few_in_all n count most few = omega (arith, most, few)

pub held_counts : (c : Codecs) (cs : car.Codecs) (seed count : ℕ) (s : Sides) (result : Counts) → count ≤ 1000 → result.replies ≡ s.post.tally.replies → result.bytes ≡ s.post.tally.bytes → result.closed ≡ s.post.tally.closed
    → result.opened ≡ s.post.tally.opened → AreHeld c cs seed count s → AreCounts c cs seed count result
held_counts c cs seed count s result most replies bytes closed opened k =
    let at = k.over.at in
    let t = at.post.tally in
    let x = counts_are_exact c cs k.station k.history at.run at.short (few_in_all (all_hearings k.history) count most k.few) in
    let r = replies ∙ exact (counts k.history).replies s.post.tally.replies t.replies x.replies in
    let b = bytes ∙ exact (counts k.history).bytes s.post.tally.bytes t.bytes x.bytes in
    let d = closed ∙ exact (counts k.history).closed s.post.tally.closed t.closed x.closed in
    let o = opened ∙ exact (counts k.history).opened s.post.tally.opened t.opened x.opened in
    record {
      history = k.history;
      generated = record { site = k.site; site_is = k.site_is; station = k.station; station_is = k.station_is; sessions = k.sessions };
      result_is = λ i. record { replies = r i; bytes = b i; closed = d i; opened = o i };
    }
