-- One session after another is determined, and so all of them.
use Rattle.std.proofs.Common.{◌≡◌, ℕ, zero, suc, false, List, [], ◌∷◌, ◌++◌, ap, sym, subst, ◌∙◌}
use Rattle.session_words.specs.declared.plan.CarPlan.{CarPlan}
use Rattle.session_words.specs.declared.plan.PostPlan.{PostPlan}
use Rattle.site_plan.specs.Plans.{IsFixedSite}
use Rattle.post_spec.specs.Codecs.{Codecs}
use Rattle.post_spec.specs.Spelled.{AreDetermined}
use Rattle.car_spec.specs.Codecs as car
use Rattle.car_spec.specs.Spelled as car_spelled
use Rattle.pipe_spec.specs.Numbers.{behind}
use Rattle.pipe_spec.specs.Histories.{Happening, CarComes, NumberIsDrawn, draws}
use Rattle.pipe_spec.specs.Turns.{Station, BothRest, StationRests, MayCome}
use Rattle.pipe_spec.specs.Runs.{IsStation, IsRun, IsSession}
use Rattle.pair_plans.specs.Drawn.{drawn_cycles, drawn_voltage, IsDrawnCar}
use Rattle.pair_plans.specs.Generated.{IsNextSession, AreSessions, IsGenerated}
use Rattle.generated_runs.specs.Determined.{GeneratedRunsAreDetermined}
use Rattle.pipe_laws.proofs.Sessions.{behind_follows, sessions_are_determined}
use Rattle.generated_runs.proofs.Plans.{fixed_cars_are_one, fixed_posts_are_one}
use Rattle.generated_runs.proofs.Between.{between_once}

drawn_once : (x : ℕ) (a b : CarPlan) → IsDrawnCar x a → IsDrawnCar x b → a ≡ b
drawn_once x a b p q =
    p.plan_is ∙ ap (λ (u : CarPlan). record u { cycles = drawn_cycles x; target_voltage = drawn_voltage x }) (fixed_cars_are_one false p.usual q.usual p.usual_is q.usual_is) ∙ sym q.plan_is

-- a session behind what happened before it is a run of the pipe up to where its car comes
record Came (c : Codecs) (cs : car.Codecs) (st : Station) (before : List Happening) : Type 0 where
  run : IsRun c cs st before
  may : MayCome st before

came_by : (c : Codecs) (cs : car.Codecs) (st : Station) (session before : List Happening) (plan : CarPlan) → IsRun c cs st (session ++ CarComes plan ∷ before) → Came c cs st before
came_by c cs st [] before plan r = record { run = r.0; may = r.1 }
came_by c cs st (e ∷ session) before plan r = came_by c cs st session before plan r.0

came : (c : Codecs) (cs : car.Codecs) (st : Station) (before h : List Happening) (plan : CarPlan) → IsSession c cs st before plan h → Came c cs st before
came c cs st before h plan s = came_by c cs st s.session before plan (subst (IsRun c cs st) s.h_is s.run)

-- where the numbers are drawn the station rests
rests : (c : Codecs) (cs : car.Codecs) (st : Station) (gone earlier : List Happening) → IsRun c cs st (gone ++ NumberIsDrawn ∷ NumberIsDrawn ∷ earlier) → StationRests st (NumberIsDrawn ∷ NumberIsDrawn ∷ earlier)
rests c cs st gone earlier r =
    let both : BothRest st (NumberIsDrawn ∷ earlier) = behind_follows c cs st gone (NumberIsDrawn ∷ earlier) NumberIsDrawn r in both.station_rests

next_once : (c : Codecs) (cs : car.Codecs) → AreDetermined c → car_spelled.AreDetermined cs → (st : Station) (earlier h k : List Happening) → IsNextSession c cs st earlier h
    → IsNextSession c cs st earlier k → h ≡ k
next_once c cs one other st earlier h k x y =
    let plans : x.plan ≡ y.plan = drawn_once (behind st.seed (draws earlier)) x.plan y.plan x.drawn y.drawn in
    let p : Came c cs st (x.gone ++ NumberIsDrawn ∷ NumberIsDrawn ∷ earlier) = came c cs st (x.gone ++ NumberIsDrawn ∷ NumberIsDrawn ∷ earlier) h x.plan x.session in
    let q : Came c cs st (y.gone ++ NumberIsDrawn ∷ NumberIsDrawn ∷ earlier) = came c cs st (y.gone ++ NumberIsDrawn ∷ NumberIsDrawn ∷ earlier) k y.plan y.session in
    let same : x.gone ++ NumberIsDrawn ∷ NumberIsDrawn ∷ earlier ≡ y.gone ++ NumberIsDrawn ∷ NumberIsDrawn ∷ earlier =
    between_once c cs one st (NumberIsDrawn ∷ NumberIsDrawn ∷ earlier) (rests c cs st x.gone earlier p.run) x.gone y.gone x.between y.between p.run q.run p.may q.may in
    let s : IsSession c cs st (y.gone ++ NumberIsDrawn ∷ NumberIsDrawn ∷ earlier) x.plan h = subst (λ (b : List Happening). IsSession c cs st b x.plan h) same x.session in
    let t : IsSession c cs st (y.gone ++ NumberIsDrawn ∷ NumberIsDrawn ∷ earlier) y.plan h = subst (λ (z : CarPlan). IsSession c cs st (y.gone ++ NumberIsDrawn ∷ NumberIsDrawn ∷ earlier) z h) plans s in
    sessions_are_determined c cs one other st (y.gone ++ NumberIsDrawn ∷ NumberIsDrawn ∷ earlier) y.plan h k t y.session

sessions_once : (c : Codecs) (cs : car.Codecs) → AreDetermined c → car_spelled.AreDetermined cs → (st : Station) (count : ℕ) (h k : List Happening) → AreSessions c cs st count h
    → AreSessions c cs st count k → h ≡ k
sessions_once c cs one other st zero h k x y = x ∙ sym y
sessions_once c cs one other st (suc count) h k x y =
    let same : x.0 ≡ y.0 = sessions_once c cs one other st count x.0 y.0 x.1 y.1 in
    next_once c cs one other st y.0 h k (subst (λ (z : List Happening). IsNextSession c cs st z h) same x.2) y.2

-- ---- the station without a file

first_of : (a b : PostPlan) (xs ys : List PostPlan) → a ∷ xs ≡ b ∷ ys → a ≡ b
first_of a b xs ys e = cc

stations_are_one : (c : Codecs) (cs : car.Codecs) (seed count : ℕ) (h k : List Happening) (x : IsGenerated c cs seed count h) (y : IsGenerated c cs seed count k) → x.station ≡ y.station
stations_are_one c cs seed count h k x y =
    let i : IsFixedSite false x.site = x.site_is in
    let j : IsFixedSite false y.site = y.site_is in
    let a : IsStation x.site seed x.station = x.station_is in
    let b : IsStation y.site seed y.station = y.station_is in
    let l = i.limits in
    let m = j.limits in
    let s = x.station in
    let t = y.station in
    let p : s.post ≡ i.post = first_of s.post i.post a.others [] (sym a.first ∙ i.alone) in
    let q : t.post ≡ j.post = first_of t.post j.post b.others [] (sym b.first ∙ j.alone) in
    let post : s.post ≡ t.post = p ∙ fixed_posts_are_one false i.post j.post i.keys j.keys ∙ sym q in
    let limit : s.limit ≡ t.limit = a.limit ∙ l.0 ∙ sym m.0 ∙ sym b.limit in
    let turns : s.turns ≡ t.turns = a.turns ∙ l.1.0 ∙ sym m.1.0 ∙ sym b.turns in
    ap (λ (n : ℕ). record s { limit = n }) limit
    ∙ ap (λ (n : ℕ). record s { limit = t.limit; turns = n }) turns
    ∙ ap (λ (z : PostPlan). record s { limit = t.limit; turns = t.turns; post = z }) post
    ∙ ap (λ (n : ℕ). record t { seed = n }) (a.seed_is ∙ sym b.seed_is)

pub generated_runs_are_determined : (c : Codecs) (cs : car.Codecs) → GeneratedRunsAreDetermined c cs
generated_runs_are_determined c cs one other seed count h k x y =
    let same : x.station ≡ y.station = stations_are_one c cs seed count h k x y in
    sessions_once c cs one other y.station count h k (subst (λ (s : Station). AreSessions c cs s count h) same x.sessions) y.sessions
