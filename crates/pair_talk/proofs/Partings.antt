-- A session that is over, the draws behind it, and the connection that goes.
use Rattle.std.proofs.Common.{◌≡◌, ◌≤◌, ℕ, suc, nat_le, Bool, true, false, ◌&&◌, ◌||◌, List, [], ◌∷◌, ◌++◌, Option, Some, None, is_some, refl, sym, ap, subst, ◌∙◌, inr, arith}
use Rattle.std.proofs.lemmas.Grind.{common_steps}
use Rattle.std.specs.List.{AllByRecursion}
use Rattle.charge_world.specs.declared.offer.Dialect.{Dialect}
use Rattle.session_words.specs.declared.plan.CarPlan.{CarPlan}
use Rattle.session_words.specs.declared.word.Word.{Word}
use Rattle.site_posts.proofs.Sound as post_sound
use Rattle.post_spec.specs.Codecs.{Codecs}
use Rattle.post_spec.specs.Steps.{Gone}
use Rattle.car_spec.specs.Codecs as car
use Rattle.car_spec.specs.Acting.{state}
use Rattle.car_spec.specs.Next.{IsQuiet}
use Rattle.car_spec.specs.Steps.{Step}
use Rattle.pair_plans.specs.Generated.{IsBetween}
use Rattle.pipe_spec.specs.Histories.{Happening, StationDoes, CarGoes, NumberIsDrawn, joined, ported, moment, car_plan, car_steps, car_cause, car_hearings, car_has_ended, station_hearings, station_has_ended}
use Rattle.pipe_spec.specs.Numbers.{next, behind}
use Rattle.pipe_spec.specs.Turns.{Station, BothRest, CarRestsBy, car_is_spent, is_over, MayFollow, nothing_under_way}
use Rattle.pair_talk.specs.Acting.{IsOfStation, HasAnswered}
use Rattle.pair_talk.specs.Beginning.{Awaits}
use Rattle.pair_talk.specs.Keeping.{AreSound, IsAt, PostIsQuiet}
use Rattle.pair_talk.specs.Parting.{all_hearings, IsOver, HasParted}
use Rattle.pair_talk.specs.Sides.{Sides, gone, with_plan}
use Rattle.pair_talk.proofs.Acts.{post_rests}
use Rattle.pair_talk.proofs.Goings.{gone_ends}
use Rattle.pair_talk.proofs.Turns.{heard_post, same_car}

-- ---- a number is drawn

rests_same : (o : Option CarPlan) (h k : List Happening) → car_steps k ≡ car_steps h → CarRestsBy o h → CarRestsBy o k
rests_same None h k e r = tt
rests_same (Some plan) h k e r = subst (λ (steps : List Step). IsQuiet plan (state plan steps)) (sym e) r

pub draw_rests : (st : Station) (h : List Happening) → BothRest st h → BothRest st (NumberIsDrawn ∷ h)
draw_rests st h r = record { station_rests = r.station_rests; car_rests = rests_same (car_plan h) h (NumberIsDrawn ∷ h) refl r.car_rests }

spent_so : (o : Option CarPlan) (h k : List Happening) → car_hearings k ≡ car_hearings h → car_is_spent o k ≡ car_is_spent o h
spent_so None h k e = refl
spent_so (Some plan) h k e = ap (nat_le plan.turns) e

abbrev over_if : Bool → Bool → Bool → Bool → Bool → Bool
over_if a b t u n = (a && b) || t || u || ((a || b) && n)

draw_is_over : (st : Station) (h : List Happening) → is_over st (NumberIsDrawn ∷ h) ≡ is_over st h
draw_is_over st h =
    let u = spent_so (car_plan h) h (NumberIsDrawn ∷ h) refl in
    λ i. over_if (station_has_ended h) (car_has_ended h) (nat_le st.turns (station_hearings h)) (u i) (nothing_under_way h)

drawn_over : (c : Codecs) (cs : car.Codecs) (st : Station) (plan : CarPlan) (h : List Happening) (s : Sides) → IsOver c cs st plan h s → IsOver c cs st plan (NumberIsDrawn ∷ h) (record s { number = next s.number })
drawn_over c cs st plan h s k =
    let e = NumberIsDrawn ∷ h in
    let at = k.at in
    record {
      at = record {
        run = (at.run, k.rest);
        short = (tt, at.short);
        came = at.came;
        post = record { plan_is = at.post.plan_is; post_is = at.post.post_is; limit_is = at.post.limit_is; charger_is = at.post.charger_is; tally = record { hearings = at.post.tally.hearings; cause = at.post.tally.cause; replies = at.post.tally.replies; bytes = at.post.tally.bytes; closed = at.post.tally.closed; opened = at.post.tally.opened } };
        car = same_car plan h e s.car refl refl refl refl at.car;
        to_station_is = at.to_station_is;
        to_car_is = at.to_car_is;
        moment_is = at.moment_is;
        number_is = ap next at.number_is;
        turns_is = at.turns_is;
      };
      rest = draw_rests st h k.rest;
      over = draw_is_over st h ∙ k.over;
    }

-- both numbers of a car are drawn
pub both_drawn : (c : Codecs) (cs : car.Codecs) (st : Station) (plan : CarPlan) (h : List Happening) (s : Sides) → IsOver c cs st plan h s → IsOver c cs st plan (NumberIsDrawn ∷ NumberIsDrawn ∷ h) (record s { number = behind s.number 2 })
both_drawn c cs st plan h s k = drawn_over c cs st plan (NumberIsDrawn ∷ h) (record s { number = next s.number }) (drawn_over c cs st plan h s k)

-- ---- the connection goes

pub gone_at : (c : Codecs) (cs : car.Codecs) (st : Station) (plan : CarPlan) (h : List Happening) (s : Sides) → IsOver c cs st plan h s → station_has_ended h ≡ false → IsAt c cs st plan (CarGoes ∷ h) (gone s)
gone_at c cs st plan h s k stands =
    let e = CarGoes ∷ h in
    let at = k.at in
    record {
      run = (at.run, record { plan = joined plan; came = at.came; rest = k.rest; over = k.over; stands = stands });
      short = (tt, at.short);
      came = at.came;
      post = heard_post st h e s.post s.post.charger s.moment (moment h) Gone at.moment_is refl at.post.charger_is (record { hearings = refl; cause = refl; counts_are = refl }) at.post;
      car = same_car plan h e s.car refl refl refl refl at.car;
      to_station_is = at.to_station_is;
      to_car_is = at.to_car_is;
      moment_is = at.moment_is;
      number_is = at.number_is;
      turns_is = at.turns_is;
    }

pub gone_sound : (Reads : Dialect → List ℕ → Option Word → Type 0) (s new : Sides) → PostIsQuiet s → new ≡ gone s → AreSound Reads s → AreSound Reads new
gone_sound Reads s new q e h =
    subst (AreSound Reads) (sym e) (record { ready = (h.ready.0, post_sound.heard_sound Reads s.post.plan s.post.post s.moment Gone tt q h.ready.1); rules = h.rules; sound = h.sound; turns = h.turns })

-- whether the station has ended is what is counted of it
pub has_not_ended : (c : Codecs) (cs : car.Codecs) (st : Station) (plan : CarPlan) (h : List Happening) (s : Sides) → IsOver c cs st plan h s → is_some s.post.tally.cause ≡ false → station_has_ended h ≡ false
has_not_ended c cs st plan h s k e = ap (λ (o : Option ℕ). is_some o) (sym k.at.post.tally.cause) ∙ e

pub has_ended : (c : Codecs) (cs : car.Codecs) (st : Station) (plan : CarPlan) (h : List Happening) (s : Sides) → IsOver c cs st plan h s → is_some s.post.tally.cause ≡ true → station_has_ended h ≡ true
has_ended c cs st plan h s k e = ap (λ (o : Option ℕ). is_some o) (sym k.at.post.tally.cause) ∙ e

-- behind it, what is of the car stays
record IsLeft (h k : List Happening) : Type 0 where
  pub plan : car_plan k ≡ car_plan h
  pub cause : car_cause k ≡ car_cause h
  pub steps : car_steps k ≡ car_steps h
  pub car_heard : car_hearings k ≡ car_hearings h
  pub heard : station_hearings k ≡ suc (station_hearings h)
  pub all : all_hearings k ≡ suc (all_hearings h)

left : (h acts : List Happening) → AllByRecursion IsOfStation acts → IsLeft h (acts ++ CarGoes ∷ h)
left h [] a = record { plan = refl; cause = refl; steps = refl; car_heard = refl; heard = refl; all = refl }
left h (StationDoes reading act ∷ acts) a =
    let l = left h acts a.1 in
    record { plan = l.plan; cause = l.cause; steps = l.steps; car_heard = l.car_heard; heard = l.heard; all = l.all }
left h (other ∷ acts) a = absurd (let f : false ≡ true = a.0 in cc)

all_between : (acts : List Happening) → AllByRecursion IsOfStation acts → AllByRecursion IsBetween (acts ++ CarGoes ∷ [])
all_between [] a = (refl, tt)
all_between (StationDoes reading act ∷ acts) a = (refl, all_between acts a.1)
all_between (other ∷ acts) a = absurd (let f : false ≡ true = a.0 in cc)

joins : (acts h : List Happening) → (acts ++ CarGoes ∷ []) ++ h ≡ acts ++ CarGoes ∷ h
joins [] h = refl
joins (e ∷ acts) h = ap (λ (k : List Happening). e ∷ k) (joins acts h)

-- a session that is over stays so, as the station's ends
over_later : (b t u n v m : Bool) → ((false && b) || t || u || ((false || b) && n)) ≡ true → (t ≡ true → v ≡ true) → ((true && b) || v || u || ((true || b) && m)) ≡ true
over_later true t u n v m e f = refl
over_later false true u n v m e f = rw (f refl) refl
over_later false false true n true m e f = refl
over_later false false true n false m e f = refl
over_later false false false n v m e f = absurd (let g : false ≡ true = e in cc)

turns_used : (turns n m : ℕ) → m ≡ suc n → nat_le turns n ≡ true → nat_le turns m ≡ true
turns_used turns n m e l = grind (arith, common_steps)

spent_same : (o p : Option CarPlan) (h k : List Happening) → p ≡ o → car_hearings k ≡ car_hearings h → car_is_spent p k ≡ car_is_spent o h
spent_same o p h k e f = subst (λ (x : Option CarPlan). car_is_spent x k ≡ car_is_spent o h) (sym e) (spent_so o h k f)

still_over : (st : Station) (h k : List Happening) → station_has_ended h ≡ false → station_has_ended k ≡ true → IsLeft h k → is_over st h ≡ true → is_over st k ≡ true
still_over st h k stands ended l over =
    let b = ap (λ (o : Option ℕ). is_some o) l.cause in
    let u = spent_same (car_plan h) (car_plan k) h k l.plan l.car_heard in
    let before : over_if false (car_has_ended h) (nat_le st.turns (station_hearings h)) (car_is_spent (car_plan h) h) (nothing_under_way h) ≡ true =
    ap (λ (x : Bool). over_if x (car_has_ended h) (nat_le st.turns (station_hearings h)) (car_is_spent (car_plan h) h) (nothing_under_way h)) (sym stands) ∙ over in
    let behind = over_later (car_has_ended h) (nat_le st.turns (station_hearings h)) (car_is_spent (car_plan h) h) (nothing_under_way h) (nat_le st.turns (station_hearings k)) (nothing_under_way k) before
    (turns_used st.turns (station_hearings h) (station_hearings k) l.heard) in
    (λ i. over_if (ended i) (b i) (nat_le st.turns (station_hearings k)) (u i) (nothing_under_way k)) ∙ behind

-- the station has ended its session, and the next car may come
pub parted : (c : Codecs) (cs : car.Codecs) (st : Station) (plan : CarPlan) (h : List Happening) (s : Sides) → BothRest st h → is_over st h ≡ true → station_has_ended h ≡ false → PostIsQuiet s
    → HasAnswered c cs st plan (CarGoes ∷ h) s → HasParted c cs st plan h s
parted c cs st plan h s rest over stands quiet a =
    let k = a.acts ++ CarGoes ∷ h in
    let rests = post_rests st k s.post a.at.post quiet in
    let ended = gone_ends c cs st h a.acts a.alone a.at.run rests in
    let l = left h a.acts a.alone in
    let e = joins a.acts h in
    let all = l.all in
    let few : all_hearings k ≤ suc (all_hearings h) = omega (arith, all) in
    let car_rests : CarRestsBy (car_plan k) k = subst (λ (o : Option CarPlan). CarRestsBy o k) (sym l.plan) (rests_same (car_plan h) h k l.steps rest.car_rests) in
    let may : MayFollow st k = record { rest = record { station_rests = rests; car_rests = car_rests }; over = still_over st h k stands ended l over; ended = ended } in
    record {
      gone = a.acts ++ CarGoes ∷ [];
      between = all_between a.acts a.alone;
      at = subst (λ (x : List Happening). IsAt c cs st plan x s) (sym e) a.at;
      may = subst (MayFollow st) (sym e) may;
      few = subst (λ (x : List Happening). all_hearings x ≤ suc (all_hearings h)) (sym e) few;
    }

-- it had ended already
pub parted_before : (c : Codecs) (cs : car.Codecs) (st : Station) (plan : CarPlan) (h : List Happening) (s : Sides) → IsOver c cs st plan h s → station_has_ended h ≡ true → HasParted c cs st plan h s
parted_before c cs st plan h s k ended = record {
  gone = [];
  between = tt;
  at = k.at;
  may = record { rest = k.rest; over = k.over; ended = ended };
  few = omega arith;
}

-- ---- the next car

pub awaits_next : (c : Codecs) (cs : car.Codecs) (st : Station) (plan next_plan : CarPlan) (h : List Happening) (s new : Sides) → new ≡ with_plan (ported (joined next_plan)) s → (k : HasParted c cs st plan h s)
    → Awaits c cs st next_plan (k.gone ++ h) new
awaits_next c cs st plan next_plan h s new e k =
    let at = k.at in
    subst (Awaits c cs st next_plan (k.gone ++ h)) (sym e) (record {
      run = at.run;
      short = at.short;
      may = inr k.may;
      post = at.post;
      plan_is = refl;
      moment_is = at.moment_is;
      number_is = at.number_is;
      turns_is = at.turns_is;
    })
