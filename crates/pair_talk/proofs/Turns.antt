-- What is heard next follows from the history, and the pair keeps it.
use Rattle.std.proofs.Common.{◌≡◌, ◌≢◌, ℕ, suc, ◌+◌, Bool, true, false, if◌then◌else◌, List, [], ◌∷◌, length, take, drop, Option, Some, None, is_some, refl, sym, ap, subst, ◌∙◌}
use Rattle.charge_world.specs.declared.heard.PlantEvent.{PlantEvent}
use Rattle.session_words.specs.declared.plan.CarPlan.{CarPlan}
use Rattle.plant_sim.specs.Charger.{Charger, Comes, NoneReached}
use Rattle.post_spec.specs.Codecs.{Codecs}
use Rattle.post_spec.specs.Steps.{Event, Plant, Bytes, Clock}
use Rattle.station_spec.specs.Hearing.{hearing}
use Rattle.car_spec.specs.Codecs as car
use Rattle.car_spec.specs.Acting.{state}
use Rattle.car_spec.specs.Hearing as car_hearing
use Rattle.car_spec.specs.Steps.{Step, Hears}
use Rattle.site_posts.specs.Places.{capped}
use Rattle.pipe_spec.specs.Numbers.{next, behind}
use Rattle.pipe_spec.specs.Chargers.{IsCharger}
use Rattle.pipe_spec.specs.Histories.{Happening, ChargerTells, StationHears, CarHears, TimePasses, joined, moment, draws, car_plan, to_station, to_car, car_cause, car_steps, car_hearings, station_hearings, station_cause}
use Rattle.pipe_spec.specs.Counts.{Counts, counts, exchanges}
use Rattle.pipe_spec.specs.Turns.{Station, station_state, BothRest, is_over, MayTurn, IsTurn, IsPiece, piece_length}
use Rattle.pair_ends.specs.Ends.{PostSide, CarSide, post_heard_at, car_heard_at}
use Rattle.pair_ends.specs.declared.tallies.PostTally.{PostTally}
use Rattle.pair_ends.specs.Tallies.{few, post_heard}
use Rattle.pair_talk.specs.Keeping.{IsPostTally, IsPostAt, IsCarAt, IsAt}
use Rattle.pair_talk.specs.Sides.{Sides, with_event, piece_of, with_piece_at_station, with_piece_at_car, heard_by, later}
use Rattle.pair_talk.proofs.Tallies.{capped_suc}

-- ---- what each end keeps of a hearing

-- the post's counts
pub record SameCounts (h k : List Happening) : Type 0 where
  pub hearings : station_hearings k ≡ suc (station_hearings h)
  pub cause : station_cause k ≡ station_cause h
  pub counts_are : counts k ≡ counts h

heard_tally : (h k : List Happening) (t : PostTally) → SameCounts h k → IsPostTally h t → IsPostTally k (post_heard t)
heard_tally h k t s i = record {
  hearings = capped_suc t.hearings (station_hearings h) i.hearings ∙ ap capped (sym s.hearings);
  cause = i.cause ∙ sym s.cause;
  replies = i.replies ∙ ap (λ (c : Counts). capped c.replies) (sym s.counts_are);
  bytes = i.bytes ∙ ap (λ (c : Counts). capped c.bytes) (sym s.counts_are);
  closed = i.closed ∙ ap (λ (c : Counts). capped c.closed) (sym s.counts_are);
  opened = i.opened ∙ ap (λ (c : Counts). capped c.opened) (sym s.counts_are);
}

-- the counts of a post that hears nothing
same_tally : (h k : List Happening) (t : PostTally) → station_hearings k ≡ station_hearings h → station_cause k ≡ station_cause h → counts k ≡ counts h → IsPostTally h t → IsPostTally k t
same_tally h k t a b s i = record {
  hearings = i.hearings ∙ ap capped (sym a);
  cause = i.cause ∙ sym b;
  replies = i.replies ∙ ap (λ (c : Counts). capped c.replies) (sym s);
  bytes = i.bytes ∙ ap (λ (c : Counts). capped c.bytes) (sym s);
  closed = i.closed ∙ ap (λ (c : Counts). capped c.closed) (sym s);
  opened = i.opened ∙ ap (λ (c : Counts). capped c.opened) (sym s);
}

-- what the car keeps, unless it has ended
pub record HeardSide (plan : CarPlan) (s new : CarSide) (steps : List Step) (n : ℕ) (cause : Option ℕ) : Type 0 where
  pub plan_is : new.plan ≡ s.plan
  pub car_is : new.car ≡ state plan steps
  pub over_is : new.car.over ≡ is_some cause
  pub hearings : new.tally.hearings ≡ capped n
  pub exchanges_are : new.tally.exchanges ≡ s.tally.exchanges
  pub cause_is : new.tally.cause ≡ s.tally.cause

heard_if : (plan : CarPlan) (s : CarSide) (now : ℕ) (event : Event) (steps : List Step) (n : ℕ) (cause : Option ℕ) (b : Bool) → b ≡ is_some cause → s.car.over ≡ is_some cause → s.car ≡ state plan steps → s.tally.hearings ≡ capped n
    → HeardSide plan s (if b then s else car_heard_at now event s) (if is_some cause then steps else Hears now event ∷ steps) (if is_some cause then n else suc n) cause
heard_if plan s now event steps n (Some cause) true e over car_is hearings = record { plan_is = refl; car_is = car_is; over_is = over; hearings = hearings; exchanges_are = refl; cause_is = refl }
heard_if plan s now event steps n None false e over car_is hearings = record {
  plan_is = refl;
  car_is = ap (car_hearing.hearing now event) car_is;
  over_is = over;
  hearings = capped_suc s.tally.hearings n hearings;
  exchanges_are = refl;
  cause_is = refl;
}
heard_if plan s now event steps n (Some cause) false e over car_is hearings = absurd (let f : false ≡ true = e in cc)
heard_if plan s now event steps n None true e over car_is hearings = absurd (let f : true ≡ false = e in cc)

heard_so : (plan : CarPlan) (h : List Happening) (s : CarSide) (now at : ℕ) (event : Event) → now ≡ at → IsCarAt plan h s
    → HeardSide (joined plan) s (heard_by now event s) (if is_some (car_cause h) then car_steps h else Hears at event ∷ car_steps h) (if is_some (car_cause h) then car_hearings h else suc (car_hearings h)) (car_cause h)
heard_so plan h s now at event e k =
    subst (λ (m : ℕ). HeardSide (joined plan) s (heard_by now event s) (if is_some (car_cause h) then car_steps h else Hears m event ∷ car_steps h) (if is_some (car_cause h) then car_hearings h else suc (car_hearings h)) (car_cause h)) e
    (heard_if (joined plan) s now event (car_steps h) (car_hearings h) (car_cause h) s.car.over k.over_is k.over_is k.car_is k.tally.hearings)

-- ---- turns

may_turn : (st : Station) (plan : CarPlan) (h : List Happening) (p : PostSide) (o : Option CarPlan) (e : Happening) → car_plan h ≡ Some (joined plan) → BothRest st h → is_over st h ≡ false → IsPostAt st h p → IsTurn st p.charger h e → MayTurn st h e
may_turn st plan h p o e came rest goes_on k turn = record { plan = joined plan; came = came; rest = rest; goes_on = goes_on; charger = p.charger; charger_is = k.charger_is; turn = turn }

pub same_car : (plan : CarPlan) (h k : List Happening) (s : CarSide) → car_steps k ≡ car_steps h → car_cause k ≡ car_cause h → car_hearings k ≡ car_hearings h → exchanges k ≡ exchanges h → IsCarAt plan h s → IsCarAt plan k s
same_car plan h k s steps cause hearings x i = record {
  plan_is = i.plan_is;
  car_is = i.car_is ∙ ap (state (joined plan)) (sym steps);
  over_is = i.over_is ∙ ap (λ (o : Option ℕ). is_some o) (sym cause);
  tally = record { hearings = i.tally.hearings ∙ ap capped (sym hearings); exchanges_are = i.tally.exchanges_are ∙ ap few (sym x); cause = i.tally.cause ∙ sym cause };
}

heard_car : (plan : CarPlan) (h k : List Happening) (s new : CarSide) (steps : List Step) (n : ℕ) → car_steps k ≡ steps → car_hearings k ≡ n → car_cause k ≡ car_cause h → exchanges k ≡ exchanges h → HeardSide (joined plan) s new steps n (car_cause h) → IsCarAt plan h s → IsCarAt plan k new
heard_car plan h k s new steps n a b cause x d i = record {
  plan_is = d.plan_is ∙ i.plan_is;
  car_is = d.car_is ∙ ap (state (joined plan)) (sym a);
  over_is = d.over_is ∙ ap (λ (o : Option ℕ). is_some o) (sym cause);
  tally = record { hearings = d.hearings ∙ ap capped (sym b); exchanges_are = d.exchanges_are ∙ i.tally.exchanges_are ∙ ap few (sym x); cause = d.cause_is ∙ i.tally.cause ∙ sym cause };
}

pub heard_post : (st : Station) (h k : List Happening) (p : PostSide) (charger : Charger) (now at : ℕ) (event : Event) → now ≡ at → station_state st k ≡ hearing at event (station_state st h) → IsCharger st.post.free k charger → SameCounts h k → IsPostAt st h p
    → IsPostAt st k (post_heard_at now event (record p { charger = charger }))
heard_post st h k p charger now at event e s ch counts_are i = record {
  plan_is = i.plan_is;
  post_is = ap (λ (n : ℕ). hearing n event p.post) e ∙ ap (hearing at event) i.post_is ∙ sym s;
  limit_is = i.limit_is;
  charger_is = ch;
  tally = heard_tally h k p.tally counts_are i.tally;
}

pub told_at : (c : Codecs) (cs : car.Codecs) (st : Station) (plan : CarPlan) (h : List Happening) (s : Sides) (event : PlantEvent) (charger : Charger) → IsAt c cs st plan h s → BothRest st h → is_over st h ≡ false
    → Comes s.post.charger s.moment event charger → IsAt c cs st plan (ChargerTells event ∷ h) (with_event event charger s)
told_at c cs st plan h s event charger k rest goes_on comes =
    let e = ChargerTells event ∷ h in
    let there : Comes s.post.charger (moment h) event charger = subst (λ (m : ℕ). Comes s.post.charger m event charger) k.moment_is comes in
    record {
      run = (k.run, may_turn st plan h s.post None (ChargerTells event) k.came rest goes_on k.post (charger, there));
      short = (tt, k.short);
      came = k.came;
      post = heard_post st h e s.post charger s.moment (moment h) (Plant event) k.moment_is refl (s.post.charger, k.post.charger_is, there) (record { hearings = refl; cause = refl; counts_are = refl }) k.post;
      car = same_car plan h e s.car refl refl refl refl k.car;
      to_station_is = k.to_station_is;
      to_car_is = k.to_car_is;
      moment_is = k.moment_is;
      number_is = k.number_is;
      turns_is = k.turns_is;
    }

none_reached : (st : Station) (h : List Happening) (s : Sides) → s.moment ≡ moment h → NoneReached s.post.charger.moments s.moment → NoneReached s.post.charger.moments (moment h)
none_reached st h s e n = subst (λ (m : ℕ). NoneReached s.post.charger.moments m) e n

piece_is : (st : Station) (h : List Happening) (number : ℕ) (way there : List ℕ) → number ≡ behind st.seed (draws h) → way ≡ there → piece_of number way ≡ take (piece_length st h) there
piece_is st h number way there e f = ap (λ (n : ℕ). piece_of n way) e ∙ ap (λ (w : List ℕ). piece_of (behind st.seed (draws h)) w) f

pub station_at : (c : Codecs) (cs : car.Codecs) (st : Station) (plan : CarPlan) (h : List Happening) (s : Sides) → IsAt c cs st plan h s → BothRest st h → is_over st h ≡ false → NoneReached s.post.charger.moments s.moment → s.to_station ≢ []
    → IsAt c cs st plan (StationHears (piece_of s.number s.to_station) ∷ h) (with_piece_at_station s)
station_at c cs st plan h s k rest goes_on none some =
    let bytes = piece_of s.number s.to_station in
    let e = StationHears bytes ∷ h in
    let piece : IsPiece st h (to_station h) bytes = record { under_way = λ x. some (k.to_station_is ∙ x); bytes_are = piece_is st h s.number s.to_station (to_station h) k.number_is k.to_station_is } in
    record {
      run = (k.run, may_turn st plan h s.post None (StationHears bytes) k.came rest goes_on k.post (none_reached st h s k.moment_is none, piece));
      short = (tt, k.short);
      came = k.came;
      post = heard_post st h e s.post s.post.charger s.moment (moment h) (Bytes bytes) k.moment_is refl k.post.charger_is (record { hearings = refl; cause = refl; counts_are = refl }) k.post;
      car = same_car plan h e s.car refl refl refl refl k.car;
      to_station_is = ap (drop (length bytes)) k.to_station_is;
      to_car_is = k.to_car_is;
      moment_is = k.moment_is;
      number_is = ap next k.number_is;
      turns_is = k.turns_is;
    }

same_post : (st : Station) (h k : List Happening) (p : PostSide) → station_state st k ≡ station_state st h → IsCharger st.post.free k p.charger → station_hearings k ≡ station_hearings h → station_cause k ≡ station_cause h → counts k ≡ counts h → IsPostAt st h p → IsPostAt st k p
same_post st h k p s ch a b d i = record { plan_is = i.plan_is; post_is = i.post_is ∙ sym s; limit_is = i.limit_is; charger_is = ch; tally = same_tally h k p.tally a b d i.tally }

pub car_at : (c : Codecs) (cs : car.Codecs) (st : Station) (plan : CarPlan) (h : List Happening) (s : Sides) → IsAt c cs st plan h s → BothRest st h → is_over st h ≡ false → NoneReached s.post.charger.moments s.moment → s.to_station ≡ [] → s.to_car ≢ []
    → IsAt c cs st plan (CarHears (piece_of s.number s.to_car) ∷ h) (with_piece_at_car s)
car_at c cs st plan h s k rest goes_on none nothing some =
    let bytes = piece_of s.number s.to_car in
    let e = CarHears bytes ∷ h in
    let piece : IsPiece st h (to_car h) bytes = record { under_way = λ x. some (k.to_car_is ∙ x); bytes_are = piece_is st h s.number s.to_car (to_car h) k.number_is k.to_car_is } in
    record {
      run = (k.run, may_turn st plan h s.post None (CarHears bytes) k.came rest goes_on k.post (none_reached st h s k.moment_is none, sym k.to_station_is ∙ nothing, piece));
      short = (tt, k.short);
      came = k.came;
      post = same_post st h e s.post refl k.post.charger_is refl refl refl k.post;
      car = heard_car plan h e s.car (heard_by s.moment (Bytes bytes) s.car) _ _ refl refl refl refl (heard_so plan h s.car s.moment (moment h) (Bytes bytes) k.moment_is k.car) k.car;
      to_station_is = k.to_station_is;
      to_car_is = ap (drop (length bytes)) k.to_car_is;
      moment_is = k.moment_is;
      number_is = ap next k.number_is;
      turns_is = k.turns_is;
    }

pub later_at : (c : Codecs) (cs : car.Codecs) (st : Station) (plan : CarPlan) (h : List Happening) (s : Sides) → IsAt c cs st plan h s → BothRest st h → is_over st h ≡ false → NoneReached s.post.charger.moments s.moment → s.to_station ≡ [] → s.to_car ≡ []
    → IsAt c cs st plan (TimePasses ∷ h) (later s)
later_at c cs st plan h s k rest goes_on none nothing neither =
    let e = TimePasses ∷ h in
    let after : s.moment + 10 ≡ moment h + 10 = ap (λ (n : ℕ). n + 10) k.moment_is in
    record {
      run = (k.run, may_turn st plan h s.post None TimePasses k.came rest goes_on k.post (none_reached st h s k.moment_is none, sym k.to_station_is ∙ nothing, sym k.to_car_is ∙ neither));
      short = (tt, k.short);
      came = k.came;
      post = heard_post st h e s.post s.post.charger (s.moment + 10) (moment h + 10) Clock after refl k.post.charger_is (record { hearings = refl; cause = refl; counts_are = refl }) k.post;
      car = heard_car plan h e s.car (heard_by (s.moment + 10) Clock s.car) _ _ refl refl refl refl (heard_so plan h s.car (s.moment + 10) (moment h + 10) Clock after k.car) k.car;
      to_station_is = k.to_station_is;
      to_car_is = k.to_car_is;
      moment_is = after;
      number_is = k.number_is;
      turns_is = k.turns_is;
    }
