-- What a turn does to a pair.
use Rattle.std.proofs.Common.{◌≡◌, ◌≢◌, ◌<◌, ◌≤◌, ℕ, ◌+◌, ◌-◌, ◌*◌, ◌^◌, nat_le, Bool, true, false, ◌&&◌, ◌||◌, if◌then◌else◌, List, [], ◌∷◌, length, take, drop, Option, Some, None, is_some, refl, sym, ap, subst, ◌∙◌, inl, inr, arith}
use Rattle.std.proofs.lemmas.Grind.{common_steps}
use Rattle.charge_world.specs.declared.heard.PlantEvent.{PlantEvent}
use Rattle.charge_world.specs.declared.heard.What.{What}
use Rattle.charge_world.specs.declared.heard.What.TheVariants as what
use Rattle.charge_world.specs.declared.offer.Dialect.{Dialect}
use Rattle.session_words.specs.declared.plan.CarPlan.{CarPlan}
use Rattle.session_words.specs.declared.word.Word.{Word}
use Rattle.plant_sim.specs.Charger.{Charger, Comes, NoneReached}
use Rattle.post_spec.specs.Codecs.{Codecs}
use Rattle.post_spec.specs.Steps.{Event, Plant, Bytes, Clock}
use Rattle.station_spec.specs.Blocks.{IsPlantEvent}
use Rattle.site_posts.specs.Places.{capped}
use Rattle.site_posts.proofs.Sound as post_sound
use Rattle.car_spec.specs.Codecs as car
use Rattle.car_spec.specs.States.{State}
use Rattle.car_codec.specs.Requests.{IsPlan}
use Rattle.car_acts.specs.Sound.{IsSound}
use Rattle.car_acts.proofs.Sound as car_sound
use Rattle.pipe_spec.specs.Numbers.{drawn}
use Rattle.pipe_spec.specs.Histories.{Happening, ChargerTells, StationHears, CarHears, TimePasses, joined, moment, car_plan, car_hearings, station_hearings}
use Rattle.pipe_spec.specs.Pasts.{Hearing, hearing_at}
use Rattle.pipe_spec.specs.Turns.{Station, BothRest, is_none, is_over, car_is_spent}
use Rattle.pair_ends.specs.Ends.{CarSide, car_heard_at}
use Rattle.pair_talk.specs.Keeping.{AreSound, PostIsQuiet, CarIsQuiet, IsAt}
use Rattle.pair_talk.specs.Lessening.{over_by, hearings_left, Lessens, IsInTime}
use Rattle.pair_talk.specs.Sides.{Sides, with_event, piece_of, with_piece_at_station, with_piece_at_car, heard_by, later}
use Rattle.pair_talk.specs.Turning.{HasHeard}
use Rattle.pair_talk.proofs.Acts.{post_rests, car_rests}
use Rattle.pair_talk.proofs.Turns.{told_at, station_at, car_at, later_at}

-- ---- whether the session is over

same_test : (t n m : ℕ) → t ≤ 2 ^ 64 - 1 → m ≡ capped n → nat_le t m ≡ nat_le t n
same_test t n m few e = grind (arith, common_steps)

few_turns : (n : ℕ) → n ≤ 4294967296 → n ≤ 2 ^ 64 - 1
few_turns n l = omega (arith, l)

spent_by : (o : Option CarPlan) (h : List Happening) (plan : CarPlan) (m : ℕ) → o ≡ Some plan → plan.turns ≤ 2 ^ 64 - 1 → m ≡ capped (car_hearings h) → nat_le plan.turns m ≡ car_is_spent o h
spent_by o h plan m e few x = subst (λ (z : Option CarPlan). nat_le plan.turns m ≡ car_is_spent z h) (sym e) (same_test plan.turns (car_hearings h) m few x)

abbrev over_if : Bool → Bool → Bool → Bool → Bool → Bool → Bool
over_if a b t u x y = (a && b) || t || u || ((a || b) && (x && y))

pub over_same : (c : Codecs) (cs : car.Codecs) (st : Station) (plan : CarPlan) (h : List Happening) (s : Sides) (Reads : Dialect → List ℕ → Option Word → Type 0) → AreSound Reads s → IsAt c cs st plan h s → over_by s ≡ is_over st h
over_same c cs st plan h s Reads sound k =
    let a = ap (λ (o : Option ℕ). is_some o) k.post.tally.cause in
    let b = ap (λ (o : Option ℕ). is_some o) k.car.tally.cause in
    let t : nat_le s.turns s.post.tally.hearings ≡ nat_le st.turns (station_hearings h) =
    same_test s.turns (station_hearings h) s.post.tally.hearings (few_turns s.turns sound.turns) k.post.tally.hearings ∙ ap (λ (n : ℕ). nat_le n (station_hearings h)) k.turns_is in
    let turns : s.car.plan.turns ≡ plan.turns = ap (λ (p : CarPlan). p.turns) k.car.plan_is in
    let few : plan.turns ≤ 2 ^ 64 - 1 = subst (λ (n : ℕ). n ≤ 2 ^ 64 - 1) turns (few_turns s.car.plan.turns sound.rules.rules.turns.1) in
    let u = ap (λ (n : ℕ). nat_le n s.car.tally.hearings) turns ∙ spent_by (car_plan h) h (joined plan) s.car.tally.hearings k.came few k.car.tally.hearings in
    let x = ap is_none k.to_station_is in
    let y = ap is_none k.to_car_is in
    λ i. over_if (a i) (b i) (t i) (u i) (x i) (y i)

not_two : (a b c d : Bool) → (a || b || c || d) ≡ false → (b ≡ false) × (c ≡ false)
not_two true b c d e = absurd (let f : true ≡ false = e in cc)
not_two false true c d e = absurd (let f : true ≡ false = e in cc)
not_two false false true d e = absurd (let f : true ≡ false = e in cc)
not_two false false false d e = (refl, refl)

more_turns : (turns heard : ℕ) → nat_le turns heard ≡ false → heard < turns
more_turns turns heard e = grind (arith, common_steps)

pub record Left (s : Sides) : Type 0 where
  pub post : s.post.tally.hearings < s.turns
  pub car : s.car.tally.hearings < s.car.plan.turns

pub left_by : (s : Sides) → over_by s ≡ false → Left s
left_by s e =
    let n = not_two (is_some s.post.tally.cause && is_some s.car.tally.cause) (nat_le s.turns s.post.tally.hearings) (nat_le s.car.plan.turns s.car.tally.hearings) _ e in
    record { post = more_turns s.turns s.post.tally.hearings n.0; car = more_turns s.car.plan.turns s.car.tally.hearings n.1 }

pub rest_by : (c : Codecs) (cs : car.Codecs) (st : Station) (plan : CarPlan) (h : List Happening) (s : Sides) → IsAt c cs st plan h s → PostIsQuiet s → CarIsQuiet s → BothRest st h
rest_by c cs st plan h s k p q = record { station_rests = post_rests st h s.post k.post p; car_rests = car_rests plan h s.car (car_plan h) k.came k.car q }

some_way : (way : List ℕ) → is_none way ≡ false → way ≢ []
some_way [] e = absurd (let f : true ≡ false = e in cc)
some_way (x ∷ way) e = λ f. cc

no_way : (way : List ℕ) → is_none way ≡ true → way ≡ []
no_way [] e = refl
no_way (x ∷ way) e = absurd (let f : false ≡ true = e in cc)

-- ---- it follows

heard_at : (m n : ℕ) (w : What) (bytes : List ℕ) → m ≡ n → Some (hearing_at m w bytes) ≡ Some (hearing_at n w bytes)
heard_at m n w bytes e = ap (λ (x : ℕ). Some (hearing_at x w bytes)) e

pub told_heard : (s new : Sides) (event : PlantEvent) (charger : Charger) (heard : Option Hearing) → new ≡ with_event event charger s → heard ≡ Some (hearing_at new.moment (what.Plant 1 event) []) → heard ≡ Some (hearing_at s.moment (what.Plant 1 event) [])
told_heard s new event charger heard e x = x ∙ heard_at new.moment s.moment (what.Plant 1 event) [] (ap (λ (y : Sides). y.moment) e)

pub told : (c : Codecs) (cs : car.Codecs) (st : Station) (plan : CarPlan) (h : List Happening) (s new : Sides) (event : PlantEvent) (charger : Charger) (heard : Option Hearing) → heard ≡ Some (hearing_at s.moment (what.Plant 1 event) []) → AreSound c.Reads s → PostIsQuiet s → CarIsQuiet s → over_by s ≡ false → Comes s.post.charger s.moment event charger
    → new ≡ with_event event charger s → IsAt c cs st plan h s → HasHeard c cs st plan h heard new
told c cs st plan h s new event charger heard x sound p q goes_on comes e k =
    let over = sym (over_same c cs st plan h s c.Reads sound k) ∙ goes_on in
    record { turn = ChargerTells event; is = refl; heard_is = x ∙ heard_at s.moment _ (what.Plant 1 event) [] k.moment_is; at = subst (IsAt c cs st plan (ChargerTells event ∷ h)) (sym e) (told_at c cs st plan h s event charger k (rest_by c cs st plan h s k p q) over comes) }

pub station_heard : (c : Codecs) (cs : car.Codecs) (st : Station) (plan : CarPlan) (h : List Happening) (s new : Sides) (heard : Option Hearing)
    → heard ≡ Some (hearing_at s.moment (what.Bytes 1 (length (piece_of s.number s.to_station))) (piece_of s.number s.to_station)) → AreSound c.Reads s → PostIsQuiet s → CarIsQuiet s → over_by s ≡ false → NoneReached s.post.charger.moments s.moment → is_none s.to_station ≡ false
    → new ≡ with_piece_at_station s → IsAt c cs st plan h s → HasHeard c cs st plan h heard new
station_heard c cs st plan h s new heard y sound p q goes_on none some e k =
    let over = sym (over_same c cs st plan h s c.Reads sound k) ∙ goes_on in
    let bytes = piece_of s.number s.to_station in
    let x = StationHears bytes in
    record { turn = x; is = refl; heard_is = y ∙ heard_at s.moment _ (what.Bytes 1 (length bytes)) bytes k.moment_is; at = subst (IsAt c cs st plan (x ∷ h)) (sym e) (station_at c cs st plan h s k (rest_by c cs st plan h s k p q) over none (some_way s.to_station some)) }

pub car_heard : (c : Codecs) (cs : car.Codecs) (st : Station) (plan : CarPlan) (h : List Happening) (s new : Sides) (heard : Option Hearing) → heard ≡ None → AreSound c.Reads s → PostIsQuiet s → CarIsQuiet s → over_by s ≡ false → NoneReached s.post.charger.moments s.moment → is_none s.to_station ≡ true → is_none s.to_car ≡ false
    → new ≡ with_piece_at_car s → IsAt c cs st plan h s → HasHeard c cs st plan h heard new
car_heard c cs st plan h s new heard y sound p q goes_on none nothing some e k =
    let over = sym (over_same c cs st plan h s c.Reads sound k) ∙ goes_on in
    let x = CarHears (piece_of s.number s.to_car) in
    record { turn = x; is = refl; heard_is = y; at = subst (IsAt c cs st plan (x ∷ h)) (sym e) (car_at c cs st plan h s k (rest_by c cs st plan h s k p q) over none (no_way s.to_station nothing) (some_way s.to_car some)) }

pub waited : (c : Codecs) (cs : car.Codecs) (st : Station) (plan : CarPlan) (h : List Happening) (s new : Sides) (heard : Option Hearing) → heard ≡ Some (hearing_at new.moment what.Tick []) → AreSound c.Reads s → PostIsQuiet s → CarIsQuiet s → over_by s ≡ false → NoneReached s.post.charger.moments s.moment → is_none s.to_station ≡ true → is_none s.to_car ≡ true
    → new ≡ later s → IsAt c cs st plan h s → HasHeard c cs st plan h heard new
waited c cs st plan h s new heard y sound p q goes_on none nothing neither e k =
    let over = sym (over_same c cs st plan h s c.Reads sound k) ∙ goes_on in
    let m : new.moment ≡ moment h + 10 = ap (λ (x : Sides). x.moment) e ∙ ap (λ (x : ℕ). x + 10) k.moment_is in
    record { turn = TimePasses; is = refl; heard_is = y ∙ heard_at new.moment (moment h + 10) what.Tick [] m; at = subst (IsAt c cs st plan (TimePasses ∷ h)) (sym e) (later_at c cs st plan h s k (rest_by c cs st plan h s k p q) over none (no_way s.to_station nothing) (no_way s.to_car neither)) }

-- ---- it stays sound

heard_sound : (now : ℕ) (event : Event) (s : CarSide) (b : Bool) → s.car.over ≡ b → IsSound s.plan s.car → IsSound s.plan (if b then s else car_heard_at now event s).car
heard_sound now event s true e h = h
heard_sound now event s false e h = car_sound.heard_sound s.plan s.car now event e h

same_plan : (now : ℕ) (event : Event) (s : CarSide) (b : Bool) → (if b then s else car_heard_at now event s).plan ≡ s.plan
same_plan now event s true = refl
same_plan now event s false = refl

pub record CarStays (s new : CarSide) : Type 0 where
  pub plan_is : new.plan ≡ s.plan
  pub sound : IsSound s.plan new.car

car_stays : (now : ℕ) (event : Event) (s : CarSide) → IsSound s.plan s.car → CarStays s (heard_by now event s)
car_stays now event s h = record { plan_is = same_plan now event s s.car.over; sound = heard_sound now event s s.car.over refl h }

with_plan : (p q : CarPlan) (s : State) → q ≡ p → IsSound p s → IsSound q s
with_plan p q s e h = subst (λ (x : CarPlan). IsSound x s) (sym e) h

pub told_sound : (Reads : Dialect → List ℕ → Option Word → Type 0) (s new : Sides) (event : PlantEvent) (charger : Charger) → IsPlantEvent event → PostIsQuiet s → new ≡ with_event event charger s → AreSound Reads s → AreSound Reads new
told_sound Reads s new event charger b q e h =
    subst (AreSound Reads) (sym e) (record { ready = (h.ready.0, post_sound.heard_sound Reads s.post.plan s.post.post s.moment (Plant event) b q h.ready.1); rules = h.rules; sound = h.sound; turns = h.turns })

pub station_sound : (Reads : Dialect → List ℕ → Option Word → Type 0) (s new : Sides) → PostIsQuiet s → new ≡ with_piece_at_station s → AreSound Reads s → AreSound Reads new
station_sound Reads s new q e h =
    subst (AreSound Reads) (sym e) (record { ready = (h.ready.0, post_sound.heard_sound Reads s.post.plan s.post.post s.moment (Bytes (piece_of s.number s.to_station)) tt q h.ready.1); rules = h.rules; sound = h.sound; turns = h.turns })

pub heard_car_sound : (Reads : Dialect → List ℕ → Option Word → Type 0) (s new : Sides) → new ≡ with_piece_at_car s → AreSound Reads s → AreSound Reads new
heard_car_sound Reads s new e h =
    let c = car_stays s.moment (Bytes (piece_of s.number s.to_car)) s.car h.sound in
    subst (AreSound Reads) (sym e) (record { ready = h.ready; rules = subst IsPlan (sym c.plan_is) h.rules; sound = with_plan s.car.plan _ _ c.plan_is c.sound; turns = h.turns })

pub later_sound : (Reads : Dialect → List ℕ → Option Word → Type 0) (s new : Sides) → PostIsQuiet s → new ≡ later s → AreSound Reads s → AreSound Reads new
later_sound Reads s new q e h =
    let c = car_stays (s.moment + 10) Clock s.car h.sound in
    subst (AreSound Reads) (sym e) (record {
      ready = (h.ready.0, post_sound.heard_sound Reads s.post.plan s.post.post (s.moment + 10) Clock tt q h.ready.1);
      rules = subst IsPlan (sym c.plan_is) h.rules;
      sound = with_plan s.car.plan _ _ c.plan_is c.sound;
      turns = h.turns;
    })

-- ---- less is left, and the clock is in time

fewer : (t h : ℕ) → h < t → t ≤ 4294967296 → t - capped (h + 1) < t - h
fewer t h l m = omega (arith, l, m)

in_time : (m t h : ℕ) → h < t → t ≤ 4294967296 → (m + 10) + 10 * h ≤ m + 10 * capped (h + 1)
in_time m t h l few = omega (arith, l, few)

post_less : (Reads : Dialect → List ℕ → Option Word → Type 0) (s : Sides) → AreSound Reads s → Left s → (s.turns - capped (s.post.tally.hearings + 1)) + (s.car.plan.turns - s.car.tally.hearings) < hearings_left s
post_less Reads s h l = let f = fewer s.turns s.post.tally.hearings l.post h.turns in omega (arith, f)

pub told_less : (Reads : Dialect → List ℕ → Option Word → Type 0) (s new : Sides) (event : PlantEvent) (charger : Charger) → AreSound Reads s → over_by s ≡ false → new ≡ with_event event charger s → Lessens s new
told_less Reads s new event charger h o e = subst (Lessens s) (sym e) (inl (post_less Reads s h (left_by s o)))

pub station_less : (Reads : Dialect → List ℕ → Option Word → Type 0) (s new : Sides) → AreSound Reads s → over_by s ≡ false → new ≡ with_piece_at_station s → Lessens s new
station_less Reads s new h o e = subst (Lessens s) (sym e) (inl (post_less Reads s h (left_by s o)))

heard_more : (now : ℕ) (event : Event) (s : CarSide) (b : Bool) → b ≡ false → (if b then s else car_heard_at now event s).plan.turns - (if b then s else car_heard_at now event s).tally.hearings ≡ s.plan.turns - capped (s.tally.hearings + 1)
heard_more now event s true e = absurd (let f : true ≡ false = e in cc)
heard_more now event s false e = refl

heard_none : (now : ℕ) (event : Event) (s : CarSide) (b : Bool) → b ≡ true → (if b then s else car_heard_at now event s) ≡ s
heard_none now event s true e = refl
heard_none now event s false e = absurd (let f : false ≡ true = e in cc)

shorter : (n : ℕ) (way : List ℕ) → way ≢ [] → length (drop (length (take (1 + n) way)) way) < length way
shorter n [] some = absurd (some refl)
shorter n (x ∷ way) some = grind (arith, common_steps)

car_less_by : (Reads : Dialect → List ℕ → Option Word → Type 0) (s : Sides) (b : Bool) → s.car.car.over ≡ b → AreSound Reads s → Left s → PostIsQuiet s → s.to_car ≢ [] → Lessens s (with_piece_at_car s)
car_less_by Reads s true e h l q some =
    let same = heard_none s.moment (Bytes (piece_of s.number s.to_car)) s.car s.car.car.over e in
    inr (record { same = ap (λ (x : CarSide). (s.turns - s.post.tally.hearings) + (x.plan.turns - x.tally.hearings)) same; less = shorter (drawn 64 s.number) s.to_car some; quiet = q })
car_less_by Reads s false e h l q some =
    let more = heard_more s.moment (Bytes (piece_of s.number s.to_car)) s.car s.car.car.over e in
    let f = fewer s.car.plan.turns s.car.tally.hearings l.car h.rules.rules.turns.1 in
    inl (omega (arith, more, f))

pub car_less : (Reads : Dialect → List ℕ → Option Word → Type 0) (s new : Sides) → AreSound Reads s → over_by s ≡ false → PostIsQuiet s → is_none s.to_car ≡ false → new ≡ with_piece_at_car s → Lessens s new
car_less Reads s new h o q some e = subst (Lessens s) (sym e) (car_less_by Reads s s.car.car.over refl h (left_by s o) q (some_way s.to_car some))

no_more : (now : ℕ) (event : Event) (s : CarSide) (b : Bool) → s.tally.hearings < s.plan.turns → s.plan.turns ≤ 4294967296
    → (if b then s else car_heard_at now event s).plan.turns - (if b then s else car_heard_at now event s).tally.hearings ≤ s.plan.turns - s.tally.hearings
no_more now event s true l m = omega arith
no_more now event s false l m = let f = fewer s.plan.turns s.tally.hearings l m in omega (arith, f)

pub later_less : (Reads : Dialect → List ℕ → Option Word → Type 0) (s new : Sides) → AreSound Reads s → over_by s ≡ false → new ≡ later s → Lessens s new
later_less Reads s new h o e =
    let l = left_by s o in
    let f = fewer s.turns s.post.tally.hearings l.post h.turns in
    let m = no_more (s.moment + 10) Clock s.car s.car.car.over l.car h.rules.rules.turns.1 in
    subst (Lessens s) (sym e) (inl (omega (arith, f, m)))

pub told_time : (Reads : Dialect → List ℕ → Option Word → Type 0) (s new : Sides) (event : PlantEvent) (charger : Charger) → AreSound Reads s → over_by s ≡ false → new ≡ with_event event charger s → IsInTime s new
told_time Reads s new event charger h o e = let t = in_time s.moment s.turns s.post.tally.hearings (left_by s o).post h.turns in subst (IsInTime s) (sym e) (omega (arith, t))

pub station_time : (Reads : Dialect → List ℕ → Option Word → Type 0) (s new : Sides) → AreSound Reads s → over_by s ≡ false → new ≡ with_piece_at_station s → IsInTime s new
station_time Reads s new h o e = let t = in_time s.moment s.turns s.post.tally.hearings (left_by s o).post h.turns in subst (IsInTime s) (sym e) (omega (arith, t))

pub car_time : (s new : Sides) → new ≡ with_piece_at_car s → IsInTime s new
car_time s new e = subst (IsInTime s) (sym e) (omega arith)

pub later_time : (Reads : Dialect → List ℕ → Option Word → Type 0) (s new : Sides) → AreSound Reads s → over_by s ≡ false → new ≡ later s → IsInTime s new
later_time Reads s new h o e = let t = in_time s.moment s.turns s.post.tally.hearings (left_by s o).post h.turns in subst (IsInTime s) (sym e) t
