-- One thing happens next within a session, and nothing where it is over.
use Rattle.std.proofs.Common.{◌≡◌, ℕ, ◌<◌, ◌≤◌, Bool, true, false, List, [], ◌∷◌, Option, Some, None, refl, ap, sym, subst, ◌∙◌, ◌⊎◌, inl, inr, MatchBool, arith}
use Rattle.std.specs.Prelude.{slice_get, slice_set}
use Rattle.charge_world.specs.declared.heard.PlantEvent.{PlantEvent}
use Rattle.session_words.specs.declared.plan.CarPlan.{CarPlan}
use Rattle.session_words.specs.declared.plan.PostPlan.{PostPlan}
use Rattle.session_words.specs.declared.plan.SitePlan.{SitePlan}
use Rattle.plant_sim.specs.Charger.{Charger, moved, IsCut, events, IsFirst, measured, Comes, NoneReached, came}
use Rattle.post_spec.specs.Codecs.{Codecs}
use Rattle.post_spec.specs.Spelled.{AreDetermined}
use Rattle.post_spec.specs.Steps.{Act, Give, Send, Answer, End, Reading, Step, Hears, Does}
use Rattle.station_spec.specs.States as states
use Rattle.station_spec.specs.States.{State, first}
use Rattle.station_spec.specs.Deciding.{decided}
use Rattle.station_spec.specs.Judging.{Payload, wanted, filled, IsRead}
use Rattle.station_spec.specs.Next.{IsQuiet}
use Rattle.station_spec.specs.Sharing.{Post, Shows}
use Rattle.station_spec.specs.Runs.{entry_of, with_step, MayAct}
use Rattle.determined_runs.specs.Determined.{outcome, IsDetermined}
use Rattle.determined_runs.proofs.Once.{runs_are_determined}
use Rattle.car_spec.specs.Codecs as car
use Rattle.car_spec.specs.Spelled as car_spelled
use Rattle.car_spec.specs.Steps as car_steps
use Rattle.car_laws.specs.Determined as car_determined
use Rattle.car_laws.proofs.Determined.{determined}
use Rattle.pipe_spec.specs.Histories.{Happening, CarComes, ChargerTells, StationHears, CarHears, TimePasses, StationDoes, CarReads, CarDoes, CarGoes, NumberIsDrawn, moment, car_plan, station_steps}
use Rattle.pipe_spec.specs.Chargers.{behind_act, IsCharger}
use Rattle.pipe_spec.specs.Turns.{Station, station_state, car_state, StationRests, CarRestsBy, BothRest, StationMayDo, CarMayReadBy, CarMayDoBy, IsTurn, is_over, MayTurn, Follows}
use Rattle.pipe_spec.specs.Runs.{IsWithin}

some_none : {A : Type 0} (a : A) → Some a ≡ None → ⊥
some_none a e = cc

-- ---- the charger

currents : (voltage most watts a b : ℕ) → IsCut voltage most watts a → IsCut voltage most watts b → a ≡ b
currents voltage most watts a b x y =
    let i = x.greatest b y.ordered y.held in
    let j = y.greatest a x.ordered x.held in
    omega (arith, i, j)

current_once : (closed : Bool) (voltage most watts a b : ℕ) → MatchBool closed (IsCut voltage most watts a) (a ≡ 0) → MatchBool closed (IsCut voltage most watts b) (b ≡ 0) → a ≡ b
current_once true voltage most watts a b x y = currents voltage most watts a b x y
current_once false voltage most watts a b x y = x ∙ sym y

first_by : (p q m n : ℕ) → (m < n) ⊎ ((m ≡ n) × (p ≤ q)) → (n < m) ⊎ ((n ≡ m) × (q ≤ p)) → (p ≡ q) × (m ≡ n)
first_by p q m n (inl x) (inl y) = absurd (omega (arith, x, y))
first_by p q m n (inl x) (inr y) = let e = y.0 in absurd (omega (arith, x, e))
first_by p q m n (inr x) (inl y) = let e = x.0 in absurd (omega (arith, y, e))
first_by p q m n (inr x) (inr y) = let a = x.1 in let b = y.1 in (omega (arith, a, b), x.0)

first_once : (moments : List (Option ℕ)) (p q m n : ℕ) → IsFirst moments p m → IsFirst moments q n → (p ≡ q) × (m ≡ n)
first_once moments p q m n x y = first_by p q m n (x.first q n y.to_come) (y.first p m x.to_come)

some_event : (a b : PlantEvent) → Some a ≡ Some b → a ≡ b
some_event a b e = cc

pub record CameOnce (e f : PlantEvent) (a b : Charger) : Type 0 where
  pub event : e ≡ f
  pub charger : a ≡ b

comes_once : (old : Charger) (now : ℕ) (e f : PlantEvent) (a b : Charger) → Comes old now e a → Comes old now f b → CameOnce e f a b
comes_once old now e f a b x y =
    let p = first_once old.moments x.place y.place x.moment y.moment x.first y.first in
    let ex = x.event in
    let ey = y.event in
    let c : ex.0 ≡ ey.0 = current_once old.closed (moved old) old.limits.current old.limits.watts ex.0 ey.0 ex.1 ey.1 in
    let same : e ≡ f = some_event e f (sym ex.2 ∙ ap (λ (n : ℕ). slice_get (events (moved old) n) x.place) c ∙ ap (λ (n : ℕ). slice_get (events (moved old) ey.0) n) p.0 ∙ ey.2) in
    record {
      event = same;
      charger = x.after ∙ ap (λ (n : ℕ). record old { moments = slice_set old.moments n None; voltage = measured e old.voltage }) p.0
          ∙ ap (λ (v : PlantEvent). record old { moments = slice_set old.moments y.place None; voltage = measured v old.voltage }) same ∙ sym y.after;
    }

not_reached : (old : Charger) (now : ℕ) (e : PlantEvent) (a : Charger) → Comes old now e a → NoneReached old.moments now → ⊥
not_reached old now e a x n =
    let f = x.first in
    let late : now < x.moment = n x.place x.moment f.to_come in
    let r = x.reached in
    omega (arith, late, r)

pub charger_once : (free : Bool) (h : List Happening) (a b : Charger) → IsCharger free h a → IsCharger free h b → a ≡ b
charger_once free [] a b x y = x ∙ sym y
charger_once free (CarComes plan ∷ h) a b x y =
    x.2 ∙ ap (λ (s : Charger). came s (moment h)) (charger_once free h x.0 y.0 x.1 y.1) ∙ sym y.2
charger_once free (ChargerTells event ∷ h) a b x y =
    let same : x.0 ≡ y.0 = charger_once free h x.0 y.0 x.1 y.1 in
    let k : CameOnce event event a b = comes_once y.0 (moment h) event event a b (subst (λ (s : Charger). Comes s (moment h) event a) same x.2) y.2 in
    k.charger
charger_once free (StationDoes reading act ∷ h) a b x y =
    x.2 ∙ ap (λ (s : Charger). behind_act act h s) (charger_once free h x.0 y.0 x.1 y.1) ∙ sym y.2
charger_once free (StationHears bytes ∷ h) a b x y = charger_once free h a b x y
charger_once free (CarHears bytes ∷ h) a b x y = charger_once free h a b x y
charger_once free (TimePasses ∷ h) a b x y = charger_once free h a b x y
charger_once free (CarReads w ∷ h) a b x y = charger_once free h a b x y
charger_once free (CarDoes act ∷ h) a b x y = charger_once free h a b x y
charger_once free (CarGoes ∷ h) a b x y = charger_once free h a b x y
charger_once free (NumberIsDrawn ∷ h) a b x y = charger_once free h a b x y

-- ---- a turn

turn_once : (st : Station) (s : Charger) (h : List Happening) (e f : Happening) → IsTurn st s h e → IsTurn st s h f → e ≡ f
turn_once st s h (ChargerTells a) (ChargerTells b) x y = let k : CameOnce a b x.0 y.0 = comes_once s (moment h) a b x.0 y.0 x.1 y.1 in ap ChargerTells k.event
turn_once st s h (ChargerTells a) (StationHears b) x y = absurd (not_reached s (moment h) a x.0 x.1 y.0)
turn_once st s h (ChargerTells a) (CarHears b) x y = absurd (not_reached s (moment h) a x.0 x.1 y.0)
turn_once st s h (ChargerTells a) TimePasses x y = absurd (not_reached s (moment h) a x.0 x.1 y.0)
turn_once st s h (StationHears a) (ChargerTells b) x y = absurd (not_reached s (moment h) b y.0 y.1 x.0)
turn_once st s h (StationHears a) (StationHears b) x y = let i = x.1 in let j = y.1 in ap StationHears (i.bytes_are ∙ sym j.bytes_are)
turn_once st s h (StationHears a) (CarHears b) x y = let i = x.1 in absurd (i.under_way y.1)
turn_once st s h (StationHears a) TimePasses x y = let i = x.1 in absurd (i.under_way y.1)
turn_once st s h (CarHears a) (ChargerTells b) x y = absurd (not_reached s (moment h) b y.0 y.1 x.0)
turn_once st s h (CarHears a) (StationHears b) x y = let j = y.1 in absurd (j.under_way x.1)
turn_once st s h (CarHears a) (CarHears b) x y = let i = x.2 in let j = y.2 in ap CarHears (i.bytes_are ∙ sym j.bytes_are)
turn_once st s h (CarHears a) TimePasses x y = let i = x.2 in absurd (i.under_way y.2)
turn_once st s h TimePasses (ChargerTells b) x y = absurd (not_reached s (moment h) b y.0 y.1 x.0)
turn_once st s h TimePasses (StationHears b) x y = let j = y.1 in absurd (j.under_way x.1)
turn_once st s h TimePasses (CarHears b) x y = let j = y.2 in absurd (j.under_way x.2)
turn_once st s h TimePasses TimePasses x y = refl
turn_once st s h (CarComes plan) f x y = absurd x
turn_once st s h (StationDoes reading act) f x y = absurd x
turn_once st s h (CarReads w) f x y = absurd x
turn_once st s h (CarDoes act) f x y = absurd x
turn_once st s h CarGoes f x y = absurd x
turn_once st s h NumberIsDrawn f x y = absurd x
turn_once st s h e (CarComes plan) x y = absurd y
turn_once st s h e (StationDoes reading act) x y = absurd y
turn_once st s h e (CarReads w) x y = absurd y
turn_once st s h e (CarDoes act) x y = absurd y
turn_once st s h e CarGoes x y = absurd y
turn_once st s h e NumberIsDrawn x y = absurd y

turns_once : (st : Station) (h : List Happening) (e f : Happening) → MayTurn st h e → MayTurn st h f → e ≡ f
turns_once st h e f x y =
    let same : x.charger ≡ y.charger = charger_once st.post.free h x.charger y.charger x.charger_is y.charger_is in
    turn_once st y.charger h e f (subst (λ (s : Charger). IsTurn st s h e) same x.turn) y.turn

-- ---- what an end does

abbrev post_of : Station → List Happening → Post
post_of st h = record { plan = st.post; steps = station_steps h }

-- the post is alone at its site
alone : (c : Codecs) (st : Station) (h : List Happening) (r : Option Reading) (a : Act) → StationMayDo c st h r a
    → MayAct c st.limit (post_of st h ∷ []) (entry_of 1 a true) (with_step (Does r a true) (post_of st h) ∷ [])
alone c st h r a i = record {
  before = [];
  post = post_of st h;
  behind = [];
  posts_are = refl;
  first = tt;
  reading = r;
  act = a;
  taken = true;
  acts = i;
  entry_is = refl;
  later_is = refl;
}

-- what was done last
step_done : Step → Happening
step_done (Hears at event) = NumberIsDrawn
step_done (Does reading act taken) = StationDoes reading act

done_first : List Step → Happening
done_first [] = NumberIsDrawn
done_first (step ∷ steps) = step_done step

done_last : List Post → Happening
done_last [] = NumberIsDrawn
done_last (post ∷ posts) = done_first post.steps

outcome_of : (k : ℕ) (a b : Act) → outcome (entry_of k a true) ≡ outcome (entry_of k b true)
outcome_of k (Give o) (Give p) = refl
outcome_of k (Give o) (Send bytes) = refl
outcome_of k (Give o) (Answer bytes) = refl
outcome_of k (Give o) (End cause) = refl
outcome_of k (Send bytes) (Give p) = refl
outcome_of k (Send bytes) (Send others) = refl
outcome_of k (Send bytes) (Answer others) = refl
outcome_of k (Send bytes) (End cause) = refl
outcome_of k (Answer bytes) (Give p) = refl
outcome_of k (Answer bytes) (Send others) = refl
outcome_of k (Answer bytes) (Answer others) = refl
outcome_of k (Answer bytes) (End cause) = refl
outcome_of k (End cause) (Give p) = refl
outcome_of k (End cause) (Send others) = refl
outcome_of k (End cause) (Answer others) = refl
outcome_of k (End cause) (End other) = refl

does_once : (c : Codecs) → AreDetermined c → (site : SitePlan) (st : Station) (h : List Happening) (r q : Option Reading) (a b : Act) → site.limit ≡ st.limit
    → StationMayDo c st h r a → StationMayDo c st h q b → StationDoes r a ≡ StationDoes q b
unfolding done_last done_first step_done
does_once c one site st h r q a b l x y =
    let d : IsDetermined c site [] (post_of st h ∷ []) = runs_are_determined c site [] (post_of st h ∷ []) one in
    let m = subst (λ (n : ℕ). MayAct c n (post_of st h ∷ []) (entry_of 1 a true) (with_step (Does r a true) (post_of st h) ∷ [])) (sym l) (alone c st h r a x) in
    let n = subst (λ (n : ℕ). MayAct c n (post_of st h ∷ []) (entry_of 1 b true) (with_step (Does q b true) (post_of st h) ∷ [])) (sym l) (alone c st h q b y) in
    let k = d.acts (entry_of 1 a true) (entry_of 1 b true) (with_step (Does r a true) (post_of st h) ∷ []) (with_step (Does q b true) (post_of st h) ∷ []) m n (outcome_of 1 a b) in
    ap done_last k.1

-- a site with this limit
site_of : Station → SitePlan
site_of st = record { limit = st.limit; turns = 0; sessions = 0; post = record { items = [] } }

pub does_one : (c : Codecs) → AreDetermined c → (st : Station) (h : List Happening) (r q : Option Reading) (a b : Act) → StationMayDo c st h r a → StationMayDo c st h q b
    → StationDoes r a ≡ StationDoes q b
unfolding site_of
does_one c one st h r q a b x y = does_once c one (site_of st) st h r q a b refl x y

busy_by : (c : Codecs) (plan : PostPlan) (S : ℕ → ℕ → Type 0) (s : State) (r : Option Reading) (todo : states.Todo) → IsQuiet plan s → IsRead c plan S (decided plan s) (wanted (decided plan s)) r
    → first (filled plan r s).agenda ≡ Some todo → ⊥
busy_by c plan S s None todo q i f = let g : None ≡ Some todo = sym q.none ∙ f in cc
busy_by c plan S s (Some x) todo q i f = subst (λ (w : Option Payload). IsRead c plan S (decided plan s) w (Some x)) q.no_word i

pub busy : (c : Codecs) (st : Station) (h : List Happening) (r : Option Reading) (a : Act) → StationMayDo c st h r a → StationRests st h → ⊥
busy c st h r a x q = busy_by c st.post (Shows st.limit [] []) (station_state st h) r x.todo q x.read x.acts

reads_once : (cs : car.Codecs) → car_spelled.AreDetermined cs → (o : Option CarPlan) (h : List Happening) (v w : car.Judged) → CarMayReadBy cs o h v → CarMayReadBy cs o h w → CarReads v ≡ CarReads w
reads_once cs one None h v w x y = absurd x
reads_once cs one (Some plan) h v w x y =
    let d : car_determined.IsDetermined cs plan (car_state plan h) = determined cs one plan (car_state plan h) in ap CarReads (d.one_word v w x y)

acts_once : (cs : car.Codecs) → car_spelled.AreDetermined cs → (o : Option CarPlan) (h : List Happening) (a b : car_steps.Act) → CarMayDoBy cs o h a → CarMayDoBy cs o h b → CarDoes a ≡ CarDoes b
acts_once cs one None h a b x y = absurd x
acts_once cs one (Some plan) h a b x y =
    let d : car_determined.IsDetermined cs plan (car_state plan h) = determined cs one plan (car_state plan h) in ap CarDoes (d.one_act a b true true x y)

act_or_word : (cs : car.Codecs) → car_spelled.AreDetermined cs → (o : Option CarPlan) (h : List Happening) (a : car_steps.Act) (w : car.Judged) → CarMayDoBy cs o h a → CarMayReadBy cs o h w → ⊥
act_or_word cs one None h a w x y = x
act_or_word cs one (Some plan) h a w x y =
    let d : car_determined.IsDetermined cs plan (car_state plan h) = determined cs one plan (car_state plan h) in d.act_or_word a true w x y

rests_reading : (cs : car.Codecs) → car_spelled.AreDetermined cs → (o : Option CarPlan) (h : List Happening) (w : car.Judged) → CarMayReadBy cs o h w → CarRestsBy o h → ⊥
rests_reading cs one None h w x q = x
rests_reading cs one (Some plan) h w x q =
    let d : car_determined.IsDetermined cs plan (car_state plan h) = determined cs one plan (car_state plan h) in d.no_word_at_rest w q x

rests_acting : (cs : car.Codecs) → car_spelled.AreDetermined cs → (o : Option CarPlan) (h : List Happening) (a : car_steps.Act) → CarMayDoBy cs o h a → CarRestsBy o h → ⊥
rests_acting cs one None h a x q = x
rests_acting cs one (Some plan) h a x q =
    let d : car_determined.IsDetermined cs plan (car_state plan h) = determined cs one plan (car_state plan h) in d.no_act_at_rest a true q x

-- ---- what happens next

-- a turn, a deed of the station, a word or a deed of the car
pub data Kind (c : Codecs) (cs : car.Codecs) (st : Station) (h : List Happening) : Happening → Type 0 where
  OfTurn : (e : Happening) → MayTurn st h e → Kind c cs st h e
  OfStation : (r : Option Reading) (a : Act) → StationMayDo c st h r a → Kind c cs st h (StationDoes r a)
  OfWord : (w : car.Judged) → StationRests st h → CarMayReadBy cs (car_plan h) h w → Kind c cs st h (CarReads w)
  OfCar : (a : car_steps.Act) → StationRests st h → CarMayDoBy cs (car_plan h) h a → Kind c cs st h (CarDoes a)

kind_of : (c : Codecs) (cs : car.Codecs) (st : Station) (h : List Happening) (e : Happening) → IsWithin e → Follows c cs st h e → Kind c cs st h e
kind_of c cs st h (StationDoes r a) w f = OfStation r a f
kind_of c cs st h (CarReads v) w f = OfWord v f.0 f.1
kind_of c cs st h (CarDoes a) w f = OfCar a f.0 f.1
kind_of c cs st h (ChargerTells event) w f = OfTurn (ChargerTells event) f
kind_of c cs st h (StationHears bytes) w f = OfTurn (StationHears bytes) f
kind_of c cs st h (CarHears bytes) w f = OfTurn (CarHears bytes) f
kind_of c cs st h TimePasses w f = OfTurn TimePasses f
kind_of c cs st h (CarComes plan) w f = absurd (let x : false ≡ true = w in cc)
kind_of c cs st h CarGoes w f = absurd (let x : false ≡ true = w in cc)
kind_of c cs st h NumberIsDrawn w f = absurd (let x : false ≡ true = w in cc)

kinds_once : (c : Codecs) (cs : car.Codecs) → AreDetermined c → car_spelled.AreDetermined cs → (st : Station) (h : List Happening) (e f : Happening) → Kind c cs st h e → Kind c cs st h f → e ≡ f
kinds_once c cs one other st h _ _ (OfTurn e x) (OfTurn f y) = turns_once st h e f x y
kinds_once c cs one other st h _ _ (OfTurn e x) (OfStation r a y) = let q = x.rest in absurd (busy c st h r a y q.station_rests)
kinds_once c cs one other st h _ _ (OfTurn e x) (OfWord w n y) = let q = x.rest in absurd (rests_reading cs other (car_plan h) h w y q.car_rests)
kinds_once c cs one other st h _ _ (OfTurn e x) (OfCar a n y) = let q = x.rest in absurd (rests_acting cs other (car_plan h) h a y q.car_rests)
kinds_once c cs one other st h _ _ (OfStation r a x) (OfTurn f y) = let q = y.rest in absurd (busy c st h r a x q.station_rests)
kinds_once c cs one other st h _ _ (OfStation r a x) (OfStation q b y) = does_one c one st h r q a b x y
kinds_once c cs one other st h _ _ (OfStation r a x) (OfWord w n y) = absurd (busy c st h r a x n)
kinds_once c cs one other st h _ _ (OfStation r a x) (OfCar b n y) = absurd (busy c st h r a x n)
kinds_once c cs one other st h _ _ (OfWord w m x) (OfTurn f y) = let q = y.rest in absurd (rests_reading cs other (car_plan h) h w x q.car_rests)
kinds_once c cs one other st h _ _ (OfWord w m x) (OfStation r a y) = absurd (busy c st h r a y m)
kinds_once c cs one other st h _ _ (OfWord v m x) (OfWord w n y) = reads_once cs other (car_plan h) h v w x y
kinds_once c cs one other st h _ _ (OfWord w m x) (OfCar a n y) = absurd (act_or_word cs other (car_plan h) h a w y x)
kinds_once c cs one other st h _ _ (OfCar a m x) (OfTurn f y) = let q = y.rest in absurd (rests_acting cs other (car_plan h) h a x q.car_rests)
kinds_once c cs one other st h _ _ (OfCar a m x) (OfStation r b y) = absurd (busy c st h r b y m)
kinds_once c cs one other st h _ _ (OfCar a m x) (OfWord w n y) = absurd (act_or_word cs other (car_plan h) h a w x y)
kinds_once c cs one other st h _ _ (OfCar a m x) (OfCar b n y) = acts_once cs other (car_plan h) h a b x y

pub follows_once : (c : Codecs) (cs : car.Codecs) → AreDetermined c → car_spelled.AreDetermined cs → (st : Station) (h : List Happening) (e f : Happening) → IsWithin e → IsWithin f
    → Follows c cs st h e → Follows c cs st h f → e ≡ f
follows_once c cs one other st h e f v w x y = kinds_once c cs one other st h _ _ (kind_of c cs st h e v x) (kind_of c cs st h f w y)

-- where the session is over nothing more happens in it
true_false : true ≡ false → ⊥
true_false e = cc

ended_kind : (c : Codecs) (cs : car.Codecs) → car_spelled.AreDetermined cs → (st : Station) (h : List Happening) (e : Happening) → BothRest st h → is_over st h ≡ true → Kind c cs st h e → ⊥
ended_kind c cs other st h _ q o (OfTurn e x) = true_false (sym o ∙ x.goes_on)
ended_kind c cs other st h _ q o (OfStation r a x) = busy c st h r a x q.station_rests
ended_kind c cs other st h _ q o (OfWord w m x) = rests_reading cs other (car_plan h) h w x q.car_rests
ended_kind c cs other st h _ q o (OfCar a m x) = rests_acting cs other (car_plan h) h a x q.car_rests

pub ended_follows : (c : Codecs) (cs : car.Codecs) → car_spelled.AreDetermined cs → (st : Station) (h : List Happening) (e : Happening) → BothRest st h → is_over st h ≡ true → IsWithin e
    → Follows c cs st h e → ⊥
ended_follows c cs other st h e q o w f = ended_kind c cs other st h _ q o (kind_of c cs st h e w f)
