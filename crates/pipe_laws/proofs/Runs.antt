-- In every run of the pipe one message at most is under way.
use Rattle.std.proofs.Common.{◌≡◌, ℕ, zero, suc, ◌+◌, true, if◌then◌else◌, List, [], ◌∷◌, ◌++◌, ◌≤◌, length, take, drop, Option, Some, None, is_some, refl, ap, sym, subst, ◌⊎◌, inl, inr}
use Rattle.std.specs.List.{AllByRecursion}
use Rattle.v2gtp_frames.specs.Frames.{frame}
use Rattle.session_words.specs.declared.plan.CarPlan.{CarPlan}
use Rattle.session_words.specs.declared.plan.PostPlan.{PostPlan}
use Rattle.plant_sim.specs.Charger.{Charger}
use Rattle.post_spec.specs.Codecs.{Codecs}
use Rattle.post_spec.specs.Steps as post
use Rattle.post_spec.specs.Steps.{Act, Step, Reading}
use Rattle.station_spec.specs.States.{State, fresh}
use Rattle.station_spec.specs.Acting.{state, acted}
use Rattle.station_spec.specs.Hearing.{arrival, hearing}
use Rattle.post_spec.specs.Sessions.{brought}
use Rattle.car_spec.specs.Acting as car_acting
use Rattle.station_spec.specs.Judging.{filled}
use Rattle.station_spec.specs.Next.{Acts}
use Rattle.station_spec.specs.Sharing.{Shows}
use Rattle.car_spec.specs.Codecs as car_codecs
use Rattle.car_spec.specs.Steps as car_steps_of
use Rattle.car_spec.specs.States as car_states
use Rattle.car_spec.specs.Next as car_next
use Rattle.pipe_spec.specs.Histories.{Happening, CarComes, ChargerTells, StationHears, CarHears, TimePasses, StationDoes, CarReads, CarDoes, CarGoes, NumberIsDrawn, moment, joined, token, car_plan, station_ended_by, station_cause, car_ended_by, car_cause, station_steps, car_steps, station_says, car_says, to_station, to_car}
use Rattle.pipe_spec.specs.Turns.{Station, station_state, car_state, StationMayDo, CarMayReadBy, CarMayDoBy, IsTurn, MayFollow, Follows}
use Rattle.pipe_spec.specs.Runs.{IsRun}
use Rattle.pipe_laws.specs.OneMessage.{IsShort, IsRest, IsOneUnderWay}
use Rattle.pipe_laws.proofs.Messages.{carries_rest}
use Rattle.pipe_laws.proofs.Station as station
use Rattle.pipe_laws.proofs.Car as car
use Rattle.pipe_laws.proofs.Pairs.{Right, IsOfCar, IsOnTheWay, IsOfStation, IsOnTheWayBack, StationDid, station_does, gone_does, station_hears, car_hears, lost_to_car, car_reads, car_does}

abbrev pub GoneBy : Option ℕ → State → Type 0
GoneBy None s = Unit {0}
GoneBy (Some cause) s = station.IsGone s

abbrev pub EndedBy : Option ℕ → car_states.State → Type 0
EndedBy None c = Unit {0}
EndedBy (Some cause) c = car.HasEnded c

-- while a car is there
pub record Pair (most : ℕ) (s : State) (c : car_states.State) (to_s to_c : List ℕ) (station_by car_by : Option ℕ) : Type 0 where
  pub sound : station.IsSound s
  pub car_sound : car.IsSound c
  pub gone : GoneBy station_by s
  pub ended : EndedBy car_by c
  pub right : Right most s c to_s to_c

-- before the first one
pub record Before (h : List Happening) : Type 0 where
  pub steps : station_steps h ≡ []
  pub to_station_is : to_station h ≡ []
  pub to_car_is : to_car h ≡ []

abbrev pub Holds : ℕ → Station → List Happening → Option CarPlan → Type 0
Holds most st h None = Before h
Holds most st h (Some plan) = Pair most (station_state st h) (car_state plan h) (to_station h) (to_car h) (station_cause h) (car_cause h)

some_none : {A : Type 0} (a : A) → Some a ≡ None → ⊥
some_none a e = cc

-- ---- the station does something

gone_by : (cause : Option ℕ) (act : Act) (s : State) → station.EndsSo act s → GoneBy cause s → GoneBy (station_ended_by act cause) s
gone_by cause (post.End n) s e g = e
gone_by cause (post.Give o) s e g = g
gone_by cause (post.Send bytes) s e g = g
gone_by cause (post.Answer bytes) s e g = g

gone_then : (cs : Codecs) (plan : PostPlan) (S : ℕ → ℕ → Type 0) (s : State) (reading : Option Reading) (act : Act) (cause : Option ℕ) → station.IsSound s → GoneBy cause s
    → Acts cs plan S s reading act true → GoneBy cause (acted act true (filled plan reading s))
gone_then cs plan S s reading act None f g i = tt
gone_then cs plan S s reading act (Some cause) f g i = gone_does cs plan S s reading act f g i

nothing_fresh : (cs : Codecs) (plan : PostPlan) (S : ℕ → ℕ → Type 0) (reading : Option Reading) (act : Act) → Acts cs plan S fresh reading act true → ⊥
nothing_fresh cs plan S None act i = let e : None ≡ Some i.todo = i.acts in some_none i.todo (sym e)
nothing_fresh cs plan S (Some reading) act i = i.read

does : (most : ℕ) (cs : Codecs) (st : Station) (h : List Happening) (reading : Option Reading) (act : Act) (o : Option CarPlan) → most ≤ 65544 → length (station_says act) ≤ most
    → StationMayDo cs st h reading act → Holds most st h o → Holds most st (StationDoes reading act ∷ h) o
does most cs st h reading act None m l i b =
    absurd (nothing_fresh cs st.post (Shows st.limit [] []) reading act
    (subst (λ (x : List Step). Acts cs st.post (Shows st.limit [] []) (state st.post x) reading act true) b.steps i))
does most cs st h reading act (Some plan) m l i p =
    let s : State = station_state st h in
    let d : StationDid most (acted act true (filled st.post reading s)) (car_state plan h) (to_station h) (to_car h ++ station_says act) act =
    station_does most cs st.post (Shows st.limit [] []) s (car_state plan h) (to_station h) (to_car h) reading act m l p.sound p.right i in
    record {
      sound = d.sound;
      car_sound = p.car_sound;
      gone = gone_by (station_cause h) act (acted act true (filled st.post reading s)) d.ends (gone_then cs st.post (Shows st.limit [] []) s reading act (station_cause h) p.sound p.gone i);
      ended = p.ended;
      right = d.right;
    }

-- ---- the car reads and does something

ended_reads : (cs : car_codecs.Codecs) (plan : CarPlan) (c d : car_states.State) (w : car_codecs.Judged) (cause : Option ℕ) → EndedBy cause c → car_next.MayRead cs plan c w → EndedBy cause d
ended_reads cs plan c d w None e i = tt
ended_reads cs plan c d w (Some cause) e i = absurd (car.ended_reads cs plan c w e i)

reads : (most : ℕ) (cs : car_codecs.Codecs) (st : Station) (h : List Happening) (w : car_codecs.Judged) (o : Option CarPlan) → most ≤ 65544 → CarMayReadBy cs o h w → Holds most st h o
    → Holds most st (CarReads w ∷ h) o
reads most cs st h w None m i b = absurd i
reads most cs st h w (Some plan) m i p =
    let r = car_reads most cs plan (station_state st h) (car_state plan h) (to_station h) (to_car h) w m p.right i in
    record {
      sound = p.sound;
      car_sound = r.sound;
      gone = p.gone;
      ended = ended_reads cs plan (car_state plan h) (car_state plan (CarReads w ∷ h)) w (car_cause h) p.ended i;
      right = r.right;
    }

ended_by : (cs : car_codecs.Codecs) (plan : CarPlan) (c d : car_states.State) (act : car_steps_of.Act) (cause : Option ℕ) → EndedBy cause c → car_next.MayAct cs plan c act true
    → car.EndsSo act d → EndedBy (car_ended_by act cause) d
ended_by cs plan c d (car_steps_of.End n) cause e i k = k
ended_by cs plan c d (car_steps_of.Seek datagram) None e i k = tt
ended_by cs plan c d (car_steps_of.Seek datagram) (Some cause) e i k = absurd (car.ended_acts cs plan c (car_steps_of.Seek datagram) e i)
ended_by cs plan c d (car_steps_of.Dial port) None e i k = tt
ended_by cs plan c d (car_steps_of.Dial port) (Some cause) e i k = absurd (car.ended_acts cs plan c (car_steps_of.Dial port) e i)
ended_by cs plan c d (car_steps_of.Give order) None e i k = tt
ended_by cs plan c d (car_steps_of.Give order) (Some cause) e i k = absurd (car.ended_acts cs plan c (car_steps_of.Give order) e i)
ended_by cs plan c d (car_steps_of.Say spoken bytes) None e i k = tt
ended_by cs plan c d (car_steps_of.Say spoken bytes) (Some cause) e i k = absurd (car.ended_acts cs plan c (car_steps_of.Say spoken bytes) e i)

car_acts : (most : ℕ) (cs : car_codecs.Codecs) (st : Station) (h : List Happening) (act : car_steps_of.Act) (o : Option CarPlan) → length (car_says act) ≤ most → CarMayDoBy cs o h act
    → Holds most st h o → Holds most st (CarDoes act ∷ h) o
car_acts most cs st h act None l i b = absurd i
car_acts most cs st h act (Some plan) l i p =
    let d = car_does most cs plan (station_state st h) (car_state plan h) (to_station h) (to_car h) act l p.car_sound p.right i in
    record {
      sound = p.sound;
      car_sound = d.sound;
      gone = p.gone;
      ended = ended_by cs plan (car_state plan h) (car_state plan (CarDoes act ∷ h)) act (car_cause h) p.ended i d.ends;
      right = d.right;
    }

-- ---- hearings

gone_hears : (event : post.Event) (at : ℕ) (s : State) (cause : Option ℕ) → arrival event ≡ None → GoneBy cause s → GoneBy cause (hearing at event s)
gone_hears event at s None n g = tt
gone_hears event at s (Some cause) n g = station.heard_gone event at s n g

station_only : (most : ℕ) (st : Station) (s : State) (c : car_states.State) (to_s rest to_c : List ℕ) (a b : Option ℕ) (event : post.Event) (at : ℕ)
    → arrival event ≡ None → to_s ≡ brought event ++ rest → Pair most s c to_s to_c a b
    → Pair most (hearing at event s) c rest to_c a b
station_only most st s c to_s rest to_c a b event at n e p = record {
  sound = station.heard_sound event at s n;
  car_sound = p.car_sound;
  gone = gone_hears event at s a n p.gone;
  ended = p.ended;
  right = station_hears most event at s c to_s rest to_c n e p.right;
}

-- a piece is the front of what is under way
piece_is : (n : ℕ) (way : List ℕ) → way ≡ take n way ++ drop (length (take n way)) way
piece_is zero way = refl
piece_is (suc n) [] = refl
piece_is (suc n) (x ∷ way) = ap (λ (xs : List ℕ). x ∷ xs) (piece_is n way)

pub piece_by : (n : ℕ) (way bytes : List ℕ) → bytes ≡ take n way → way ≡ bytes ++ drop (length bytes) way
piece_by n way bytes e = subst (λ (x : List ℕ). way ≡ x ++ drop (length x) way) (sym e) (piece_is n way)

-- what a car hears, unless it has ended
heard_so : (most : ℕ) (s : State) (plan : CarPlan) (steps : List car_steps_of.Step) (to_s to_c rest : List ℕ) (a b : Option ℕ) (event : post.Event) (at : ℕ)
    → car.IsPieceOrClock event → to_c ≡ brought event ++ rest
    → Pair most s (car_acting.state plan steps) to_s to_c a b
    → Pair most s (car_acting.state plan (if is_some b then steps else car_steps_of.Hears at event ∷ steps)) to_s rest a b
heard_so most s plan steps to_s to_c rest a None event at n e p = record {
  sound = p.sound;
  car_sound = car.heard_sound event at (car_acting.state plan steps) n;
  gone = p.gone;
  ended = tt;
  right = car_hears most event at s (car_acting.state plan steps) to_s to_c rest n e p.right;
}
heard_so most s plan steps to_s to_c rest a (Some cause) event at n e p = record {
  sound = p.sound;
  car_sound = p.car_sound;
  gone = p.gone;
  ended = p.ended;
  right = let x = p.ended in lost_to_car most s (car_acting.state plan steps) to_s to_c (brought event) rest x.session e p.right;
}

-- ---- a car comes

gone_if : (cause : Option ℕ) (s : State) → is_some cause ≡ true → GoneBy cause s → station.IsGone s
gone_if None s e g = cc
gone_if (Some cause) s e g = g

gone_before : (most : ℕ) (st : Station) (h : List Happening) (o : Option CarPlan) → ((o ≡ None) ⊎ MayFollow st h) → Holds most st h o → station.IsGone (station_state st h)
gone_before most st h None i b = subst (λ (x : List Step). station.IsGone (state st.post x)) (sym b.steps) (refl, refl)
gone_before most st h (Some plan) (inl e) p = absurd (some_none plan e)
gone_before most st h (Some plan) (inr f) p = gone_if (station_cause h) (station_state st h) f.ended p.gone

comes : (most : ℕ) (st : Station) (h : List Happening) (plan : CarPlan) → station.IsGone (station_state st h) → Holds most st (CarComes plan ∷ h) (Some (joined plan))
comes most st h plan g =
    let k : station.HasCome (hearing (moment h) (post.Came token) (station_state st h)) = station.come token (moment h) (station_state st h) g in
    record {
      sound = k.sound;
      car_sound = record { spoken = tt; came = tt };
      gone = tt;
      ended = tt;
      right = IsOfCar refl refl k.read refl k.silent;
    }

-- ---- all that may happen

turned : (most : ℕ) (st : Station) (h : List Happening) (e : Happening) (o : Option CarPlan) (plan : CarPlan) (charger : Charger) → o ≡ Some plan → IsTurn st charger h e
    → Holds most st h o → Holds most st (e ∷ h) o
turned most st h e None plan charger c t p = absurd (some_none plan (sym c))
turned most st h (ChargerTells event) (Some own) plan charger c t p =
    station_only most st (station_state st h) (car_state own h) (to_station h) (to_station h) (to_car h) (station_cause h) (car_cause h) (post.Plant event) (moment h) refl refl p
turned most st h (StationHears bytes) (Some own) plan charger c t p =
    let i = t.1 in
    station_only most st (station_state st h) (car_state own h) (to_station h) (drop (length bytes) (to_station h)) (to_car h) (station_cause h) (car_cause h) (post.Bytes bytes) (moment h) refl
    (piece_by _ (to_station h) bytes i.bytes_are) p
turned most st h (CarHears bytes) (Some own) plan charger c t p =
    let i = t.2 in
    heard_so most (station_state st h) own (car_steps h) (to_station h) (to_car h) (drop (length bytes) (to_car h)) (station_cause h) (car_cause h) (post.Bytes bytes) (moment h) tt
    (piece_by _ (to_car h) bytes i.bytes_are) p
turned most st h TimePasses (Some own) plan charger c t p =
    heard_so most (hearing (moment h + 10) post.Clock (station_state st h)) own (car_steps h) (to_station h) (to_car h) (to_car h) (station_cause h) (car_cause h) post.Clock (moment h + 10) tt refl
    (station_only most st (station_state st h) (car_state own h) (to_station h) (to_station h) (to_car h) (station_cause h) (car_cause h) post.Clock (moment h + 10) refl refl p)
turned most st h (CarComes other) (Some own) plan charger c t p = absurd t
turned most st h (StationDoes reading act) (Some own) plan charger c t p = absurd t
turned most st h (CarReads w) (Some own) plan charger c t p = absurd t
turned most st h (CarDoes act) (Some own) plan charger c t p = absurd t
turned most st h CarGoes (Some own) plan charger c t p = absurd t
turned most st h NumberIsDrawn (Some own) plan charger c t p = absurd t

goes : (most : ℕ) (st : Station) (h : List Happening) (o : Option CarPlan) (plan : CarPlan) → o ≡ Some plan → Holds most st h o → Holds most st (CarGoes ∷ h) o
goes most st h None plan c p = absurd (some_none plan (sym c))
goes most st h (Some own) plan c p =
    station_only most st (station_state st h) (car_state own h) (to_station h) (to_station h) (to_car h) (station_cause h) (car_cause h) post.Gone (moment h) refl refl p

draws_one : (most : ℕ) (st : Station) (h : List Happening) (o : Option CarPlan) → Holds most st h o → Holds most st (NumberIsDrawn ∷ h) o
draws_one most st h None b = record { steps = b.steps; to_station_is = b.to_station_is; to_car_is = b.to_car_is }
draws_one most st h (Some plan) p = p

step : (most : ℕ) (c : Codecs) (ccs : car_codecs.Codecs) (st : Station) (h : List Happening) (e : Happening) → most ≤ 65544 → IsShort most e → Follows c ccs st h e → Holds most st h (car_plan h)
    → Holds most st (e ∷ h) (car_plan (e ∷ h))
step most c ccs st h (CarComes plan) m l f p = comes most st h plan (gone_before most st h (car_plan h) f p)
step most c ccs st h (StationDoes reading act) m l f p = does most c st h reading act (car_plan h) m l f p
step most c ccs st h (CarReads w) m l f p = reads most ccs st h w (car_plan h) m f.1 p
step most c ccs st h (CarDoes act) m l f p = car_acts most ccs st h act (car_plan h) l f.1 p
step most c ccs st h CarGoes m l f p = goes most st h (car_plan h) f.plan f.came p
step most c ccs st h NumberIsDrawn m l f p = draws_one most st h (car_plan h) p
step most c ccs st h (ChargerTells event) m l f p = turned most st h (ChargerTells event) (car_plan h) f.plan f.charger f.came f.turn p
step most c ccs st h (StationHears bytes) m l f p = turned most st h (StationHears bytes) (car_plan h) f.plan f.charger f.came f.turn p
step most c ccs st h (CarHears bytes) m l f p = turned most st h (CarHears bytes) (car_plan h) f.plan f.charger f.came f.turn p
step most c ccs st h TimePasses m l f p = turned most st h TimePasses (car_plan h) f.plan f.charger f.came f.turn p

pub holds : (most : ℕ) (c : Codecs) (ccs : car_codecs.Codecs) (st : Station) (h : List Happening) → most ≤ 65544 → IsRun c ccs st h → AllByRecursion (IsShort most) h → Holds most st h (car_plan h)
holds most c ccs st [] m r l = record { steps = refl; to_station_is = refl; to_car_is = refl }
holds most c ccs st (e ∷ h) m r l = step most c ccs st h e m l.0 r.1 (holds most c ccs st h m r.0 l.1)

no_rest : (most : ℕ) → 8 ≤ most → IsRest most []
no_rest most m = record { payload = []; front = frame []; frame_is = refl; short = m }

right_one : (most : ℕ) (s : State) (c : car_states.State) (to_s to_c : List ℕ) → 8 ≤ most → Right most s c to_s to_c → (IsRest most to_s × (to_c ≡ [])) ⊎ ((to_s ≡ []) × IsRest most to_c)
right_one most s c to_s to_c m (IsOfCar a b u v q) = inl (subst (IsRest most) (sym a) (no_rest most m), b)
right_one most s c to_s to_c m (IsOnTheWay b v q p w) = inl (carries_rest most (station.unread s) to_s w, b)
right_one most s c to_s to_c m (IsOfStation a b u v p) = inl (subst (IsRest most) (sym a) (no_rest most m), b)
right_one most s c to_s to_c m (IsOnTheWayBack a u q p w) = inr (a, carries_rest most (car.unread c) to_c w)

one_by : (most : ℕ) (st : Station) (h : List Happening) (o : Option CarPlan) → 8 ≤ most → Holds most st h o → IsOneUnderWay most h
one_by most st h None m b = inl (subst (IsRest most) (sym b.to_station_is) (no_rest most m), b.to_car_is)
one_by most st h (Some plan) m p = right_one most (station_state st h) (car_state plan h) (to_station h) (to_car h) m p.right

pub one_is_under_way : (c : Codecs) (ccs : car_codecs.Codecs) (most : ℕ) (st : Station) (h : List Happening) → 8 ≤ most → most ≤ 65544 → IsRun c ccs st h → AllByRecursion (IsShort most) h
    → IsOneUnderWay most h
one_is_under_way c ccs most st h m n r l = one_by most st h (car_plan h) m (holds most c ccs st h n r l)
