-- What the car has read is gone, so behind a word it reads no other before it hears more.
use Rattle.std.proofs.Common.{◌≡◌, ℕ, suc, ◌+◌, ◌<◌, ◌≤◌, Bool, true, false, ◌&&◌, ◌||◌, nat_le, if◌then◌else◌, List, [], ◌∷◌, Option, Some, None, is_some, refl, ap, sym, subst, ◌∙◌, inl, inr, arith}
use Rattle.std.proofs.lemmas.Grind.{common_steps}
use Rattle.std.specs.List.{AllByRecursion}
use Rattle.session_words.specs.declared.plan.CarPlan.{CarPlan}
use Rattle.post_spec.specs.Codecs.{Codecs}
use Rattle.post_spec.specs.Steps as post
use Rattle.station_spec.specs.Report.{one_if}
use Rattle.station_spec.specs.States.{State}
use Rattle.car_spec.specs.Codecs as car_codecs
use Rattle.car_spec.specs.Deciding as car_deciding
use Rattle.car_spec.specs.Judging as car_judging
use Rattle.car_spec.specs.Acting as car_acting
use Rattle.car_spec.specs.Next as car_next
use Rattle.car_spec.specs.States as car_states
use Rattle.car_spec.specs.Steps as car_steps_of
use Rattle.plant_sim.specs.Charger.{Charger}
use Rattle.pipe_spec.specs.Histories.{Happening, CarComes, ChargerTells, StationHears, CarHears, TimePasses, StationDoes, CarReads, CarDoes, CarGoes, NumberIsDrawn, moment, joined, car_plan, car_cause, station_hearings, car_hearings, car_has_ended, station_has_ended, car_steps, to_station, to_car}
use Rattle.pipe_spec.specs.Counts.{is_reply, exchanges}
use Rattle.pipe_spec.specs.Turns.{Station, station_state, car_state, car_is_spent, is_over, CarMayReadBy, CarMayDoBy, IsTurn, Follows}
use Rattle.pipe_spec.specs.Runs.{IsRun}
use Rattle.pipe_laws.specs.OneMessage.{IsShort}
use Rattle.pipe_laws.specs.Words.{words, OneWordAHearing, HearsWithinTurns, ExchangesAreWithinTurns}
use Rattle.pipe_laws.proofs.Messages.{HasRead, Loses}
use Rattle.pipe_laws.proofs.Car as car
use Rattle.pipe_laws.proofs.Pairs.{Right, IsOfCar, IsOnTheWay, IsOfStation, IsOnTheWayBack, car_decided_right}
use Rattle.pipe_laws.proofs.Runs.{Holds, holds}

some_none : {A : Type 0} (a : A) → Some a ≡ None → ⊥
some_none a e = cc

-- whether a word may still be in what is unread
abbrev pub open_in : List ℕ → ℕ
open_in [] = 0
open_in (byte ∷ bytes) = 1

abbrev pub may_read : Option (List ℕ) → ℕ
may_read None = 0
may_read (Some unread) = open_in unread

one_at_most : (o : Option (List ℕ)) → may_read o ≤ 1
one_at_most None = omega arith
one_at_most (Some []) = omega arith
one_at_most (Some (byte ∷ bytes)) = omega arith

none_left : (o : Option (List ℕ)) → HasRead o → may_read o ≡ 0
none_left None r = refl
none_left (Some unread) r = ap open_in r

has_read : (o : Option (List ℕ)) → may_read o ≡ 0 → HasRead o
has_read None e = tt
has_read (Some []) e = refl
has_read (Some (byte ∷ bytes)) e = let n : 1 ≡ 0 = e in absurd (omega (arith, n))

loses_no_more : (o p : Option (List ℕ)) → Loses o p → may_read p ≤ may_read o
loses_no_more o p (inl e) = let same : may_read p ≡ may_read o = ap may_read e in omega (arith, same)
loses_no_more o p (inr e) = let none : may_read p ≡ 0 = ap may_read e in omega (arith, none)

-- of a car's session: the words that it read, one that it may read now, and the hearing in which it came
abbrev pub Fits : ℕ → ℕ → car_states.State → Type 0
Fits read heard c = read + may_read (car.unread c) < heard

-- ---- a word

behind_word : (most : ℕ) (cs : car_codecs.Codecs) (plan : CarPlan) (s : State) (c : car_states.State) (to_s to_c : List ℕ) (w : car_codecs.Judged) → most ≤ 65544
    → car_judging.IsRead cs plan (car_judging.wanted c) w → Right most s c to_s to_c → HasRead (car.unread (car_judging.read plan c w))
behind_word most cs plan s c to_s to_c w m r (IsOfCar a b u v q) = absurd (car.reads_nothing cs plan c w v r)
behind_word most cs plan s c to_s to_c w m r (IsOnTheWay b v q p x) = absurd (car.reads_nothing cs plan c w v r)
behind_word most cs plan s c to_s to_c w m r (IsOfStation a b u v p) = absurd (car.reads_nothing cs plan c w v r)
behind_word most cs plan s c to_s to_c w m r (IsOnTheWayBack a u q p x) =
    let i = car.word_read most plan c w to_c m (car.word_of cs plan c w r) x in let all = i.read in all.1

was_open : (o : Option (List ℕ)) → (HasRead o → ⊥) → may_read o ≡ 1
was_open None n = absurd (n tt)
was_open (Some []) n = absurd (n refl)
was_open (Some (byte ∷ bytes)) n = refl

reads_one : (most : ℕ) (cs : car_codecs.Codecs) (plan : CarPlan) (s : State) (c : car_states.State) (to_s to_c : List ℕ) (w : car_codecs.Judged) (read heard : ℕ) → most ≤ 65544
    → car_next.MayRead cs plan c w → Right most s c to_s to_c → Fits read heard c → Fits (suc read) heard (car_judging.read plan (car_deciding.decided plan c) w)
reads_one most cs plan s c to_s to_c w read heard m i r f =
    let d : car_states.State = car_deciding.decided plan c in
    let same : car.unread d ≡ car.unread c = car.decided_unread plan c in
    let before : may_read (car.unread c) ≡ 1 = ap may_read (sym same) ∙ was_open (car.unread d) (λ u. car.reads_nothing cs plan d w u i) in
    let behind : may_read (car.unread (car_judging.read plan d w)) ≡ 0 =
    none_left _ (behind_word most cs plan s d to_s to_c w m i (car_decided_right most plan s c to_s to_c r)) in
    omega (arith, f, before, behind)

-- ---- an act, a hearing

does_one : (cs : car_codecs.Codecs) (plan : CarPlan) (c : car_states.State) (act : car_steps_of.Act) (read heard : ℕ) → car.IsSound c → car_next.MayAct cs plan c act true → Fits read heard c
    → Fits read heard (car_acting.acted act true (car_deciding.decided plan c))
does_one cs plan c act read heard k i f =
    let d : car_states.State = car_deciding.decided plan c in
    let done : car.Done d act = car.done_by cs plan d i.todo act (car.decided_sound plan c k) i.acts i.done in
    let same : may_read (car.unread d) ≡ may_read (car.unread c) = ap may_read (car.decided_unread plan c) in
    let less : may_read (car.unread (car_acting.acted act true d)) ≤ may_read (car.unread d) = loses_no_more (car.unread d) _ done.keeps in
    omega (arith, f, same, less)

hears_one : (plan : CarPlan) (steps : List car_steps_of.Step) (read heard : ℕ) (cause : Option ℕ) (event : post.Event) (at : ℕ) → Fits read heard (car_acting.state plan steps)
    → Fits read (if is_some cause then heard else suc heard) (car_acting.state plan (if is_some cause then steps else car_steps_of.Hears at event ∷ steps))
hears_one plan steps read heard None event at f =
    let one : may_read (car.unread (car_acting.state plan (car_steps_of.Hears at event ∷ steps))) ≤ 1 = one_at_most _ in
    omega (arith, f, one)
hears_one plan steps read heard (Some cause) event at f = f

-- ---- all that may happen

abbrev pub FitsBy : Option CarPlan → List Happening → Type 0
FitsBy None h = Unit {0}
FitsBy (Some plan) h = Fits (words h) (car_hearings h) (car_state plan h)

reads : (most : ℕ) (cs : car_codecs.Codecs) (st : Station) (h : List Happening) (w : car_codecs.Judged) (o : Option CarPlan) → most ≤ 65544 → CarMayReadBy cs o h w → Holds most st h o → FitsBy o h
    → FitsBy o (CarReads w ∷ h)
reads most cs st h w None m i p f = tt
reads most cs st h w (Some plan) m i p f =
    reads_one most cs plan (station_state st h) (car_state plan h) (to_station h) (to_car h) w (words h) (car_hearings h) m i p.right f

does : (most : ℕ) (cs : car_codecs.Codecs) (st : Station) (h : List Happening) (act : car_steps_of.Act) (o : Option CarPlan) → CarMayDoBy cs o h act → Holds most st h o → FitsBy o h
    → FitsBy o (CarDoes act ∷ h)
does most cs st h act None i p f = tt
does most cs st h act (Some plan) i p f = does_one cs plan (car_state plan h) act (words h) (car_hearings h) p.car_sound i f

turned : (st : Station) (h : List Happening) (e : Happening) (o : Option CarPlan) (charger : Charger) → IsTurn st charger h e → FitsBy o h → FitsBy o (e ∷ h)
turned st h e None charger t f = tt
turned st h (ChargerTells event) (Some plan) charger t f = f
turned st h (StationHears bytes) (Some plan) charger t f = f
turned st h (CarHears bytes) (Some plan) charger t f = hears_one plan (car_steps h) (words h) (car_hearings h) (car_cause h) (post.Bytes bytes) (moment h) f
turned st h TimePasses (Some plan) charger t f = hears_one plan (car_steps h) (words h) (car_hearings h) (car_cause h) post.Clock (moment h + 10) f
turned st h (CarComes other) (Some plan) charger t f = absurd t
turned st h (StationDoes reading act) (Some plan) charger t f = absurd t
turned st h (CarReads w) (Some plan) charger t f = absurd t
turned st h (CarDoes act) (Some plan) charger t f = absurd t
turned st h CarGoes (Some plan) charger t f = absurd t
turned st h NumberIsDrawn (Some plan) charger t f = absurd t

station_does : (h : List Happening) (reading : Option post.Reading) (act : post.Act) (o : Option CarPlan) → FitsBy o h → FitsBy o (StationDoes reading act ∷ h)
station_does h reading act None f = tt
station_does h reading act (Some plan) f = f

goes : (h : List Happening) (o : Option CarPlan) → FitsBy o h → FitsBy o (CarGoes ∷ h)
goes h None f = tt
goes h (Some plan) f = f

draws_one : (h : List Happening) (o : Option CarPlan) → FitsBy o h → FitsBy o (NumberIsDrawn ∷ h)
draws_one h None f = tt
draws_one h (Some plan) f = f

comes : (h : List Happening) (plan : CarPlan) → FitsBy (Some (joined plan)) (CarComes plan ∷ h)
comes h plan = omega arith

step : (most : ℕ) (c : Codecs) (cs : car_codecs.Codecs) (st : Station) (h : List Happening) (e : Happening) → most ≤ 65544 → Follows c cs st h e → Holds most st h (car_plan h) → FitsBy (car_plan h) h
    → FitsBy (car_plan (e ∷ h)) (e ∷ h)
step most c cs st h (CarComes plan) m f p k = comes h plan
step most c cs st h (StationDoes reading act) m f p k = station_does h reading act (car_plan h) k
step most c cs st h (CarReads w) m f p k = reads most cs st h w (car_plan h) m f.1 p k
step most c cs st h (CarDoes act) m f p k = does most cs st h act (car_plan h) f.1 p k
step most c cs st h CarGoes m f p k = goes h (car_plan h) k
step most c cs st h NumberIsDrawn m f p k = draws_one h (car_plan h) k
step most c cs st h (ChargerTells event) m f p k = turned st h (ChargerTells event) (car_plan h) f.charger f.turn k
step most c cs st h (StationHears bytes) m f p k = turned st h (StationHears bytes) (car_plan h) f.charger f.turn k
step most c cs st h (CarHears bytes) m f p k = turned st h (CarHears bytes) (car_plan h) f.charger f.turn k
step most c cs st h TimePasses m f p k = turned st h TimePasses (car_plan h) f.charger f.turn k

fits : (most : ℕ) (c : Codecs) (cs : car_codecs.Codecs) (st : Station) (h : List Happening) → most ≤ 65544 → IsRun c cs st h → AllByRecursion (IsShort most) h → FitsBy (car_plan h) h
fits most c cs st [] m r l = tt
fits most c cs st (e ∷ h) m r l = step most c cs st h e m r.1 (holds most c cs st h m r.0 l.1) (fits most c cs st h m r.0 l.1)

pub one_word_a_hearing : (c : Codecs) (cs : car_codecs.Codecs) → OneWordAHearing c cs
one_word_a_hearing c cs most st plan h m r l e =
    let f : Fits (words h) (car_hearings h) (car_state plan h) = subst (λ (o : Option CarPlan). FitsBy o h) e (fits most c cs st h m r l) in
    omega (arith, f)

-- ---- the turns of the car's plan

not_spent : (a b c d : Bool) → (a || b || c || d) ≡ false → c ≡ false
not_spent true b c d e = cc
not_spent false true c d e = cc
not_spent false false true d e = cc
not_spent false false false d e = refl

more_turns : (turns heard : ℕ) → nat_le turns heard ≡ false → heard < turns
more_turns turns heard e = grind (arith, common_steps)

-- within the turns of a car that has some
abbrev pub WithinTurns : Option CarPlan → ℕ → Type 0
WithinTurns None heard = Unit {0}
WithinTurns (Some plan) heard = 1 ≤ plan.turns → heard ≤ plan.turns

one_more : (o : Option CarPlan) (h : List Happening) (heard : ℕ) (cause : Option ℕ) → car_is_spent o h ≡ false → heard ≡ car_hearings h → WithinTurns o heard
    → WithinTurns o (if is_some cause then heard else suc heard)
one_more None h heard cause e same w = tt
one_more (Some plan) h heard (Some cause) e same w = w
one_more (Some plan) h heard None e same w =
    λ some. let less : car_hearings h < plan.turns = more_turns plan.turns (car_hearings h) e in omega (arith, less, same)

spent_not : (st : Station) (h : List Happening) → is_over st h ≡ false → car_is_spent (car_plan h) h ≡ false
spent_not st h e = not_spent (station_has_ended h && car_has_ended h) (nat_le st.turns (station_hearings h)) (car_is_spent (car_plan h) h) _ e

turns_step : (c : Codecs) (cs : car_codecs.Codecs) (st : Station) (h : List Happening) (e : Happening) → Follows c cs st h e → WithinTurns (car_plan h) (car_hearings h)
    → WithinTurns (car_plan (e ∷ h)) (car_hearings (e ∷ h))
turns_step c cs st h (CarComes plan) f w = λ some. some
turns_step c cs st h (StationDoes reading act) f w = w
turns_step c cs st h (CarReads judged) f w = w
turns_step c cs st h (CarDoes act) f w = w
turns_step c cs st h CarGoes f w = w
turns_step c cs st h NumberIsDrawn f w = w
turns_step c cs st h (ChargerTells event) f w = w
turns_step c cs st h (StationHears bytes) f w = w
turns_step c cs st h (CarHears bytes) f w = one_more (car_plan h) h (car_hearings h) (car_cause h) (spent_not st h f.goes_on) refl w
turns_step c cs st h TimePasses f w = one_more (car_plan h) h (car_hearings h) (car_cause h) (spent_not st h f.goes_on) refl w

within_turns : (c : Codecs) (cs : car_codecs.Codecs) (st : Station) (h : List Happening) → IsRun c cs st h → WithinTurns (car_plan h) (car_hearings h)
within_turns c cs st [] r = tt
within_turns c cs st (e ∷ h) r = turns_step c cs st h e r.1 (within_turns c cs st h r.0)

pub hears_within_turns : (c : Codecs) (cs : car_codecs.Codecs) → HearsWithinTurns c cs
hears_within_turns c cs st plan h r e some = subst (λ (o : Option CarPlan). WithinTurns o (car_hearings h)) e (within_turns c cs st h r) some

-- ---- exchanges

one_if_most : (b : Bool) → one_if b ≤ 1
one_if_most true = omega arith
one_if_most false = omega arith

exchanges_are_words : (h : List Happening) → exchanges h ≤ words h
exchanges_are_words [] = omega arith
exchanges_are_words (CarComes plan ∷ h) = omega arith
exchanges_are_words (CarReads judged ∷ h) = let one = one_if_most (is_reply judged) in let less = exchanges_are_words h in omega (arith, one, less)
exchanges_are_words (ChargerTells event ∷ h) = exchanges_are_words h
exchanges_are_words (StationHears bytes ∷ h) = exchanges_are_words h
exchanges_are_words (CarHears bytes ∷ h) = exchanges_are_words h
exchanges_are_words (TimePasses ∷ h) = exchanges_are_words h
exchanges_are_words (StationDoes reading act ∷ h) = exchanges_are_words h
exchanges_are_words (CarDoes act ∷ h) = exchanges_are_words h
exchanges_are_words (CarGoes ∷ h) = exchanges_are_words h
exchanges_are_words (NumberIsDrawn ∷ h) = exchanges_are_words h

pub exchanges_are_within_turns : (c : Codecs) (cs : car_codecs.Codecs) → ExchangesAreWithinTurns c cs
exchanges_are_within_turns c cs most st plan h m r l e some =
    let words_are : words h < car_hearings h = one_word_a_hearing c cs most st plan h m r l e in
    let heard : car_hearings h ≤ plan.turns = hears_within_turns c cs st plan h r e some in
    let few : exchanges h ≤ words h = exchanges_are_words h in
    omega (arith, words_are, heard, few)
