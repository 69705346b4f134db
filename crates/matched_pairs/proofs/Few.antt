-- The hearings of a first session are few: they are pieces of messages, events of the charger and ticks of the clock.
use Rattle.std.proofs.Common.{◌≡◌, ℕ, suc, ◌+◌, ◌*◌, ◌<◌, ◌≤◌, true, false, if◌then◌else◌, List, [], ◌∷◌, length, Option, Some, None, is_some, refl, ap, sym, subst, arith}
use Rattle.std.specs.List.{AllByRecursion}
use Rattle.session_words.specs.declared.plan.CarPlan.{CarPlan}
use Rattle.session_words.specs.Plans.{IsCarPlan}
use Rattle.post_spec.specs.Codecs as post
use Rattle.station_spec.specs.Report.{one_if}
use Rattle.car_spec.specs.Codecs as car
use Rattle.plant_sim.specs.Charger.{Charger}
use Rattle.pipe_spec.specs.Histories.{Happening, CarComes, ChargerTells, StationHears, CarHears, TimePasses, StationDoes, CarReads, CarDoes, CarGoes, NumberIsDrawn, moment, joined, ported, car_cause, station_hearings, car_hearings, to_station, to_car}
use Rattle.pipe_spec.specs.Counts.{is_reply, exchanges, IsOkReply, IsOk}
use Rattle.pipe_spec.specs.Turns.{Station}
use Rattle.pipe_spec.specs.Runs.{IsRun, IsWithin}
use Rattle.pipe_laws.specs.OneMessage.{IsShort}
use Rattle.pipe_laws.specs.Words.{words}
use Rattle.pair_words.specs.Meeting.{ArePaired}
use Rattle.matched_pairs.specs.Moves.{IsPair}
use Rattle.matched_pairs.specs.Courses.{GoesWell}
use Rattle.matched_pairs.specs.Power.{AllKeepTime}
use Rattle.matched_pairs.specs.Steps.{AllKeepSteps}
use Rattle.matched_pairs.specs.Few.{AreFew, HearingsAreFew}
use Rattle.matched_pairs.proofs.Held.{Known}
use Rattle.matched_pairs.proofs.Paces.{front, seen, known}
use Rattle.matched_pairs.proofs.Deadlines.{kept_in}
use Rattle.matched_pairs.proofs.Said.{asked, answered, requests, AreFewSaid, said, few_said}
use Rattle.matched_pairs.proofs.Pieces.{pieces, car_pieces, ArePieces, are_pieces}
use Rattle.matched_pairs.proofs.Tells.{told, orders, coming, HasTold, has_told}
use Rattle.matched_pairs.proofs.Lasts.{Lasts, lasts}

true_false : true ≡ false → ⊥
true_false e = cc

-- ---- the hearings, counted

abbrev pub ticks : List Happening → ℕ
ticks [] = 0
ticks (TimePasses ∷ h) = suc (ticks h)
ticks (other ∷ h) = ticks h

pub record AreCounted (h : List Happening) : Type 0 where
  pub station : station_hearings h ≡ suc (told h + pieces h + ticks h)
  pub car : car_hearings h ≤ suc (car_pieces h + ticks h)
  pub time : moment h ≡ 10 * ticks h

one_told : (n told pieces ticks : ℕ) → n ≡ suc (told + pieces + ticks) → suc n ≡ suc (suc told + pieces + ticks)
one_told n told pieces ticks e = omega (arith, e)

one_piece : (n told pieces ticks : ℕ) → n ≡ suc (told + pieces + ticks) → suc n ≡ suc (told + suc pieces + ticks)
one_piece n told pieces ticks e = omega (arith, e)

one_tick : (n told pieces ticks : ℕ) → n ≡ suc (told + pieces + ticks) → suc n ≡ suc (told + pieces + suc ticks)
one_tick n told pieces ticks e = omega (arith, e)

ten_more : (now ticks : ℕ) → now ≡ 10 * ticks → now + 10 ≡ 10 * suc ticks
ten_more now ticks e = omega (arith, e)

car_piece : (cause : Option ℕ) (n pieces ticks : ℕ) → n ≤ suc (pieces + ticks) → (if is_some cause then n else suc n) ≤ suc (suc pieces + ticks)
car_piece None n pieces ticks l = omega (arith, l)
car_piece (Some number) n pieces ticks l = omega (arith, l)

car_tick : (cause : Option ℕ) (n pieces ticks : ℕ) → n ≤ suc (pieces + ticks) → (if is_some cause then n else suc n) ≤ suc (pieces + suc ticks)
car_tick None n pieces ticks l = omega (arith, l)
car_tick (Some number) n pieces ticks l = omega (arith, l)

step : (h : List Happening) (e : Happening) → IsWithin e → AreCounted h → AreCounted (e ∷ h)
step h (ChargerTells event) i k = record { station = one_told (station_hearings h) (told h) (pieces h) (ticks h) k.station; car = k.car; time = k.time }
step h (StationHears bytes) i k = record { station = one_piece (station_hearings h) (told h) (pieces h) (ticks h) k.station; car = k.car; time = k.time }
step h (CarHears bytes) i k = record { station = k.station; car = car_piece (car_cause h) (car_hearings h) (car_pieces h) (ticks h) k.car; time = k.time }
step h TimePasses i k = record {
  station = one_tick (station_hearings h) (told h) (pieces h) (ticks h) k.station;
  car = car_tick (car_cause h) (car_hearings h) (car_pieces h) (ticks h) k.car;
  time = ten_more (moment h) (ticks h) k.time;
}
step h (StationDoes reading act) i k = record { station = k.station; car = k.car; time = k.time }
step h (CarReads word) i k = record { station = k.station; car = k.car; time = k.time }
step h (CarDoes act) i k = record { station = k.station; car = k.car; time = k.time }
step h (CarComes other) i k = absurd (true_false (sym i))
step h CarGoes i k = absurd (true_false (sym i))
step h NumberIsDrawn i k = absurd (true_false (sym i))

counted : (plan : CarPlan) (session : List Happening) → AllByRecursion IsWithin session → AreCounted (front plan session)
counted plan [] w = record { station = refl; car = omega arith; time = refl }
counted plan (e ∷ session) w = step (front plan session) e w.0 (counted plan session w.1)

-- ---- the words that a car reads are replies

ok_replies : (w : car.Judged) → IsOkReply w → is_reply w ≡ true
ok_replies (car.Chosen None) k = absurd k
ok_replies (car.Chosen (Some dialect)) k = refl
ok_replies (car.Told reply) k = refl
ok_replies car.WrongSide k = absurd k
ok_replies car.Refused k = absurd k

one_word : (words exchanges one : ℕ) → one ≡ 1 → words ≤ exchanges → suc words ≤ one + exchanges
one_word words exchanges one e l = omega (arith, e, l)

words_are : (h : List Happening) → AllByRecursion IsOk h → words h ≤ exchanges h
words_are [] k = omega arith
words_are (CarComes plan ∷ h) k = omega arith
words_are (CarReads word ∷ h) k = one_word (words h) (exchanges h) (one_if (is_reply word)) (ap one_if (ok_replies word k.0)) (words_are h k.1)
words_are (ChargerTells event ∷ h) k = words_are h k.1
words_are (StationHears bytes ∷ h) k = words_are h k.1
words_are (CarHears bytes ∷ h) k = words_are h k.1
words_are (TimePasses ∷ h) k = words_are h k.1
words_are (StationDoes reading act ∷ h) k = words_are h k.1
words_are (CarDoes act ∷ h) k = words_are h k.1
words_are (CarGoes ∷ h) k = words_are h k.1
words_are (NumberIsDrawn ∷ h) k = words_are h k.1

-- ---- messages that are short

longer : (n : ℕ) → n ≤ 1032 → n ≤ 65544
longer n l = omega (arith, l)

one_short : (e : Happening) → IsShort 1032 e → IsShort 65544 e
one_short (StationDoes reading act) l = longer _ l
one_short (CarDoes act) l = longer _ l
one_short (CarComes plan) l = tt
one_short (ChargerTells event) l = tt
one_short (StationHears bytes) l = tt
one_short (CarHears bytes) l = tt
one_short TimePasses l = tt
one_short (CarReads word) l = tt
one_short CarGoes l = tt
one_short NumberIsDrawn l = tt

pub all_short : (h : List Happening) → AllByRecursion (IsShort 1032) h → AllByRecursion (IsShort 65544) h
all_short [] l = tt
all_short (e ∷ h) l = (one_short e l.0, all_short h l.1)

-- ---- so they are few

-- at most 40,064 exchanges
few_words : (cycles exchanges words : ℕ) → cycles ≤ 10000 → exchanges ≤ 64 + 4 * cycles → words ≤ exchanges → words ≤ 40064
few_words cycles exchanges words c e w = omega (arith, c, e, w)

few_pieces : (heard way said words : ℕ) → words ≤ 40064 → said ≤ suc words → heard + way ≤ 1032 * said → heard ≤ 41347080
few_pieces heard way said words w s k = omega (arith, w, s, k)

few_orders : (given read words : ℕ) → words ≤ 40064 → read ≤ suc words → given ≤ read → given ≤ 40065
few_orders given read words w r k = omega (arith, w, r, k)

few_told : (told coming given : ℕ) → given ≤ 40065 → told + coming ≤ 4 + 2 * given → told ≤ 80134
few_told told coming given g k = omega (arith, g, k)

few_ticks : (ticks now given said words : ℕ) → words ≤ 40064 → said ≤ suc words → given ≤ 40065 → now ≡ 10 * ticks → now ≤ 1010 * suc (given + said) → ticks ≤ 8093231
few_ticks ticks now given said words w s g e k = omega (arith, w, s, g, e, k)

station_few : (n told pieces ticks : ℕ) → n ≡ suc (told + pieces + ticks) → told ≤ 80134 → pieces ≤ 41347080 → ticks ≤ 8093231 → n < 1000000000
station_few n told pieces ticks e a b c = omega (arith, e, a, b, c)

car_few : (n pieces ticks : ℕ) → n ≤ suc (pieces + ticks) → pieces ≤ 41347080 → ticks ≤ 8093231 → n < 1000000000
car_few n pieces ticks e b c = omega (arith, e, b, c)

few : (c : post.Codecs) (cs : car.Codecs) (st : Station) (plan : CarPlan) (session : List Happening) → IsPair c cs st.post (joined plan) → AllByRecursion IsWithin session → IsRun c cs st (front plan session)
    → AllByRecursion (IsShort 1032) (front plan session) → AllKeepSteps (joined plan) (front plan session) → exchanges (front plan session) ≤ 64 + 4 * plan.cycles → AreFew (front plan session)
few c cs st plan session p w r l d e =
    let long : AllByRecursion (IsShort 65544) (front plan session) = all_short (front plan session) l in
    let time : AllKeepTime st (joined plan) (front plan session) = kept_in c cs st plan session p w r long d in
    let n : Known c cs st (joined plan) (front plan session) = known c cs st plan session (seen c cs st plan session p w r long time) in
    let well : GoesWell c cs st (joined plan) (front plan session) = n.well in
    let paired : ArePaired st.post (joined plan) = p.paired in
    let of_car : IsCarPlan (ported (joined plan)) = paired.of_car in
    let cycles = of_car.cycles in
    let read : words (front plan session) ≤ 40064 =
    few_words plan.cycles (exchanges (front plan session)) (words (front plan session)) cycles.1 e (words_are (front plan session) well.ok) in
    let count : AreCounted (front plan session) = counted plan session w in
    let says : AreFewSaid (front plan session) = few_said st (joined plan) (front plan session) (said c cs st plan session w r long) in
    let heard : ArePieces (front plan session) = are_pieces c cs st plan session w r l in
    let tells : HasTold st.post.free (front plan session) = has_told c cs st plan session w r in
    let long_lasts : Lasts st (front plan session) = lasts c cs st plan session p w r long time in
    let given : orders (front plan session) ≤ 40065 = few_orders (orders (front plan session)) (requests (front plan session)) (words (front plan session)) read says.requests long_lasts.read in
    let passed : ticks (front plan session) ≤ 8093231 =
    few_ticks (ticks (front plan session)) (moment (front plan session)) (orders (front plan session)) (answered (front plan session)) (words (front plan session)) read says.answered given count.time long_lasts.lasts in
    let s : Charger = tells.charger in
    record {
      station = station_few (station_hearings (front plan session)) (told (front plan session)) (pieces (front plan session)) (ticks (front plan session)) count.station
          (few_told (told (front plan session)) (coming s.moments) (orders (front plan session)) given tells.few)
          (few_pieces (pieces (front plan session)) (length (to_station (front plan session))) (asked (front plan session)) (words (front plan session)) read says.asked heard.station)
          passed;
      car = car_few (car_hearings (front plan session)) (car_pieces (front plan session)) (ticks (front plan session)) count.car
          (few_pieces (car_pieces (front plan session)) (length (to_car (front plan session))) (answered (front plan session)) (words (front plan session)) read says.answered heard.car)
          passed;
    }

pub hearings_are_few : (c : post.Codecs) (cs : car.Codecs) → HearingsAreFew c cs
hearings_are_few c cs st plan h p f l d e =
    subst (λ (x : List Happening). AreFew x) (sym f.h_is)
    (few c cs st plan f.session p f.within (subst (λ (x : List Happening). IsRun c cs st x) f.h_is f.run) (subst (λ (x : List Happening). AllByRecursion (IsShort 1032) x) f.h_is l)
    (subst (λ (x : List Happening). AllKeepSteps (joined plan) x) f.h_is d) (subst (λ (x : List Happening). exchanges x ≤ 64 + 4 * plan.cycles) f.h_is e))
