-- The pair goes on, happening by happening.
use Rattle.std.proofs.Common.{◌≡◌, ℕ, Bool, true, false, List, [], ◌∷◌, ◌++◌, Option, refl, sym, subst, ◌∙◌, inl, inr, append_assoc}
use Rattle.std.specs.Bool.{MatchBool}
use Rattle.std.specs.List.{AllByRecursion}
use Rattle.session_words.specs.declared.plan.CarPlan.{CarPlan}
use Rattle.post_spec.specs.Codecs.{Codecs}
use Rattle.car_spec.specs.Codecs as car
use Rattle.pipe_spec.specs.Histories.{Happening, ChargerTells, StationHears, CarHears, TimePasses, StationDoes, CarReads, CarDoes}
use Rattle.pipe_spec.specs.Pasts.{Hearing, station_heard}
use Rattle.pipe_spec.specs.Runs.{IsWithin}
use Rattle.pipe_spec.specs.Turns.{Station}
use Rattle.pair_ends.specs.Ends.{PostSide, CarSide, PostDoes, PostRests, CarGoes, CarRests}
use Rattle.pair_talk.specs.Acting.{IsDeed, MayHaveDone, HaveDone, MayHaveActed, IsOfStation, HasAnswered}
use Rattle.pair_talk.specs.Keeping.{PostIsQuiet, IsAt, GoesOn}
use Rattle.pair_talk.specs.Sides.{Sides}
use Rattle.pair_talk.specs.Turning.{IsTurn, HasHeard, HasTurned}
use Rattle.pair_talk.proofs.Acts.{post_goes, post_rests, car_read_goes, car_act_goes}

pub nothing_more : (c : Codecs) (cc : car.Codecs) (st : Station) (plan : CarPlan) (h : List Happening) (s : Sides) → IsAt c cc st plan h s → GoesOn c cc st plan h s
nothing_more c cc st plan h s k = record { session = []; within = tt; at = k }

pub no_deed : (c : Codecs) (cc : car.Codecs) (st : Station) (plan : CarPlan) (h : List Happening) (s : Sides) → IsAt c cc st plan h s → HaveDone c cc st plan h s
no_deed c cc st plan h s k = record { deeds = []; are = tt; at = k }

pub one_deed : (c : Codecs) (cc : car.Codecs) (st : Station) (plan : CarPlan) (h : List Happening) (s new : Sides) (b : Bool) → (g : HaveDone c cc st plan h s) → MayHaveDone c cc st plan (g.deeds ++ h) b new → HaveDone c cc st plan h new
one_deed c cc st plan h s new true g m = record { deeds = m.deed ∷ g.deeds; are = (m.is, g.are); at = m.at }
one_deed c cc st plan h s new false g m = record { deeds = g.deeds; are = g.are; at = m }

all_within : (a b : List Happening) → AllByRecursion IsWithin a → AllByRecursion IsWithin b → AllByRecursion IsWithin (a ++ b)
all_within [] b x y = y
all_within (e ∷ a) b x y = (x.0, all_within a b x.1 y)

pub then : (c : Codecs) (cc : car.Codecs) (st : Station) (plan : CarPlan) (h : List Happening) (s new : Sides) → (g : GoesOn c cc st plan h s) → GoesOn c cc st plan (g.session ++ h) new → GoesOn c cc st plan h new
then c cc st plan h s new g k = record {
  session = k.session ++ g.session;
  within = all_within k.session g.session k.within g.within;
  at = subst (λ (x : List Happening). IsAt c cc st plan x new) (sym (append_assoc k.session g.session h)) k.at;
}

-- deeds behind deeds
all_deeds : (a b : List Happening) → AllByRecursion IsDeed a → AllByRecursion IsDeed b → AllByRecursion IsDeed (a ++ b)
all_deeds [] b x y = y
all_deeds (e ∷ a) b x y = (x.0, all_deeds a b x.1 y)

pub then_deeds : (c : Codecs) (cc : car.Codecs) (st : Station) (plan : CarPlan) (h : List Happening) (s new : Sides) → (g : HaveDone c cc st plan h s) → HaveDone c cc st plan (g.deeds ++ h) new → HaveDone c cc st plan h new
then_deeds c cc st plan h s new g k = record {
  deeds = k.deeds ++ g.deeds;
  are = all_deeds k.deeds g.deeds k.are g.are;
  at = subst (λ (x : List Happening). IsAt c cc st plan x new) (sym (append_assoc k.deeds g.deeds h)) k.at;
}

-- they are of the session
deed_within : (e : Happening) → IsDeed e → IsWithin e
deed_within (StationDoes reading act) d = refl
deed_within (CarReads judged) d = refl
deed_within (CarDoes act) d = refl
deed_within other d = absurd (let f : false ≡ true = d in cc)

deeds_within : (deeds : List Happening) → AllByRecursion IsDeed deeds → AllByRecursion IsWithin deeds
deeds_within [] a = tt
deeds_within (e ∷ deeds) a = (deed_within e a.0, deeds_within deeds a.1)

pub goes_on : (c : Codecs) (cc : car.Codecs) (st : Station) (plan : CarPlan) (h : List Happening) (s : Sides) → HaveDone c cc st plan h s → GoesOn c cc st plan h s
goes_on c cc st plan h s g = record { session = g.deeds; within = deeds_within g.deeds g.are; at = g.at }

-- the same at equal sides
pub at_same : (c : Codecs) (cc : car.Codecs) (st : Station) (plan : CarPlan) (h : List Happening) (s new : Sides) → new ≡ s → IsAt c cc st plan h s → IsAt c cc st plan h new
at_same c cc st plan h s new e k = subst (IsAt c cc st plan h) (sym e) k

-- the station
pub post_once : (c : Codecs) (cc : car.Codecs) (st : Station) (plan : CarPlan) (h : List Happening) (s : Sides) (new : PostSide) (way : List ℕ) (b : Bool)
    → MatchBool b (PostDoes c s.moment s.post s.to_car new way) (PostRests s.post s.to_car new way) → IsAt c cc st plan h s → MayHaveActed c cc st plan h b (record s { post = new; to_car = way })
post_once c cc st plan h s new way true d k = record { reading = d.reading; act = d.act; at = post_goes c cc st plan h s new way k d }
post_once c cc st plan h s new way false d k =
    let e = d.new_is in
    let f = d.way_is in
    at_same c cc st plan h s (record s { post = new; to_car = way }) (λ i. record s { post = e i; to_car = f i }) k

pub no_act : (c : Codecs) (cc : car.Codecs) (st : Station) (plan : CarPlan) (h : List Happening) (s : Sides) → IsAt c cc st plan h s → HasAnswered c cc st plan h s
no_act c cc st plan h s k = record { acts = []; alone = tt; at = k }

pub one_act : (c : Codecs) (cc : car.Codecs) (st : Station) (plan : CarPlan) (h : List Happening) (s new : Sides) (b : Bool) → (g : HasAnswered c cc st plan h s) → MayHaveActed c cc st plan (g.acts ++ h) b new
    → HasAnswered c cc st plan h new
one_act c cc st plan h s new true g m = record { acts = StationDoes m.reading m.act ∷ g.acts; alone = (refl, g.alone); at = m.at }
one_act c cc st plan h s new false g m = record { acts = g.acts; alone = g.alone; at = m }

acts_are_deeds : (acts : List Happening) → AllByRecursion IsOfStation acts → AllByRecursion IsDeed acts
acts_are_deeds [] a = tt
acts_are_deeds (StationDoes reading act ∷ acts) a = (refl, acts_are_deeds acts a.1)
acts_are_deeds (other ∷ acts) a = absurd (let f : false ≡ true = a.0 in cc)

pub answered : (c : Codecs) (cc : car.Codecs) (st : Station) (plan : CarPlan) (h : List Happening) (s : Sides) → HasAnswered c cc st plan h s → HaveDone c cc st plan h s
answered c cc st plan h s g = record { deeds = g.acts; are = acts_are_deeds g.acts g.alone; at = g.at }

-- the car
pub car_once : (c : Codecs) (cc : car.Codecs) (st : Station) (plan : CarPlan) (h : List Happening) (s : Sides) (new : CarSide) (way : List ℕ) (b : Bool) → PostIsQuiet s
    → MatchBool b (CarGoes cc s.car s.to_station new way) (CarRests s.car s.to_station new way) → IsAt c cc st plan h s → MayHaveDone c cc st plan h b (record s { car = new; to_station = way })
car_once c cc st plan h s new way true q (inl d) k = record { deed = CarReads d.judged; is = refl; at = car_read_goes c cc st plan h s new way k (post_rests st h s.post k.post q) d }
car_once c cc st plan h s new way true q (inr d) k = record { deed = CarDoes d.act; is = refl; at = car_act_goes c cc st plan h s new way k (post_rests st h s.post k.post q) d }
car_once c cc st plan h s new way false q d k =
    let e = d.new_is in
    let f = d.way_is in
    at_same c cc st plan h s (record s { car = new; to_station = way }) (λ i. record s { car = e i; to_station = f i }) k

-- ---- a turn

-- what the station heard stays so, whatever is done then
pub still_heard : (deeds h : List Happening) → AllByRecursion IsDeed deeds → station_heard (deeds ++ h) ≡ station_heard h
still_heard [] h a = refl
still_heard (StationDoes reading act ∷ deeds) h a = still_heard deeds h a.1
still_heard (CarReads judged ∷ deeds) h a = still_heard deeds h a.1
still_heard (CarDoes act ∷ deeds) h a = still_heard deeds h a.1
still_heard (other ∷ deeds) h a = absurd (let f : false ≡ true = a.0 in cc)

pub turned : (c : Codecs) (cc : car.Codecs) (st : Station) (plan : CarPlan) (h : List Happening) (heard : Option Hearing) (s new : Sides) → (m : HasHeard c cc st plan h heard s) → HaveDone c cc st plan (m.turn ∷ h) new → HasTurned c cc st plan h heard new
turned c cc st plan h heard s new m g = record {
  turn = m.turn;
  is = m.is;
  deeds = g.deeds;
  are = g.are;
  heard_is = m.heard_is ∙ sym (still_heard g.deeds (m.turn ∷ h) g.are);
  at = g.at;
}

turn_within : (e : Happening) → IsTurn e → IsWithin e
turn_within (ChargerTells event) d = refl
turn_within (StationHears bytes) d = refl
turn_within (CarHears bytes) d = refl
turn_within TimePasses d = refl
turn_within other d = absurd (let f : false ≡ true = d in cc)

-- a turn is of the session
pub turn_goes_on : (c : Codecs) (cc : car.Codecs) (st : Station) (plan : CarPlan) (h : List Happening) (heard : Option Hearing) (s : Sides) → HasTurned c cc st plan h heard s → GoesOn c cc st plan h s
turn_goes_on c cc st plan h heard s m = record {
  session = m.deeds ++ m.turn ∷ [];
  within = all_within m.deeds (m.turn ∷ []) (deeds_within m.deeds m.are) (turn_within m.turn m.is, tt);
  at = subst (λ (x : List Happening). IsAt c cc st plan x s) (sym (append_assoc m.deeds (m.turn ∷ []) h)) m.at;
}
