-- How much the charger tells: each of its events was to come since the car came, or since an order.
use Rattle.std.proofs.Common.{◌≡◌, ℕ, zero, suc, ◌+◌, ◌*◌, ◌≤◌, Bool, true, false, if◌then◌else◌, List, [], ◌∷◌, ◌++◌, Option, Some, None, refl, ap, sym, subst, arith}
use Rattle.std.specs.List.{AllByRecursion}
use Rattle.std.specs.Prelude.{slice_get, slice_set}
use Rattle.charge_world.specs.declared.heard.PlantEvent.{PlantEvent}
use Rattle.charge_world.specs.declared.ports.Order.{Order}
use Rattle.charge_world.specs.declared.ports.Order.TheVariants as order
use Rattle.session_words.specs.declared.plan.CarPlan.{CarPlan}
use Rattle.plant_sim.specs.Charger.{Charger, later, idle, came, ordered, Comes}
use Rattle.plant_sim.specs.Charger as charger
use Rattle.post_spec.specs.Codecs as post
use Rattle.post_spec.specs.Steps.{Act, Give, Send, Answer, End}
use Rattle.car_spec.specs.Codecs as car
use Rattle.pipe_spec.specs.Chargers.{behind_act, IsCharger}
use Rattle.pipe_spec.specs.Histories.{Happening, CarComes, ChargerTells, StationHears, CarHears, TimePasses, StationDoes, CarReads, CarDoes, CarGoes, NumberIsDrawn, moment}
use Rattle.pipe_spec.specs.Turns.{Station, MayTurn, Follows}
use Rattle.pipe_spec.specs.Runs.{IsRun, IsWithin}
use Rattle.pipe_laws.proofs.Once.{charger_once}

true_false : true ≡ false → ⊥
true_false e = cc

-- ---- what is counted

-- the events of the charger
abbrev pub told : List Happening → ℕ
told [] = 0
told (ChargerTells event ∷ h) = suc (told h)
told (other ∷ h) = told h

-- the orders to it
abbrev pub one_order : Act → ℕ
one_order (Give o) = 1
one_order (Send bytes) = 0
one_order (Answer bytes) = 0
one_order (End cause) = 0

abbrev pub orders : List Happening → ℕ
orders [] = 0
orders (StationDoes reading act ∷ h) = one_order act + orders h
orders (other ∷ h) = orders h

-- the events that are to come
abbrev pub one_at : Option ℕ → ℕ
one_at None = 0
one_at (Some at) = 1

abbrev pub coming : List (Option ℕ) → ℕ
coming [] = 0
coming (m ∷ ms) = one_at m + coming ms

-- ---- a place is set

one_most : (m : Option ℕ) → one_at m ≤ 1
one_most None = omega arith
one_most (Some at) = omega arith

sets_one : (ms : List (Option ℕ)) (p : ℕ) (v : Option ℕ) → coming (slice_set ms p v) ≤ coming ms + 1
sets_one [] p v = omega arith
sets_one (m ∷ ms) zero v = let l : one_at v ≤ 1 = one_most v in omega (arith, l)
sets_one (m ∷ ms) (suc p) v = let l : coming (slice_set ms p v) ≤ coming ms + 1 = sets_one ms p v in omega (arith, l)

abbrev pub one_in : Option (Option ℕ) → ℕ
one_in None = 0
one_in (Some m) = one_at m

takes_one : (ms : List (Option ℕ)) (p at : ℕ) → slice_get ms p ≡ Some (Some at) → suc (coming (slice_set ms p None)) ≤ coming ms
takes_one [] p at e = absurd (let x : None ≡ Some (Some at) = e in cc)
takes_one (m ∷ ms) zero at e = let one : one_at m ≡ 1 = ap one_in e in omega (arith, one)
takes_one (m ∷ ms) (suc p) at e = let l : suc (coming (slice_set ms p None)) ≤ coming ms = takes_one ms p at e in omega (arith, l)

four_sets : (a b c d e : ℕ) → a ≤ b + 1 → b ≤ c + 1 → c ≤ d + 1 → d ≤ e + 1 → a ≤ e + 4
four_sets a b c d e k l m n = omega (arith, k, l, m, n)

two_sets : (a b c : ℕ) → a ≤ b + 1 → b ≤ c + 1 → a ≤ c + 2
two_sets a b c k l = omega (arith, k, l)

one_set : (a b : ℕ) → a ≤ b + 1 → a ≤ b + 2
one_set a b k = omega (arith, k)

came_four : (s : Charger) (now : ℕ) → coming (came s now).moments ≤ coming s.moments + 4
came_four s now =
    let pilot : List (Option ℕ) = slice_set s.moments 0 (Some now) in
    let isolation : List (Option ℕ) = slice_set pilot 1 (Some now) in
    let paid : List (Option ℕ) = slice_set isolation 2 (if s.free then None else later now 100) in
    four_sets (coming (slice_set paid 3 (later now 300))) (coming paid) (coming isolation) (coming pilot) (coming s.moments)
    (sets_one paid 3 (later now 300)) (sets_one isolation 2 (if s.free then None else later now 100)) (sets_one pilot 1 (Some now)) (sets_one s.moments 0 (Some now))

ordered_two : (s : Charger) (o : Order) (now : ℕ) → coming (ordered s o now).moments ≤ coming s.moments + 2
ordered_two s (order.Limits voltage current watts) now = one_set (coming (slice_set s.moments 4 (later now 20))) (coming s.moments) (sets_one s.moments 4 (later now 20))
ordered_two s order.Close now = one_set (coming (slice_set s.moments 5 (later now 50))) (coming s.moments) (sets_one s.moments 5 (later now 50))
ordered_two s order.Open now =
    two_sets (coming (slice_set (slice_set s.moments 6 (later now 50)) 7 (later now 50))) (coming (slice_set s.moments 6 (later now 50))) (coming s.moments)
    (sets_one (slice_set s.moments 6 (later now 50)) 7 (later now 50)) (sets_one s.moments 6 (later now 50))

-- ---- all that may happen

pub record HasTold (free : Bool) (h : List Happening) : Type 0 where
  pub charger : Charger
  pub charger_is : IsCharger free h charger
  pub few : told h + coming charger.moments ≤ 4 + 2 * orders h

acts : (act : Act) (s : Charger) (h : List Happening) (said given : ℕ) → said + coming s.moments ≤ 4 + 2 * given → said + coming (behind_act act h s).moments ≤ 4 + 2 * (one_order act + given)
acts (Give o) s h said given k = let l : coming (ordered s o (moment h)).moments ≤ coming s.moments + 2 = ordered_two s o (moment h) in omega (arith, k, l)
acts (Send bytes) s h said given k = omega (arith, k)
acts (Answer bytes) s h said given k = omega (arith, k)
acts (End cause) s h said given k = omega (arith, k)

one_less : (said after before given : ℕ) → suc after ≤ before → said + before ≤ 4 + 2 * given → suc said + after ≤ 4 + 2 * given
one_less said after before given l k = omega (arith, l, k)

tells : (c : post.Codecs) (cs : car.Codecs) (st : Station) (h : List Happening) (event : PlantEvent) → MayTurn st h (ChargerTells event) → HasTold st.post.free h → HasTold st.post.free (ChargerTells event ∷ h)
tells c cs st h event f k =
    let t = f.turn in
    let before : told h + coming f.charger.moments ≤ 4 + 2 * orders h =
    subst (λ (s : Charger). told h + coming s.moments ≤ 4 + 2 * orders h) (charger_once st.post.free h k.charger f.charger k.charger_is f.charger_is) k.few in
    let y : Comes f.charger (moment h) event t.0 = t.1 in
    let first : charger.IsFirst f.charger.moments y.place y.moment = y.first in
    let less : suc (coming (slice_set f.charger.moments y.place None)) ≤ coming f.charger.moments = takes_one f.charger.moments y.place y.moment first.to_come in
    record {
      charger = t.0;
      charger_is = (f.charger, f.charger_is, t.1);
      few = subst (λ (s : Charger). suc (told h) + coming s.moments ≤ 4 + 2 * orders h) (sym y.after)
          (one_less (told h) (coming (slice_set f.charger.moments y.place None)) (coming f.charger.moments) (orders h) less before);
    }

step : (c : post.Codecs) (cs : car.Codecs) (st : Station) (h : List Happening) (e : Happening) → IsWithin e → Follows c cs st h e → HasTold st.post.free h → HasTold st.post.free (e ∷ h)
step c cs st h (ChargerTells event) i f k = tells c cs st h event f k
step c cs st h (StationDoes reading act) i f k = record {
  charger = behind_act act h k.charger;
  charger_is = (k.charger, k.charger_is, refl);
  few = acts act k.charger h (told h) (orders h) k.few;
}
step c cs st h (StationHears bytes) i f k = record { charger = k.charger; charger_is = k.charger_is; few = k.few }
step c cs st h (CarHears bytes) i f k = record { charger = k.charger; charger_is = k.charger_is; few = k.few }
step c cs st h TimePasses i f k = record { charger = k.charger; charger_is = k.charger_is; few = k.few }
step c cs st h (CarReads word) i f k = record { charger = k.charger; charger_is = k.charger_is; few = k.few }
step c cs st h (CarDoes act) i f k = record { charger = k.charger; charger_is = k.charger_is; few = k.few }
step c cs st h (CarComes other) i f k = absurd (true_false (sym i))
step c cs st h CarGoes i f k = absurd (true_false (sym i))
step c cs st h NumberIsDrawn i f k = absurd (true_false (sym i))

at_first : (n : ℕ) → n ≤ 0 + 4 → 0 + n ≤ 4 + 2 * 0
at_first n l = omega (arith, l)

pub has_told : (c : post.Codecs) (cs : car.Codecs) (st : Station) (plan : CarPlan) (session : List Happening) → AllByRecursion IsWithin session → IsRun c cs st (session ++ CarComes plan ∷ [])
    → HasTold st.post.free (session ++ CarComes plan ∷ [])
has_told c cs st plan [] w r = record {
  charger = came (idle st.post.free) 0;
  charger_is = (idle st.post.free, refl, refl);
  few = at_first (coming (came (idle st.post.free) 0).moments) (came_four (idle st.post.free) 0);
}
has_told c cs st plan (e ∷ session) w r = step c cs st (session ++ CarComes plan ∷ []) e w.0 r.1 (has_told c cs st plan session w.1 r.0)
