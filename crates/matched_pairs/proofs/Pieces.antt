-- How many pieces both ends hear: each has a byte at least of the messages that were said.
use Rattle.std.proofs.Common.{◌≡◌, ℕ, zero, suc, ◌+◌, ◌-◌, ◌*◌, ◌≤◌, true, false, List, [], ◌∷◌, ◌++◌, length, take, drop, refl, ap, sym, subst, arith}
use Rattle.std.proofs.lemmas.List.{append-nil, length-append, length-drop}
use Rattle.std.specs.List.{AllByRecursion}
use Rattle.session_words.specs.declared.plan.CarPlan.{CarPlan}
use Rattle.post_spec.specs.Codecs as post
use Rattle.car_spec.specs.Codecs as car
use Rattle.pipe_spec.specs.Histories.{Happening, CarComes, ChargerTells, StationHears, CarHears, TimePasses, StationDoes, CarReads, CarDoes, CarGoes, NumberIsDrawn, station_says, car_says, to_station, to_car}
use Rattle.pipe_spec.specs.Turns.{Station, piece_length, IsPiece, Follows}
use Rattle.pipe_spec.specs.Runs.{IsRun, IsWithin}
use Rattle.pipe_laws.specs.OneMessage.{IsShort}
use Rattle.matched_pairs.proofs.Said.{one_of, asked, answered}

true_false : true ≡ false → ⊥
true_false e = cc

-- the pieces that the station has heard
abbrev pub pieces : List Happening → ℕ
pieces [] = 0
pieces (StationHears bytes ∷ h) = suc (pieces h)
pieces (other ∷ h) = pieces h

-- and those that have come to the car
abbrev pub car_pieces : List Happening → ℕ
car_pieces [] = 0
car_pieces (CarHears bytes ∷ h) = suc (car_pieces h)
car_pieces (other ∷ h) = car_pieces h

-- 1,032: the bytes of the longest message that is said
pub record ArePieces (h : List Happening) : Type 0 where
  pub station : pieces h + length (to_station h) ≤ 1032 * asked h
  pub car : car_pieces h + length (to_car h) ≤ 1032 * answered h

-- ---- something is said

says_more : (bytes way : List ℕ) (heard said : ℕ) → length bytes ≤ 1032 → heard + length way ≤ 1032 * said → heard + length (way ++ bytes) ≤ 1032 * (one_of bytes + said)
says_more [] way heard said l k =
    let same : length (way ++ []) ≡ length way = ap (λ (x : List ℕ). length x) (append-nil way) in
    omega (arith, k, same)
says_more (byte ∷ bytes) way heard said l k =
    let same : length (way ++ byte ∷ bytes) ≡ length way + length (byte ∷ bytes) = length-append way (byte ∷ bytes) in
    omega (arith, l, k, same)

-- ---- a piece is heard

takes_some : (most : ℕ) (way : List ℕ) → (way ≡ [] → ⊥) → 1 ≤ most → 1 ≤ length (take most way)
takes_some zero way n l = absurd (omega (arith, l))
takes_some (suc most) [] n l = absurd (n refl)
takes_some (suc most) (byte ∷ way) n l = omega arith

some_left : (way : List ℕ) → (way ≡ [] → ⊥) → 1 ≤ length way
some_left [] n = absurd (n refl)
some_left (byte ∷ way) n = omega arith

heard_one : (most : ℕ) (way bytes : List ℕ) → (way ≡ [] → ⊥) → bytes ≡ take most way → 1 ≤ most → suc (length (drop (length bytes) way)) ≤ length way
heard_one most way bytes n e l =
    let some : 1 ≤ length bytes = subst (λ (x : List ℕ). 1 ≤ length x) (sym e) (takes_some most way n l) in
    let left : length (drop (length bytes) way) ≡ length way - length bytes = length-drop (length bytes) way in
    let long : 1 ≤ length way = some_left way n in
    omega (arith, some, left, long)

one_more : (drawn : ℕ) → 1 ≤ 1 + drawn
one_more drawn = omega arith

is_heard : (st : Station) (h : List Happening) (way bytes : List ℕ) (heard said : ℕ) → IsPiece st h way bytes → heard + length way ≤ 1032 * said → suc heard + length (drop (length bytes) way) ≤ 1032 * said
is_heard st h way bytes heard said i k =
    let one : suc (length (drop (length bytes) way)) ≤ length way = heard_one (piece_length st h) way bytes i.under_way i.bytes_are (one_more _) in
    omega (arith, one, k)

-- ---- all that may happen

step : (c : post.Codecs) (cs : car.Codecs) (st : Station) (h : List Happening) (e : Happening) → IsWithin e → Follows c cs st h e → IsShort 1032 e → ArePieces h → ArePieces (e ∷ h)
step c cs st h (StationDoes reading act) i f l k = record { station = k.station; car = says_more (station_says act) (to_car h) (car_pieces h) (answered h) l k.car }
step c cs st h (CarDoes act) i f l k = record { station = says_more (car_says act) (to_station h) (pieces h) (asked h) l k.station; car = k.car }
step c cs st h (StationHears bytes) i f l k =
    let t = f.turn in record { station = is_heard st h (to_station h) bytes (pieces h) (asked h) t.1 k.station; car = k.car }
step c cs st h (CarHears bytes) i f l k =
    let t = f.turn in record { station = k.station; car = is_heard st h (to_car h) bytes (car_pieces h) (answered h) t.2 k.car }
step c cs st h (ChargerTells event) i f l k = record { station = k.station; car = k.car }
step c cs st h TimePasses i f l k = record { station = k.station; car = k.car }
step c cs st h (CarReads word) i f l k = record { station = k.station; car = k.car }
step c cs st h (CarComes other) i f l k = absurd (true_false (sym i))
step c cs st h CarGoes i f l k = absurd (true_false (sym i))
step c cs st h NumberIsDrawn i f l k = absurd (true_false (sym i))

pub are_pieces : (c : post.Codecs) (cs : car.Codecs) (st : Station) (plan : CarPlan) (session : List Happening) → AllByRecursion IsWithin session → IsRun c cs st (session ++ CarComes plan ∷ [])
    → AllByRecursion (IsShort 1032) (session ++ CarComes plan ∷ []) → ArePieces (session ++ CarComes plan ∷ [])
are_pieces c cs st plan [] w r l = record { station = omega arith; car = omega arith }
are_pieces c cs st plan (e ∷ session) w r l = step c cs st (session ++ CarComes plan ∷ []) e w.0 r.1 l.0 (are_pieces c cs st plan session w.1 r.0 l.1)
