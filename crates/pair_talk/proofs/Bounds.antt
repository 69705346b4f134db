-- What a station does is bounded by what it hears: each hearing gives it so much to do at most, and each act leaves less.
use Rattle.std.proofs.Common.{◌≡◌, ◌<◌, ◌≤◌, ℕ, suc, ◌+◌, ◌*◌, ◌/◌, ◌%◌, ◌^◌, ◌||◌, ◌&&◌, nat_le, Bool, true, false, List, [], ◌∷◌, ◌++◌, length, take, Option, Some, None, refl, sym, ap, subst, arith, length-append}
use Rattle.std.proofs.lemmas.Grind.{common_steps}
use Rattle.std.proofs.lemmas.List.{length-take}
use Rattle.std.proofs.lemmas.List.Sums.{sum_by-cons}
use Rattle.std.specs.List.{AllByRecursion}
use Rattle.std.specs.Option.{option_map}
use Rattle.charge_world.specs.declared.ports.Order.TheVariants as order
use Rattle.session_words.specs.declared.cause.EndCause.{EndCause}
use Rattle.session_words.specs.declared.plan.CarPlan.{CarPlan}
use Rattle.post_spec.specs.Codecs.{Codecs}
use Rattle.post_spec.specs.Sessions.{brought, replies}
use Rattle.post_spec.specs.Steps.{Event, Came, Bytes, Gone, Plant, Clock, Act, Give, Send, Answer, End, Reading}
use Rattle.station_spec.specs.Hearing.{session_opened, with_bytes, hearing}
use Rattle.station_spec.specs.Report.{one_if}
use Rattle.station_spec.specs.Sharing.{Shows}
use Rattle.station_spec.specs.States.{Session, State}
use Rattle.site_posts.proofs.Work.{acted_work}
use Rattle.site_posts.specs.Work.{work, work_in}
use Rattle.car_spec.specs.Codecs as car
use Rattle.pipe_spec.specs.Counts.{Counts, counts}
use Rattle.pipe_spec.specs.Histories.{Happening, CarComes, ChargerTells, StationHears, CarHears, TimePasses, StationDoes, CarReads, CarDoes, CarGoes, NumberIsDrawn, moment, station_past, station_hearings, station_has_ended, car_has_ended, car_plan}
use Rattle.pipe_spec.specs.Numbers.{next, behind}
use Rattle.pipe_spec.specs.Runs.{IsRun, IsWithin}
use Rattle.pipe_spec.specs.Turns.{Station, station_state, Follows, piece_length, is_over, car_is_spent}
use Rattle.pipe_laws.specs.OneMessage.{IsShort}
use Rattle.pair_talk.specs.Parting.{all_hearings}

-- the acts of the station in all sessions
abbrev acts : List Happening → ℕ
acts [] = 0
acts (StationDoes reading act ∷ h) = suc (acts h)
acts (other ∷ h) = acts h

-- ---- a hearing gives at most 85 things to do

opened_work : (bytes : List ℕ) (arrived : Option ℕ) (at : ℕ) (o : Option Session) (ending : Option EndCause)
    → work_in (option_map (with_bytes bytes) (session_opened arrived at o)) None ≤ work_in o ending + length bytes + 3
opened_work bytes None at None ending = omega arith
opened_work bytes None at (Some session) ending = omega (arith, length-append session.unread bytes)
opened_work bytes (Some token) at o ending = omega arith

heard_work : (at : ℕ) (event : Event) (s : State) → length (brought event) ≤ 64 → work (hearing at event s) ≤ work s + 85
heard_work at event s few = let w = opened_work (brought event) s.arrived s.clock s.session s.agenda.ending in omega (arith, w, few)

drawn_few : (x : ℕ) → 1 + x % 64 ≤ 64
drawn_few x = omega arith

take_few : (n : ℕ) (way : List ℕ) → length (take n way) ≤ n
take_few n way = omega (arith, length-take n way)

piece_few : (st : Station) (h : List Happening) (way bytes : List ℕ) → bytes ≡ take (piece_length st h) way → length bytes ≤ 64
piece_few st h way bytes e =
    let same : length bytes ≡ length (take (piece_length st h) way) = ap length e in
    let less : length (take (piece_length st h) way) ≤ piece_length st h = take_few (piece_length st h) way in
    let few : piece_length st h ≤ 64 = drawn_few (next (behind st.seed _) / 2 ^ 33) in
    omega (arith, same, less, few)

-- all that was done, and what is still to do
abbrev IsBounded : Station → List Happening → Type 0
IsBounded st h = acts h + work (station_state st h) ≤ 85 * all_hearings h

hears : (a n : ℕ) (at : ℕ) (event : Event) (s : State) → length (brought event) ≤ 64 → a + work s ≤ 85 * n → a + work (hearing at event s) ≤ 85 * suc n
hears a n at event s few k = let w = heard_work at event s few in omega (arith, w, k)

bounded_step : (c : Codecs) (cs : car.Codecs) (st : Station) (h : List Happening) (e : Happening) → Follows c cs st h e → IsBounded st h → IsBounded st (e ∷ h)
bounded_step c cs st h (CarComes plan) f k = hears (acts h) (all_hearings h) (moment h) (Came 1) (station_state st h) (omega arith) k
bounded_step c cs st h (ChargerTells event) f k = hears (acts h) (all_hearings h) (moment h) (Plant event) (station_state st h) (omega arith) k
bounded_step c cs st h (StationHears bytes) f k = hears (acts h) (all_hearings h) (moment h) (Bytes bytes) (station_state st h) (let p = f.turn.1 in piece_few st h _ bytes p.bytes_are) k
bounded_step c cs st h (CarHears bytes) f k = k
bounded_step c cs st h TimePasses f k = hears (acts h) (all_hearings h) (moment h + 10) Clock (station_state st h) (omega arith) k
bounded_step c cs st h (StationDoes reading act) f k =
    let w = acted_work c st.post (Shows st.limit [] []) (station_state st h) reading act true f in
    omega (arith, w, k)
bounded_step c cs st h (CarReads judged) f k = k
bounded_step c cs st h (CarDoes act) f k = k
bounded_step c cs st h CarGoes f k = hears (acts h) (all_hearings h) (moment h) Gone (station_state st h) (omega arith) k
bounded_step c cs st h NumberIsDrawn f k = k

bounded : (c : Codecs) (cs : car.Codecs) (st : Station) (h : List Happening) → IsRun c cs st h → IsBounded st h
bounded c cs st [] r = omega arith
bounded c cs st (e ∷ h) r = bounded_step c cs st h e r.1 (bounded c cs st h r.0)

-- ---- what is counted is done

pub record AreFew (most : ℕ) (h : List Happening) : Type 0 where
  pub replies : (counts h).replies ≤ most
  pub bytes : (counts h).bytes ≤ 1032 * most
  pub closed : (counts h).closed ≤ most
  pub opened : (counts h).opened ≤ most

one_more : (n most : ℕ) (b : Bool) → n ≤ most → one_if b + n ≤ suc most
one_more n most true l = omega arith
one_more n most false l = omega arith

none_more : (n most : ℕ) → n ≤ most → 0 + n ≤ suc most
none_more n most l = omega arith

bytes_more : (n most : ℕ) → n ≤ 1032 * most → n ≤ 1032 * suc most
bytes_more n most l = omega arith

did_few : (h : List Happening) (reading : Option Reading) (act : Act) → IsShort 1032 (StationDoes reading act) → AreFew (acts h) h → AreFew (suc (acts h)) (StationDoes reading act ∷ h)
did_few h reading (Give order.Close) s k = let r = k.replies in record {
  replies = omega (arith, r);
  bytes = bytes_more _ (acts h) k.bytes;
  closed = one_more _ (acts h) true k.closed;
  opened = none_more _ (acts h) k.opened;
}
did_few h reading (Give order.Open) s k = let r = k.replies in record {
  replies = omega (arith, r);
  bytes = bytes_more _ (acts h) k.bytes;
  closed = none_more _ (acts h) k.closed;
  opened = one_more _ (acts h) true k.opened;
}
did_few h reading (Give (order.Limits voltage current watts)) s k = let r = k.replies in record {
  replies = omega (arith, r);
  bytes = bytes_more _ (acts h) k.bytes;
  closed = none_more _ (acts h) k.closed;
  opened = none_more _ (acts h) k.opened;
}
did_few h reading (Send bytes) s k = let r = k.replies in let b = k.bytes in let x = sum_by-cons length bytes (replies (station_past h)) in record {
  replies = omega (arith, r);
  bytes = omega (arith, b, x, s);
  closed = none_more _ (acts h) k.closed;
  opened = none_more _ (acts h) k.opened;
}
did_few h reading (Answer bytes) s k = let r = k.replies in record {
  replies = omega (arith, r);
  bytes = bytes_more _ (acts h) k.bytes;
  closed = none_more _ (acts h) k.closed;
  opened = none_more _ (acts h) k.opened;
}
did_few h reading (End cause) s k = let r = k.replies in record {
  replies = omega (arith, r);
  bytes = bytes_more _ (acts h) k.bytes;
  closed = none_more _ (acts h) k.closed;
  opened = none_more _ (acts h) k.opened;
}

same_few : (n : ℕ) (h k : List Happening) → counts k ≡ counts h → AreFew n h → AreFew n k
same_few n h k e f = record {
  replies = subst (λ (x : Counts). x.replies ≤ n) (sym e) f.replies;
  bytes = subst (λ (x : Counts). x.bytes ≤ 1032 * n) (sym e) f.bytes;
  closed = subst (λ (x : Counts). x.closed ≤ n) (sym e) f.closed;
  opened = subst (λ (x : Counts). x.opened ≤ n) (sym e) f.opened;
}

acts_are_few : (h : List Happening) → AllByRecursion (IsShort 1032) h → AreFew (acts h) h
acts_are_few [] s = record { replies = omega arith; bytes = omega arith; closed = omega arith; opened = omega arith }
acts_are_few (StationDoes reading act ∷ h) s = did_few h reading act s.0 (acts_are_few h s.1)
acts_are_few (CarComes plan ∷ h) s = same_few (acts h) h (CarComes plan ∷ h) refl (acts_are_few h s.1)
acts_are_few (ChargerTells event ∷ h) s = same_few (acts h) h (ChargerTells event ∷ h) refl (acts_are_few h s.1)
acts_are_few (StationHears bytes ∷ h) s = same_few (acts h) h (StationHears bytes ∷ h) refl (acts_are_few h s.1)
acts_are_few (CarHears bytes ∷ h) s = same_few (acts h) h (CarHears bytes ∷ h) refl (acts_are_few h s.1)
acts_are_few (TimePasses ∷ h) s = same_few (acts h) h (TimePasses ∷ h) refl (acts_are_few h s.1)
acts_are_few (CarReads judged ∷ h) s = same_few (acts h) h (CarReads judged ∷ h) refl (acts_are_few h s.1)
acts_are_few (CarDoes act ∷ h) s = same_few (acts h) h (CarDoes act ∷ h) refl (acts_are_few h s.1)
acts_are_few (CarGoes ∷ h) s = same_few (acts h) h (CarGoes ∷ h) refl (acts_are_few h s.1)
acts_are_few (NumberIsDrawn ∷ h) s = same_few (acts h) h (NumberIsDrawn ∷ h) refl (acts_are_few h s.1)

-- so many hearings: fewer than 2^64 of anything is counted
pub record AreExact (h : List Happening) : Type 0 where
  pub replies : (counts h).replies < 2 ^ 64
  pub bytes : (counts h).bytes < 2 ^ 64
  pub closed : (counts h).closed < 2 ^ 64
  pub opened : (counts h).opened < 2 ^ 64

pub counts_are_exact : (c : Codecs) (cs : car.Codecs) (st : Station) (h : List Happening) → IsRun c cs st h → AllByRecursion (IsShort 1032) h → all_hearings h ≤ 4294967297000 → AreExact h
counts_are_exact c cs st h r s few =
    let k = acts_are_few h s in
    let b = bounded c cs st h r in
    let least : acts h ≤ 85 * all_hearings h = omega (arith, b) in
    let n = k.replies in
    let m = k.bytes in
    let x = k.closed in
    let y = k.opened in
    record {
      replies = omega (arith, least, few, n);
      bytes = omega (arith, least, few, m);
      closed = omega (arith, least, few, x);
      opened = omega (arith, least, few, y);
    }

-- ---- hearings

-- the clock goes on by ten milliseconds in a hearing at most
pub moments_are_early : (h : List Happening) → moment h ≤ 10 * all_hearings h
moments_are_early [] = omega arith
moments_are_early (CarComes plan ∷ h) = let k = moments_are_early h in omega (arith, k)
moments_are_early (ChargerTells event ∷ h) = let k = moments_are_early h in omega (arith, k)
moments_are_early (StationHears bytes ∷ h) = let k = moments_are_early h in omega (arith, k)
moments_are_early (CarHears bytes ∷ h) = moments_are_early h
moments_are_early (TimePasses ∷ h) = let k = moments_are_early h in omega (arith, k)
moments_are_early (StationDoes reading act ∷ h) = moments_are_early h
moments_are_early (CarReads judged ∷ h) = moments_are_early h
moments_are_early (CarDoes act ∷ h) = moments_are_early h
moments_are_early (CarGoes ∷ h) = let k = moments_are_early h in omega (arith, k)
moments_are_early (NumberIsDrawn ∷ h) = moments_are_early h

-- the hearings of a session are within the turns of the station
not_spent : (a b c d : Bool) → (a || b || c || d) ≡ false → b ≡ false
not_spent true b c d e = cc
not_spent false true c d e = cc
not_spent false false c d e = refl

more_turns : (turns heard : ℕ) → nat_le turns heard ≡ false → heard < turns
more_turns turns heard e = grind (arith, common_steps)

turns_left : (st : Station) (h : List Happening) → is_over st h ≡ false → station_hearings h < st.turns
turns_left st h e = more_turns st.turns (station_hearings h) (not_spent (station_has_ended h && car_has_ended h) (nat_le st.turns (station_hearings h)) (car_is_spent (car_plan h) h) _ e)

one_turn : (n turns : ℕ) → n < turns → suc n ≤ turns
one_turn n turns l = omega arith

-- a session in the making, behind what happened before
pub record IsHeard (st : Station) (before h : List Happening) : Type 0 where
  pub all : all_hearings h ≡ station_hearings h + all_hearings before
  pub within : station_hearings h ≤ st.turns

heard_more : (st : Station) (before h k : List Happening) → is_over st h ≡ false → all_hearings k ≡ suc (all_hearings h) → station_hearings k ≡ suc (station_hearings h) → IsHeard st before h → IsHeard st before k
heard_more st before h k goes_on a s i =
    let all = i.all in
    let less = turns_left st h goes_on in
    record { all = omega (arith, a, s, all); within = omega (arith, s, less) }

heard_same : (st : Station) (before h k : List Happening) → all_hearings k ≡ all_hearings h → station_hearings k ≡ station_hearings h → IsHeard st before h → IsHeard st before k
heard_same st before h k a s i =
    let all = i.all in
    let within = i.within in
    record { all = omega (arith, a, s, all); within = omega (arith, s, within) }

pub session_heard : (c : Codecs) (cs : car.Codecs) (st : Station) (plan : CarPlan) (before session : List Happening) → 1 ≤ st.turns → AllByRecursion IsWithin session → IsRun c cs st (session ++ CarComes plan ∷ before)
    → IsHeard st before (session ++ CarComes plan ∷ before)
session_heard c cs st plan before [] some w r = record { all = omega arith; within = some }
session_heard c cs st plan before (ChargerTells event ∷ session) some w r = let m = r.1 in heard_more st before _ (ChargerTells event ∷ (session ++ CarComes plan ∷ before)) m.goes_on refl refl (session_heard c cs st plan before session some w.1 r.0)
session_heard c cs st plan before (StationHears bytes ∷ session) some w r = let m = r.1 in heard_more st before _ (StationHears bytes ∷ (session ++ CarComes plan ∷ before)) m.goes_on refl refl (session_heard c cs st plan before session some w.1 r.0)
session_heard c cs st plan before (TimePasses ∷ session) some w r = let m = r.1 in heard_more st before _ (TimePasses ∷ (session ++ CarComes plan ∷ before)) m.goes_on refl refl (session_heard c cs st plan before session some w.1 r.0)
session_heard c cs st plan before (CarHears bytes ∷ session) some w r = heard_same st before _ (CarHears bytes ∷ (session ++ CarComes plan ∷ before)) refl refl (session_heard c cs st plan before session some w.1 r.0)
session_heard c cs st plan before (StationDoes reading act ∷ session) some w r = heard_same st before _ (StationDoes reading act ∷ (session ++ CarComes plan ∷ before)) refl refl (session_heard c cs st plan before session some w.1 r.0)
session_heard c cs st plan before (CarReads judged ∷ session) some w r = heard_same st before _ (CarReads judged ∷ (session ++ CarComes plan ∷ before)) refl refl (session_heard c cs st plan before session some w.1 r.0)
session_heard c cs st plan before (CarDoes act ∷ session) some w r = heard_same st before _ (CarDoes act ∷ (session ++ CarComes plan ∷ before)) refl refl (session_heard c cs st plan before session some w.1 r.0)
session_heard c cs st plan before (CarComes other ∷ session) some w r = absurd (let f : false ≡ true = w.0 in cc)
session_heard c cs st plan before (CarGoes ∷ session) some w r = absurd (let f : false ≡ true = w.0 in cc)
session_heard c cs st plan before (NumberIsDrawn ∷ session) some w r = absurd (let f : false ≡ true = w.0 in cc)
