-- The tests say which tuples can be answered.
use Rattle.std.proofs.Common.{◌≡◌, ℕ, ◌+◌, ◌≤◌, leb, Bool, true, ◌&&◌, List, [], ◌∷◌, refl, sym, ◌∙◌, arith}
use Rattle.std.specs.Prelude.{All, ◌↔◌}
use Rattle.std.specs.List.{list_all}
use Rattle.std.proofs.lemmas.Bool.{and_parts, and_from, leb-true, le-leb, eqb-true, eq-eqb}
use Rattle.std.proofs.lemmas.List.Elements.{All-nil, All-cons, All-head, All-tail}
use Rattle.iso_schedules.specs.declared.schedules.PMaxScheduleEntry.{PMaxScheduleEntry}
use Rattle.iso_schedules.specs.declared.schedules.SaScheduleTuple.{SaScheduleTuple}
use Rattle.schedules.specs.declared.power.Step.{Step}
use Rattle.schedules.specs.Steps.{Begins, RiseWithin}
use Rattle.schedule_answers.specs.Schedules.{entries_of, schedule_of, is_in_watts, IsUsable}
use Rattle.schedule_answers.specs.Usable.{begins_at_zero, rises, passes, usable}

begun : (steps : List Step) → begins_at_zero steps ≡ true → Begins 0 steps
begun [] h = cc
begun (s ∷ steps) h = eqb-true s.start 0 h

begun_back : (steps : List Step) → Begins 0 steps → begins_at_zero steps ≡ true
begun_back [] h = absurd h
begun_back (s ∷ steps) h = eq-eqb s.start 0 h

risen : (least end : ℕ) (steps : List Step) → rises least end steps ≡ true → RiseWithin least (end + 1) steps
risen least end [] h = tt
risen least end (s ∷ steps) h =
    let both = and_parts (leb least s.start && leb s.start end) (rises (s.start + 1) end steps) h in
    let here = and_parts (leb least s.start) (leb s.start end) both.0 in
    let low : least ≤ s.start = leb-true least s.start here.0 in
    let high : s.start ≤ end = leb-true s.start end here.1 in
    (low, omega arith, risen (s.start + 1) end steps both.1)

risen_back : (least end : ℕ) (steps : List Step) → RiseWithin least (end + 1) steps → rises least end steps ≡ true
risen_back least end [] h = refl
risen_back least end (s ∷ steps) h =
    let within : s.start ≤ end = omega (arith, h.1) in
    and_from (leb least s.start && leb s.start end) (rises (s.start + 1) end steps)
    (and_from (leb least s.start) (leb s.start end) (le-leb least s.start h.0) (le-leb s.start end within))
    (risen_back (s.start + 1) end steps h.2)

abbrev in_watts : SaScheduleTuple → Bool
in_watts tuple = list_all (λ (e : PMaxScheduleEntry). is_in_watts e.p_max) (entries_of tuple)

is_usable : (tuple : SaScheduleTuple) → usable tuple ≡ true → IsUsable tuple
is_usable tuple h =
    let steps = (schedule_of tuple).entries.items in
    let end = (schedule_of tuple).end in
    let both = and_parts (leb 1 tuple.sa_schedule_tuple_id && passes (schedule_of tuple)) (in_watts tuple) h in
    let front = and_parts (leb 1 tuple.sa_schedule_tuple_id) (passes (schedule_of tuple)) both.0 in
    let parts = and_parts (begins_at_zero steps) (rises 0 end steps) front.1 in
    record {
      number = leb-true 1 tuple.sa_schedule_tuple_id front.0;
      schedule = record { begins = begun steps parts.0; rise = risen 0 end steps parts.1 };
      watts = both.1;
    }

is_usable_back : (tuple : SaScheduleTuple) → IsUsable tuple → usable tuple ≡ true
is_usable_back tuple h =
    let steps = (schedule_of tuple).entries.items in
    let end = (schedule_of tuple).end in
    and_from (leb 1 tuple.sa_schedule_tuple_id && passes (schedule_of tuple)) (in_watts tuple)
    (and_from (leb 1 tuple.sa_schedule_tuple_id) (passes (schedule_of tuple)) (le-leb 1 tuple.sa_schedule_tuple_id h.number)
    (and_from (begins_at_zero steps) (rises 0 end steps) (begun_back steps h.schedule.begins) (risen_back 0 end steps h.schedule.rise))) h.watts

all_usable : (tuples : List SaScheduleTuple) → list_all usable tuples ≡ true → All IsUsable tuples
all_usable [] h = All-nil IsUsable
all_usable (t ∷ tuples) h =
    let both = and_parts (usable t) (list_all usable tuples) h in
    All-cons IsUsable t tuples (is_usable t both.0) (all_usable tuples both.1)

all_usable_back : (tuples : List SaScheduleTuple) → All IsUsable tuples → list_all usable tuples ≡ true
all_usable_back [] h = refl
all_usable_back (t ∷ tuples) h =
    and_from (usable t) (list_all usable tuples) (is_usable_back t (All-head IsUsable t tuples h)) (all_usable_back tuples (All-tail IsUsable t tuples h))

pub usable_iff : (tuples : List SaScheduleTuple) (b : Bool) → b ≡ list_all usable tuples → (b ≡ true) ↔ All IsUsable tuples
usable_iff tuples b is = (λ h. all_usable tuples (sym is ∙ h), λ h. is ∙ all_usable_back tuples h)
