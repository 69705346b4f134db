-- A profile that answers can be asked for.
use Rattle.std.proofs.Common.{ℕ, ◌*◌, ◌/◌, ◌<◌, ◌≤◌, nat_lt, Bool, cond, true, false, pos, List, [], ◌∷◌, ◌++◌, subst, arith}
use Rattle.std.specs.Prelude.{All}
use Rattle.std.specs.List.{AllByRecursion}
use Rattle.std.proofs.lemmas.List.Elements.{All-from_recursion, All-head, All-tail}
use Rattle.session_words.specs.Amounts.{units_of}
use Rattle.word_values.specs.declared.amounts.Written.{Written}
use Rattle.word_values.specs.Amounts.{nearest, written}
use Rattle.iso_schedules.specs.declared.schedules.SaScheduleTuple.{SaScheduleTuple}
use Rattle.schedules.specs.declared.power.Step.{Step}
use Rattle.schedules.specs.declared.power.Schedule.{Schedule}
use Rattle.schedules.specs.declared.power.Need.{Need}
use Rattle.schedules.specs.declared.power.Profile.{Profile}
use Rattle.schedules.specs.Profiles.{IsBest}
use Rattle.schedules.specs.Bounds.{IsBounded, AreBounded}
use Rattle.schedule_answers.specs.Schedules.{IsUsable, schedule_of, cap_of}
use Rattle.schedule_answers.specs.Requests.{CanWrite, CanRequest}
use Rattle.schedule_answers.specs.Answers.{IsAnswerIn}

-- ---- the cap as it is written

abbrev size_of : Written → ℕ
size_of w = units_of (nearest w.multiplier) w.value

ones : (n : ℕ) → n * 1000 / 1000 ≤ n
ones n = omega arith

tens : (n : ℕ) → n / 10 * 10000 / 1000 ≤ n
tens n = omega arith

hundreds : (n : ℕ) → n / 100 * 100000 / 1000 ≤ n
hundreds n = omega arith

thousands : (n : ℕ) → n / 1000 * 1000000 / 1000 ≤ n
thousands n = omega arith

by_tests : (a b c : Bool) (n : ℕ)
    → size_of (cond a (written (pos 0) n) (cond b (written (pos 1) (n / 10)) (cond c (written (pos 2) (n / 100)) (written (pos 3) (n / 1000))))) ≤ n
by_tests true b c n = ones n
by_tests false true c n = tens n
by_tests false false true n = hundreds n
by_tests false false false n = thousands n

cap_within : (n : ℕ) → cap_of n ≤ n
cap_within n = by_tests (nat_lt n 32768) (nat_lt n 327680) (nat_lt n 3276800) n

-- ---- the steps

each_can : (steps : List Step) (cap departure : ℕ) → departure ≤ 86400 → cap < 32768000 → AllByRecursion (IsBounded cap departure) steps → AllByRecursion CanWrite steps
each_can [] cap departure day small each = tt
each_can (s ∷ steps) cap departure day small each =
    ((omega (arith, each.0.0, day), omega (arith, each.0.1, small)), each_can steps cap departure day small each.1)

-- ---- the tuple

middle : (before : List SaScheduleTuple) (tuple : SaScheduleTuple) (behind : List SaScheduleTuple) → All IsUsable (before ++ tuple ∷ behind) → IsUsable tuple
middle [] tuple behind all = All-head IsUsable tuple behind all
middle (t ∷ before) tuple behind all = middle before tuple behind (All-tail IsUsable t (before ++ tuple ∷ behind) all)

abbrev pub BoundsBest : Type 0
BoundsBest = (schedule : Schedule) (cap departure : ℕ) (steps : List Step) → IsBest schedule cap departure steps → AreBounded cap departure steps

pub can_request : BoundsBest → (payload : List ℕ) (need : Need) (profile : Profile) → need.departure ≤ 86400 → need.max_watts < 32768000
    → IsAnswerIn payload need profile → CanRequest profile
can_request law payload need profile day watts is =
    let first = is.answer.first in
    let usable : IsUsable first.tuple = middle first.before first.tuple first.behind (subst (All IsUsable) first.split is.answer.told.usable) in
    let bounds = law (schedule_of first.tuple) (cap_of need.max_watts) need.departure profile.steps.items first.answer.best in
    let small : cap_of need.max_watts < 32768000 = omega (arith, cap_within need.max_watts, watts) in
    record {
      tuple = omega (arith, first.answer.tuple_is, usable.number);
      some = bounds.some;
      few = bounds.few;
      steps = All-from_recursion CanWrite profile.steps.items (each_can profile.steps.items (cap_of need.max_watts) need.departure day small bounds.each);
    }
