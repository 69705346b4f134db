-- The first tuple that has a profile which reaches the energy.
use Rattle.std.proofs.Common.{◌≡◌, ℕ, ◌+◌, ◌*◌, ◌<◌, ◌≤◌, List, ◌∷◌, ◌++◌, length, take, drop, get_or, sym, ap, subst, ◌∙◌, arith}
use Rattle.std.specs.Prelude.{All}
use Rattle.std.proofs.lemmas.List.{take-append-drop, take_all, drop_more}
use Rattle.std.proofs.lemmas.List.Elements.{All-more}
use Rattle.iso_schedules.specs.declared.schedules.SaScheduleTuple.{SaScheduleTuple}
use Rattle.schedules.specs.declared.power.Step.{Step}
use Rattle.schedules.specs.declared.power.Need.{Need}
use Rattle.schedules.specs.declared.power.Profile.{Profile}
use Rattle.schedules.specs.Steps.{energy}
use Rattle.schedules.specs.Profiles.{IsBest}
use Rattle.schedule_answers.specs.Schedules.{schedule_of, cap_of}
use Rattle.schedule_answers.specs.Choosing.{Misses, IsAnswerTo, IsFirstAnswer}

-- where the best profile doesn't reach the energy, none does
pub misses : (need : Need) (tuple : SaScheduleTuple) (steps : List Step) (sum : ℕ)
    → IsBest (schedule_of tuple) (cap_of need.max_watts) need.departure steps → sum ≡ energy steps need.departure → sum < 3600 * need.energy
    → Misses need tuple
misses need tuple steps sum best is less = λ other allowed reaches.
    let most : energy other need.departure ≤ energy steps need.departure = best.most other allowed in
    omega (arith, most, is, less, reaches)

pub missed_more : (need : Need) (tuples : List SaScheduleTuple) (i : ℕ) (tuple : SaScheduleTuple) → i < length tuples → tuple ≡ get_or tuples i tuple
    → All (Misses need) (take i tuples) → Misses need tuple → All (Misses need) (take (i + 1) tuples)
missed_more need tuples i tuple lt is missed here = All-more (Misses need) tuples i tuple lt missed (subst (Misses need) is here)

pub missed_all : (need : Need) (tuples : List SaScheduleTuple) (i : ℕ) → length tuples ≤ i → All (Misses need) (take i tuples) → All (Misses need) tuples
missed_all need tuples i le missed = subst (All (Misses need)) (take_all i tuples le) missed

pub first_answer : (need : Need) (tuples : List SaScheduleTuple) (i : ℕ) (tuple : SaScheduleTuple) (profile : Profile) → i < length tuples
    → tuple ≡ get_or tuples i tuple → All (Misses need) (take i tuples) → IsAnswerTo need tuple profile → IsFirstAnswer need tuples profile
first_answer need tuples i tuple profile lt is missed answer = record {
  before = take i tuples;
  tuple = tuple;
  behind = drop (i + 1) tuples;
  split =
      let rest : drop i tuples ≡ tuple ∷ drop (i + 1) tuples = drop_more tuples i tuple lt ∙ ap (λ (t : SaScheduleTuple). t ∷ drop (i + 1) tuples) (sym is) in
      sym (take-append-drop i tuples) ∙ ap (λ (ts : List SaScheduleTuple). take i tuples ++ ts) rest;
  missed = missed;
  answer = answer;
}
