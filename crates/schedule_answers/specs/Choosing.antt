-- Own: the profile with which a car answers the schedules of a reply. Seconds, watts and watt-seconds.
use Rattle.std.specs.Prelude.{◌≡◌, ◌*◌, ◌≤◌, All, List, ◌∷◌, ◌++◌}
use Rattle.iso_schedules.specs.declared.schedules.SaScheduleTuple.{SaScheduleTuple}
use Rattle.iso_message.specs.declared.message.IsoMessage.{IsoMessage}
use Rattle.schedules.specs.declared.power.Step.{Step}
use Rattle.schedules.specs.declared.power.Need.{Need}
use Rattle.schedules.specs.declared.power.Profile.{Profile}
use Rattle.schedules.specs.Steps.{energy}
use Rattle.schedules.specs.Profiles.{IsAllowed, IsBest}
use Rattle.schedule_answers.specs.Schedules.{schedule_of, cap_of, Tells}
use Rattle.schedule_answers.specs.declared.choosing.ScheduleFault.{ScheduleFault}
use Rattle.schedule_answers.specs.declared.choosing.ScheduleFault.TheVariants.{NoSchedule, Unreached}

-- the energy of the steps until the departure is as much as is needed
abbrev pub Reaches : Need → List Step → Type 0
Reaches need steps = 3600 * need.energy ≤ energy steps need.departure

-- no profile that the tuple allows reaches the energy, whatever its starts
abbrev pub Misses : Need → SaScheduleTuple → Type 0
Misses need tuple = (steps : List Step) → IsAllowed (schedule_of tuple) (cap_of need.max_watts) need.departure steps → Reaches need steps → ⊥

-- the best profile that the tuple allows, which reaches the energy
pub record IsAnswerTo (need : Need) (tuple : SaScheduleTuple) (profile : Profile) : Type 0 where
  pub tuple_is : profile.tuple ≡ tuple.sa_schedule_tuple_id
  pub best : IsBest (schedule_of tuple) (cap_of need.max_watts) need.departure profile.steps.items
  pub energy_is : profile.energy ≡ energy profile.steps.items need.departure
  pub reaches : Reaches need profile.steps.items

-- that of the first tuple that has one
pub record IsFirstAnswer (need : Need) (tuples : List SaScheduleTuple) (profile : Profile) : Type 0 where
  pub before : List SaScheduleTuple
  pub tuple : SaScheduleTuple
  pub behind : List SaScheduleTuple
  pub split : tuples ≡ before ++ tuple ∷ behind
  pub missed : All (Misses need) before
  pub answer : IsAnswerTo need tuple profile

pub record IsAnswer (message : IsoMessage) (need : Need) (profile : Profile) : Type 0 where
  pub tuples : List SaScheduleTuple
  pub told : Tells message tuples
  pub first : IsFirstAnswer need tuples profile

pub record IsUnreached (message : IsoMessage) (need : Need) : Type 0 where
  pub tuples : List SaScheduleTuple
  pub told : Tells message tuples
  pub missed : All (Misses need) tuples

-- why a message has no answer
abbrev pub IsFault : IsoMessage → Need → ScheduleFault → Type 0
IsFault message need NoSchedule = (tuples : List SaScheduleTuple) → Tells message tuples → ⊥
IsFault message need Unreached = IsUnreached message need
