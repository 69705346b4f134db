-- A payload has one fate: its messages tell the same schedules, of which each has one best profile.
use Rattle.std.proofs.Common.{◌≡◌, ℕ, List, [], ◌∷◌, ◌++◌, Option, Some, None, refl, sym, ap, subst, ◌∙◌}
use Rattle.std.specs.Prelude.{All}
use Rattle.std.proofs.lemmas.List.Elements.{All-head, All-tail}
use Rattle.iso_schedules.specs.declared.schedules.SaScheduleTuple.{SaScheduleTuple}
use Rattle.iso_schedules.specs.declared.schedules.SaSchedules.{SaSchedules}
use Rattle.iso_schedules.specs.declared.schedules.SaSchedules.TheVariants.{SaScheduleList}
use Rattle.iso_message.specs.declared.message.BodyElement.{BodyElement}
use Rattle.iso_message.specs.declared.message.BodyElement.TheVariants as element
use Rattle.iso_message.specs.declared.message.IsoMessage.{IsoMessage}
use Rattle.iso_message.specs.Documents.{IsIso}
use Rattle.schedules.specs.declared.power.Step.{Step}
use Rattle.schedules.specs.declared.power.Schedule.{Schedule}
use Rattle.schedules.specs.declared.power.Need.{Need}
use Rattle.schedules.specs.declared.power.Profile.{Profile}
use Rattle.schedules.specs.Steps.{energy}
use Rattle.schedules.specs.Profiles.{IsBest}
use Rattle.schedule_answers.specs.Schedules.{schedule_of, cap_of, Lists, TellsIn, Tells}
use Rattle.schedule_answers.specs.Choosing.{Misses, IsAnswerTo, IsAnswer, IsFault}
use Rattle.schedule_answers.specs.declared.choosing.ScheduleFault.{ScheduleFault}
use Rattle.schedule_answers.specs.declared.choosing.ScheduleFault.TheVariants.{NoSchedule, Unreached}
use Rattle.schedule_answers.specs.Answers.{IsAnswerIn, IsFaultIn}
use Rattle.schedule_answers.proofs.OneTelling.{same_told}

-- ---- the messages of a payload

tells : (payload : List ℕ) (m n : IsoMessage) (tuples : List SaScheduleTuple) → IsIso m payload → IsIso n payload → Tells m tuples → Tells n tuples
tells payload m n tuples p q h = record { told = same_told payload m n tuples p q h.told; usable = h.usable }

-- ---- the schedules of a message

lists_one : (s : Option SaSchedules) (one other : List SaScheduleTuple) → Lists s one → Lists s other → one ≡ other
lists_one None one other p q = absurd p
lists_one (Some (SaScheduleList list)) one other p q = p ∙ sym q

tells_one : (e : Option BodyElement) (one other : List SaScheduleTuple) → TellsIn e one → TellsIn e other → one ≡ other
tells_one None one other p q = absurd p
tells_one (Some (element.Brief x)) one other p q = absurd p
tells_one (Some (element.ChargeParameterDiscoveryRes x)) one other p q = lists_one x.sa_schedules one other p.1 q.1
tells_one (Some (element.ServiceDetailRes x)) one other p q = absurd p
tells_one (Some (element.ServiceDiscoveryRes x)) one other p q = absurd p

same_tuples : (payload : List ℕ) (m n : IsoMessage) (one other : List SaScheduleTuple) → IsIso m payload → IsIso n payload
    → Tells m one → Tells n other → one ≡ other
same_tuples payload m n one other p q h k = tells_one m.body.element one other h.told (same_told payload n m other q p k.told)

-- ---- the first tuple that is answered

abbrev pub OneBest : Type 0
OneBest = (schedule : Schedule) (cap departure : ℕ) (one other : List Step) → IsBest schedule cap departure one → IsBest schedule cap departure other → one ≡ other

-- a tuple that is answered isn't missed
not_missed : (need : Need) (tuple : SaScheduleTuple) (profile : Profile) → IsAnswerTo need tuple profile → Misses need tuple → ⊥
not_missed need tuple profile is misses = misses profile.steps.items is.best.allowed is.reaches

middle : (P : SaScheduleTuple → Type 0) (before : List SaScheduleTuple) (tuple : SaScheduleTuple) (behind : List SaScheduleTuple) → All P (before ++ tuple ∷ behind) → P tuple
middle P [] tuple behind all = All-head P tuple behind all
middle P (t ∷ before) tuple behind all = middle P before tuple behind (All-tail P t (before ++ tuple ∷ behind) all)

same_first : (need : Need) (b c : List SaScheduleTuple) (t u : SaScheduleTuple) (x y : List SaScheduleTuple) (p q : Profile) → b ++ t ∷ x ≡ c ++ u ∷ y
    → All (Misses need) b → All (Misses need) c → IsAnswerTo need t p → IsAnswerTo need u q → t ≡ u
same_first need [] [] t u x y p q is before after one other = cc
same_first need [] (v ∷ c) t u x y p q is before after one other =
    let here : v ≡ t = cc in
    absurd (not_missed need t p one (subst (Misses need) here (All-head (Misses need) v c after)))
same_first need (v ∷ b) [] t u x y p q is before after one other =
    let here : v ≡ u = cc in
    absurd (not_missed need u q other (subst (Misses need) here (All-head (Misses need) v b before)))
same_first need (v ∷ b) (w ∷ c) t u x y p q is before after one other =
    let rest : b ++ t ∷ x ≡ c ++ u ∷ y = cc in
    same_first need b c t u x y p q rest (All-tail (Misses need) v b before) (All-tail (Misses need) w c after) one other

abbrev profile_of : ℕ → ℕ → List Step → Profile
profile_of tuple sum steps = record { tuple = tuple; energy = sum; steps = record { items = steps } }

same_profile : OneBest → (need : Need) (tuple : SaScheduleTuple) (p q : Profile) → IsAnswerTo need tuple p → IsAnswerTo need tuple q → p ≡ q
same_profile law need tuple p q a b =
    let steps = law (schedule_of tuple) (cap_of need.max_watts) need.departure p.steps.items q.steps.items a.best b.best in
    let sum = a.energy_is ∙ ap (λ (s : List Step). energy s need.departure) steps ∙ sym b.energy_is in
    ap (λ (n : ℕ). profile_of n p.energy p.steps.items) (a.tuple_is ∙ sym b.tuple_is)
    ∙ ap (λ (n : ℕ). profile_of q.tuple n p.steps.items) sum
    ∙ ap (λ (s : List Step). profile_of q.tuple q.energy s) steps

-- ---- fates

pub same_answer : OneBest → (payload : List ℕ) (need : Need) (one other : Profile) → IsAnswerIn payload need one → IsAnswerIn payload need other → one ≡ other
same_answer best payload need one other p q =
    let a = p.answer.first in
    let b = q.answer.first in
    let lists = same_tuples payload p.message q.message p.answer.tuples q.answer.tuples p.spelled q.spelled p.answer.told q.answer.told in
    let tuple = same_first need a.before b.before a.tuple b.tuple a.behind b.behind one other (sym a.split ∙ lists ∙ b.split) a.missed b.missed a.answer b.answer in
    same_profile best need a.tuple one other a.answer (subst (λ (t : SaScheduleTuple). IsAnswerTo need t other) (sym tuple) b.answer)

answered_told : (payload : List ℕ) (need : Need) (fault : ScheduleFault) (m n : IsoMessage) (profile : Profile) → IsIso m payload → IsIso n payload
    → IsAnswer m need profile → IsFault n need fault → ⊥
answered_told payload need NoSchedule m n profile p q is none = none is.tuples (tells payload m n is.tuples p q is.told)
answered_told payload need Unreached m n profile p q is none =
    let lists = same_tuples payload m n is.tuples none.tuples p q is.told none.told in
    let first = is.first in
    let missed = middle (Misses need) first.before first.tuple first.behind (subst (All (Misses need)) (sym lists ∙ first.split) none.missed) in
    not_missed need first.tuple profile first.answer missed

pub answer_apart : (payload : List ℕ) (need : Need) (profile : Profile) (fault : ScheduleFault) → IsAnswerIn payload need profile → IsFaultIn payload need fault → ⊥
answer_apart payload need profile fault p q = answered_told payload need fault p.message q.message profile p.spelled q.spelled p.answer q.fault_is

faults_one : (payload : List ℕ) (need : Need) (f g : ScheduleFault) (m n : IsoMessage) → IsIso m payload → IsIso n payload
    → IsFault m need f → IsFault n need g → f ≡ g
faults_one payload need NoSchedule NoSchedule m n p q one other = refl
faults_one payload need NoSchedule Unreached m n p q one other = absurd (one other.tuples (tells payload n m other.tuples q p other.told))
faults_one payload need Unreached NoSchedule m n p q one other = absurd (other one.tuples (tells payload m n one.tuples p q one.told))
faults_one payload need Unreached Unreached m n p q one other = refl

pub same_fault : (payload : List ℕ) (need : Need) (one other : ScheduleFault) → IsFaultIn payload need one → IsFaultIn payload need other → one ≡ other
same_fault payload need one other p q = faults_one payload need one other p.message q.message p.spelled q.spelled p.fault_is q.fault_is
