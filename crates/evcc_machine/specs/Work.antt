-- Own: how much a car may still do before the next hearing.
use Rattle.std.specs.Prelude.{◌≡◌, ◌<◌, ℕ, ◌+◌, ◌*◌, Bool, true, false, length, Option, Some, None}
use Rattle.session_words.specs.declared.cause.EndCause.{EndCause}
use Rattle.session_words.specs.declared.plan.CarPlan.{CarPlan}
use Rattle.session_words.specs.Plans.{IsCarPlan}
use Rattle.car_rules.specs.Searching.{next_request}
use Rattle.car_spec.specs.Acting.{acted}
use Rattle.car_spec.specs.Codecs.{Judged, Codecs}
use Rattle.car_spec.specs.Deciding.{decided}
use Rattle.car_spec.specs.Due.{again_in, is_due}
use Rattle.car_spec.specs.Judging.{Payload, wanted, read}
use Rattle.car_spec.specs.Next.{MayAct}
use Rattle.car_spec.specs.States.{Agenda, Part, Unheard, Timing, Eventing, Wording, State}
use Rattle.car_spec.specs.Steps.{Spoken, Act}
use Rattle.evcc_machine.specs.Views.{unread_in}

abbrev pub parts_left : Part → ℕ
parts_left Unheard = 0
parts_left Timing = 2
parts_left Eventing = 1
parts_left Wording = 0

abbrev pub one_if : {A : Type 0} → Option A → ℕ
one_if None = 0
one_if (Some a) = 1

abbrev pub weight : Bool → ℕ → ℕ
weight true n = n
weight false n = 0

-- what was decided
abbrev pub load : Agenda → ℕ
load a = one_if a.port + one_if a.order + one_if a.spoken + one_if a.ending + weight a.seeks 1

-- a request that is due once more, and a post that is to be looked for, unless that is decided already
abbrev pub repeats : Option Spoken → Bool → ℕ
repeats None due = weight due 2
repeats (Some spoken) due = 0

abbrev pub seeks : Bool → Bool → ℕ
seeks false due = weight due 2
seeks true due = 0

-- a car that has no cause yet may get one
abbrev pub spare_by : Bool → Option EndCause → ℕ → ℕ
spare_by true ending pending = 0
spare_by false (Some cause) pending = 0
spare_by false None pending = 7 + pending

abbrev pub pending : CarPlan → State → ℕ
pending plan s = repeats s.agenda.spoken (is_due (again_in s.session) s.clock) + seeks s.agenda.seeks (is_due (next_request plan s.search) s.clock)

abbrev pub spare : CarPlan → State → ℕ
spare plan s = spare_by s.over s.agenda.ending (pending plan s)

abbrev pub work : CarPlan → State → ℕ
work plan s = load s.agenda + 6 * parts_left s.part + length (unread_in s.session) + spare plan s

-- each act of a car that didn't end leaves less to do
abbrev pub ActsLessen : Codecs → Type 0
ActsLessen c = (plan : CarPlan) (s : State) (act : Act) (taken : Bool) → (decided plan s).over ≡ false → MayAct c plan s act taken
    → work plan (acted act taken (decided plan s)) < work plan s

-- and so does each word that is read
abbrev pub WordsLessen : Type 0
WordsLessen = (plan : CarPlan) (s : State) (payload : Payload) (word : Judged) → IsCarPlan plan → wanted (decided plan s) ≡ Some payload
    → work plan (read plan (decided plan s) word) < work plan s
