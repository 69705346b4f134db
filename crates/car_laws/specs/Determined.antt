-- Own: what a car does next is determined by what it keeps: it has one act, but for its outcome, or one word to read, or it waits for a hearing.
use Rattle.std.specs.Prelude.{◌≡◌, Bool}
use Rattle.session_words.specs.declared.plan.CarPlan.{CarPlan}
use Rattle.car_spec.specs.Codecs.{Judged, Codecs}
use Rattle.car_spec.specs.Next.{IsQuiet, MayAct, MayRead}
use Rattle.car_spec.specs.Spelled.{AreDetermined}
use Rattle.car_spec.specs.States.{State}
use Rattle.car_spec.specs.Steps.{Act}

pub record IsDetermined (c : Codecs) (plan : CarPlan) (s : State) : Type 0 where
  pub one_act : (a b : Act) (t u : Bool) → MayAct c plan s a t → MayAct c plan s b u → a ≡ b
  pub one_word : (v w : Judged) → MayRead c plan s v → MayRead c plan s w → v ≡ w
  pub act_or_word : (a : Act) (t : Bool) (w : Judged) → MayAct c plan s a t → MayRead c plan s w → ⊥
  pub no_act_at_rest : (a : Act) (t : Bool) → IsQuiet plan s → MayAct c plan s a t → ⊥
  pub no_word_at_rest : (w : Judged) → IsQuiet plan s → MayRead c plan s w → ⊥

abbrev pub CarsAreDetermined : Codecs → Type 0
CarsAreDetermined c = AreDetermined c → (plan : CarPlan) (s : State) → IsDetermined c plan s
