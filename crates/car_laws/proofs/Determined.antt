-- What a car does next is determined by what it keeps.
use Rattle.std.proofs.Common.{◌≡◌, ℕ, Bool, false, if◌then◌else◌, List, Option, Some, None, sym, ap, subst, ◌∙◌}
use Rattle.charge_world.specs.declared.offer.Dialect.{Dialect}
use Rattle.session_words.specs.declared.plan.CarPlan.{CarPlan}
use Rattle.v2gtp_frames.specs.Frames.{frame}
use Rattle.car_spec.specs.Codecs.{Judged, Codecs, judged_word, Judges}
use Rattle.car_spec.specs.Next.{IsSpoken, IsSaid, IsDone}
use Rattle.car_spec.specs.Spelled.{AreDetermined}
use Rattle.car_spec.specs.States.{Session, State, first, is_none, is_done}
use Rattle.car_spec.specs.States as states
use Rattle.car_spec.specs.Deciding.{decided}
use Rattle.car_spec.specs.Judging.{Payload, payload_in, wanted, IsRead}
use Rattle.car_spec.specs.Steps.{Spoken, Offer, Asked, Act, Say}
use Rattle.car_laws.specs.Determined.{IsDetermined}

one_payload : (c : Codecs) (plan : CarPlan) (said : Spoken) (a b : List ℕ) → AreDetermined c → IsSpoken c plan said a → IsSpoken c plan said b → a ≡ b
one_payload c plan Offer a b d x y = d.offers plan.dialects.items a b x y
one_payload c plan (Asked dialect request) a b d x y = d.encodes dialect request a b x y

one_done : (c : Codecs) (plan : CarPlan) (todo : states.Todo) (a b : Act) (t u : Bool) → AreDetermined c → IsDone c plan todo a t → IsDone c plan todo b u → a ≡ b
one_done c plan (states.Call port) a b t u d x y = x ∙ sym y
one_done c plan (states.Drive o) a b t u d x y = x ∙ sym y
one_done c plan (states.Speak said) a b t u d x y =
    let i : IsSaid c plan said a = x in let j : IsSaid c plan said b = y in
    i.act_is ∙ ap (λ (p : List ℕ). Say said (frame p)) (one_payload c plan said i.payload j.payload d i.spoken_is j.spoken_is) ∙ sym j.act_is
one_done c plan (states.Finish cause) a b t u d x y = x.0 ∙ sym y.0
one_done c plan states.Inquire a b t u d x y = x ∙ sym y

one_judged : (c : Codecs) (offers : List Dialect) (o : Option Dialect) (payload : List ℕ) (v w : Judged) → AreDetermined c → Judges c offers o payload v → Judges c offers o payload w → v ≡ w
one_judged c offers None payload v w d x y = d.responds offers payload v w x y
one_judged c offers (Some dialect) payload v w d x y = x.2 ∙ ap judged_word (d.reads dialect payload x.0 y.0 x.1 y.1) ∙ sym y.2

one_read : (c : Codecs) (plan : CarPlan) (o : Option Payload) (v w : Judged) → AreDetermined c → IsRead c plan o v → IsRead c plan o w → v ≡ w
one_read c plan None v w d x y = absurd x
one_read c plan (Some p) v w d x y = one_judged c plan.dialects.items p.dialect p.bytes v w d x y

-- while something is to be done nothing is read
unwanted : (c : Codecs) (plan : CarPlan) (s : State) (todo : states.Todo) (w : Judged) → first s.agenda ≡ Some todo → IsRead c plan (wanted s) w → ⊥
unwanted c plan s todo w h j =
    let busy : is_done s.agenda ≡ false = ap is_none h in
    subst (λ (b : Bool). IsRead c plan (if b then payload_in s.session else None) w) busy j

pub determined : (c : Codecs) → AreDetermined c → (plan : CarPlan) (s : State) → IsDetermined c plan s
determined c d plan s = record {
  one_act = λ a b t u m n.
      let same : m.todo ≡ n.todo = (let x : Some m.todo ≡ Some n.todo = sym m.acts ∙ n.acts in cc) in
      one_done c plan n.todo a b t u d (subst (λ (x : states.Todo). IsDone c plan x a t) same m.done) n.done;
  one_word = λ v w x y. one_read c plan (wanted (decided plan s)) v w d x y;
  act_or_word = λ a t w m j. unwanted c plan (decided plan s) m.todo w m.acts j;
  no_act_at_rest = λ a t q m. (let x : None ≡ Some m.todo = sym q.none ∙ m.acts in cc);
  no_word_at_rest = λ w q j. subst (λ (x : Option Payload). IsRead c plan x w) q.no_word j;
}
