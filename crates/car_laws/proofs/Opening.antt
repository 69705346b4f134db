-- At the end of a whole run the last order that was taken isn't Close, unless a later Open failed.
use Rattle.std.proofs.Common.{◌≡◌, ℕ, Bool, true, false, not, ◌&&◌, List, [], ◌∷◌, Option, Some, None, refl, sym, ap, subst, ◌∙◌, inl, inr}
use Rattle.charge_world.specs.declared.entry.Entry.{Entry}
use Rattle.charge_world.specs.declared.entry.Entry.TheVariants as entry
use Rattle.charge_world.specs.declared.ports.Order.{Order}
use Rattle.charge_world.specs.declared.ports.Order.TheVariants as order
use Rattle.session_words.specs.declared.cause.EndCause.{EndCause}
use Rattle.session_words.specs.declared.plan.CarPlan.{CarPlan}
use Rattle.car_spec.specs.Codecs.{Codecs}
use Rattle.car_spec.specs.Steps.{Spoken, Say, End, Step, Does}
use Rattle.car_spec.specs.States.{Agenda, State, first_of, first}
use Rattle.car_spec.specs.States as states
use Rattle.car_spec.specs.Deciding.{decided}
use Rattle.car_spec.specs.Acting.{state}
use Rattle.car_spec.specs.Next.{IsDone, IsSaid, MayAct}
use Rattle.car_spec.specs.Runs.{IsRun, Closes, IsCarRun}
use Rattle.car_laws.specs.Contactor.{live, live_behind, closed, closed_behind, failed_open}
use Rattle.car_laws.proofs.Decided.{same_live}
use Rattle.car_laws.proofs.Live.{live_read}
use Rattle.car_laws.proofs.Silent.{IsEndedBy, over_or_end}
use Rattle.car_laws.proofs.Agendas.{OpensBy, decided_opens}
use Rattle.car_laws.proofs.Acts.{run_opens}

-- a contactor whose last taken order is Close is live
closed_ordered : (o : Order) (taken shut alive : Bool) → (shut ≡ true → alive ≡ true) → closed_behind o taken shut ≡ true → live_behind o taken alive ≡ true
closed_ordered order.Close taken shut alive k h = refl
closed_ordered order.Open true shut alive k h = cc
closed_ordered order.Open false shut alive k h = k h
closed_ordered (order.Limits v a w) true shut alive k h = k h
closed_ordered (order.Limits v a w) false shut alive k h = k h

pub closed_live : (past : List Entry) → closed past ≡ true → live past ≡ true
closed_live [] h = cc
closed_live (entry.Heard heard bytes ∷ past) h = closed_live past h
closed_live (entry.Lost ∷ past) h = closed_live past h
closed_live (entry.Sent post bytes taken ∷ past) h = closed_live past h
closed_live (entry.Answered post bytes taken ∷ past) h = closed_live past h
closed_live (entry.Drove post o taken ∷ past) h = closed_ordered o taken (closed past) (live past) (closed_live past) h
closed_live (entry.Dialed port taken ∷ past) h = closed_live past h
closed_live (entry.Ended post cause ∷ past) h = closed_live past h

-- the end is what is done first
ending_first : (e : Option EndCause) (p : Option ℕ) (sp : Option Spoken) (o : Option Order) (seeks l f : Bool) (cause : EndCause) → first_of p o sp e seeks ≡ Some (states.Finish cause)
    → OpensBy e p sp o l f → l ≡ true → f ≡ true
ending_first (Some c) None None None seeks l f cause h (inl n) t = let x : true ≡ false = sym t ∙ n in cc
ending_first (Some c) None None None seeks l f cause h (inr y) t = y
ending_first (Some c) None None (Some order.Open) seeks l f cause h k t = cc
ending_first (Some c) None None (Some order.Close) seeks l f cause h k t = absurd k
ending_first (Some c) None None (Some (order.Limits v a w)) seeks l f cause h k t = absurd k
ending_first (Some c) None (Some said) o seeks l f cause h k t = absurd k
ending_first (Some c) (Some port) sp o seeks l f cause h k t = absurd k
ending_first None (Some port) sp o seeks l f cause h k t = cc
ending_first None None sp (Some given) seeks l f cause h k t = cc
ending_first None None (Some said) None seeks l f cause h k t = cc
ending_first None None None None true l f cause h k t = cc
ending_first None None None None false l f cause h k t = cc

end_is : (c : Codecs) (plan : CarPlan) (todo : states.Todo) (cause : ℕ) (taken : Bool) → IsDone c plan todo (End cause) taken → (why : EndCause) × (todo ≡ states.Finish why)
end_is c plan (states.Call port) cause taken d = cc
end_is c plan (states.Drive o) cause taken d = cc
end_is c plan (states.Speak said) cause taken d = let i : IsSaid c plan said (End cause) = d in let x : End cause ≡ Say said _ = i.act_is in cc
end_is c plan (states.Finish why) cause taken d = (why, refl)
end_is c plan states.Inquire cause taken d = cc

-- a run whose newest step is the end
ended_open : (c : Codecs) (plan : CarPlan) (past : List Entry) (cause : ℕ) (taken : Bool) (steps : List Step) → IsRun c plan past (Does (End cause) taken ∷ steps)
    → live past ≡ true → failed_open past ≡ true
ended_open c plan past cause taken steps r l =
    let m : MayAct c plan (state plan steps) (End cause) taken = r.2 in
    let t : past ≡ entry.Ended 1 cause ∷ r.0 = r.3 in
    let s : State = decided plan (state plan steps) in
    let alive : s.live ≡ true = same_live plan (state plan steps) ∙ live_read c plan r.0 steps r.1 ∙ sym (ap live t) ∙ l in
    let e = end_is c plan m.todo cause taken m.done in
    let f : first s.agenda ≡ Some (states.Finish e.0) = m.acts ∙ ap Some e.1 in
    ap failed_open t ∙ ending_first s.agenda.ending s.agenda.port s.agenda.spoken s.agenda.order s.agenda.seeks s.live (failed_open r.0) e.0 f
    (decided_opens plan (state plan steps) (failed_open r.0) (run_opens c plan r.0 steps r.1)) alive

-- the order that closes a run
closing : (alive over : Bool) (blocks past : List Entry) → Closes (alive && not over) blocks past → (alive ≡ false → closed blocks ≡ true → ⊥)
    → (over ≡ true → alive ≡ true → failed_open blocks ≡ true) → closed past ≡ true → failed_open past ≡ true
closing false over blocks past k dead ended h = absurd (dead refl (sym (ap closed k) ∙ h))
closing true true blocks past k dead ended h = ap failed_open k ∙ ended refl refl
closing true false blocks past (true, e) dead ended h = let x : false ≡ true = sym (ap closed e) ∙ h in cc
closing true false blocks past (false, e) dead ended h = ap failed_open e

over_end : (c : Codecs) (plan : CarPlan) (past : List Entry) (steps : List Step) → IsRun c plan past steps → (state plan steps).over ≡ true → IsEndedBy steps
over_end c plan past steps r o = elim (over_or_end c plan past steps r) [
  | inl n ↦ absurd (let x : true ≡ false = sym o ∙ n in cc)
  | inr e ↦ e
]

pub ends_open : (c : Codecs) (plan : CarPlan) (past : List Entry) → IsCarRun c plan past → closed past ≡ true → failed_open past ≡ true
ends_open c plan past r =
    let s : State = state plan r.steps in
    let kept : s.live ≡ live r.blocks = live_read c plan r.blocks r.steps r.run in
    closing s.live s.over r.blocks past r.closes
    (λ dead h. let x : true ≡ false = sym (closed_live r.blocks h) ∙ sym kept ∙ dead in cc)
    (λ o alive. let e = over_end c plan r.blocks r.steps r.run o in
    ended_open c plan r.blocks e.cause e.taken e.earlier (subst (λ (l : List Step). IsRun c plan r.blocks l) e.is r.run) (sym kept ∙ alive))
