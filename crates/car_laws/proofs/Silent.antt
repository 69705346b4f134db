-- Behind its end a car takes no step.
use Rattle.std.proofs.Common.{◌≡◌, Bool, true, false, List, [], ◌∷◌, Option, Some, None, refl, ◌∙◌, ◌⊎◌, inl, inr, ℕ, subst}
use Rattle.charge_world.specs.declared.entry.Entry.{Entry}
use Rattle.charge_world.specs.declared.offer.Dialect.{Dialect}
use Rattle.session_words.specs.declared.cause.EndCause.{EndCause}
use Rattle.session_words.specs.declared.plan.CarPlan.{CarPlan}
use Rattle.session_words.specs.declared.word.Reply.{Reply}
use Rattle.car_rules.specs.declared.stage.CarStage.{CarStage}
use Rattle.car_rules.specs.Moves.{is_again, stage_behind}
use Rattle.car_rules.specs.Replies.{reply_cause}
use Rattle.car_spec.specs.Codecs.{Judged, Chosen, Told, WrongSide, Refused, Codecs}
use Rattle.car_spec.specs.Steps.{Act, Seek, Dial, Give, Say, End, Step, Hears, Loses, Reads, Does}
use Rattle.car_spec.specs.States.{Session, State}
use Rattle.car_spec.specs.Deciding.{decided}
use Rattle.car_spec.specs.Judging.{chosen, moved, replied, replied_by, judged, judged_in, read}
use Rattle.car_spec.specs.Acting.{acted, state}
use Rattle.car_spec.specs.Next.{MayAct, MayRead}
use Rattle.car_spec.specs.Runs.{MayHear, IsRun}
use Rattle.car_laws.proofs.Decided.{same_over}

-- reading a word doesn't end a car
chosen_over : (plan : CarPlan) (s : State) (session : Session) (d : Option Dialect) → (chosen plan s session d).over ≡ s.over
chosen_over plan s session None = refl
chosen_over plan s session (Some d) = refl

moved_over : (plan : CarPlan) (s : State) (session : Session) (from : CarStage) (r : Reply) (to : CarStage) (b : Bool) → is_again from.phase to.phase ≡ b → (moved plan s session from r to).over ≡ s.over
moved_over plan s session from r to true e = rw e refl
moved_over plan s session from r to false e = rw e refl

replied_over : (o : Option EndCause) (plan : CarPlan) (s : State) (session : Session) (stage : CarStage) (r : Reply) → (replied_by o plan s session stage r).over ≡ s.over
replied_over (Some cause) plan s session stage r = refl
replied_over None plan s session stage r = moved_over plan s session stage r (stage_behind plan stage r session.stop) _ refl

told_over : (plan : CarPlan) (s : State) (session : Session) (o : Option CarStage) (r : Reply) → (replied plan s session o r).over ≡ s.over
told_over plan s session None r = refl
told_over plan s session (Some stage) r = replied_over (reply_cause plan stage _ r) plan s session stage r

judged_over : (plan : CarPlan) (s : State) (session : Session) (w : Judged) → (judged plan s session w).over ≡ s.over
judged_over plan s session (Chosen d) = chosen_over plan s session d
judged_over plan s session (Told r) = told_over plan s session session.stage r
judged_over plan s session WrongSide = refl
judged_over plan s session Refused = refl

over_in : (plan : CarPlan) (s : State) (o : Option Session) (w : Judged) → (judged_in plan s o w).over ≡ s.over
over_in plan s None w = refl
over_in plan s (Some session) w = judged_over plan s session w

read_over : (plan : CarPlan) (s : State) (w : Judged) → (read plan (decided plan s) w).over ≡ s.over
read_over plan s w = over_in plan (decided plan s) (decided plan s).session w ∙ same_over plan s

-- the newest step is the end
pub record IsEndedBy (steps : List Step) : Type 0 where
  pub cause : ℕ
  pub taken : Bool
  pub earlier : List Step
  pub is : steps ≡ Does (End cause) taken ∷ earlier

-- and behind that nothing is wanted and nothing is left to do
no_read : (c : Codecs) (plan : CarPlan) (steps : List Step) (w : Judged) → IsEndedBy steps → MayRead c plan (state plan steps) w → ⊥
no_read c plan steps w e m = subst (λ (l : List Step). MayRead c plan (state plan l) w) e.is m

no_act : (c : Codecs) (plan : CarPlan) (steps : List Step) (a : Act) (taken : Bool) → IsEndedBy steps → MayAct c plan (state plan steps) a taken → ⊥
no_act c plan steps a taken e m =
    let n : MayAct c plan (state plan (Does (End e.cause) e.taken ∷ e.earlier)) a taken = subst (λ (l : List Step). MayAct c plan (state plan l) a taken) e.is m in
    let x : None ≡ Some n.todo = n.acts in cc

-- the other acts don't end a car
acted_over : (a : Act) (taken : Bool) (s : State) (rest : List Step) → ((acted a taken s).over ≡ s.over) ⊎ IsEndedBy (Does a taken ∷ rest)
acted_over (Seek d) taken s rest = inl refl
acted_over (Dial port) true s rest = inl refl
acted_over (Dial port) false s rest = inl refl
acted_over (Give o) true s rest = inl refl
acted_over (Give o) false s rest = inl refl
acted_over (Say spoken bytes) true s rest = inl refl
acted_over (Say spoken bytes) false s rest = inl refl
acted_over (End cause) taken s rest = inr (record { cause = cause; taken = taken; earlier = rest; is = refl })

-- a car that took a step had not ended
before_by : (c : Codecs) (plan : CarPlan) (past : List Entry) (step : Step) (steps : List Step) → ((state plan steps).over ≡ false) ⊎ IsEndedBy steps
    → IsRun c plan past (step ∷ steps) → (state plan steps).over ≡ false
before_by c plan past step steps (inl h) r = h
before_by c plan past (Hears at e) steps (inr b) r = let m : MayHear plan r.0 (state plan steps) = r.2 in m.lives
before_by c plan past Loses steps (inr b) r = let m : MayHear plan r.0 (state plan steps) = r.2 in m.lives
before_by c plan past (Reads w) steps (inr b) r = absurd (no_read c plan steps w b r.1)
before_by c plan past (Does a taken) steps (inr b) r = absurd (no_act c plan steps a taken b r.2)

pub over_or_end : (c : Codecs) (plan : CarPlan) (past : List Entry) (steps : List Step) → IsRun c plan past steps → ((state plan steps).over ≡ false) ⊎ IsEndedBy steps
over_or_end c plan past [] r = inl refl
over_or_end c plan past (Hears at e ∷ steps) r = inl (before_by c plan past (Hears at e) steps (over_or_end c plan r.0 steps r.1) r)
over_or_end c plan past (Loses ∷ steps) r = inl (before_by c plan past Loses steps (over_or_end c plan r.0 steps r.1) r)
over_or_end c plan past (Reads w ∷ steps) r =
    inl (read_over plan (state plan steps) w ∙ before_by c plan past (Reads w) steps (over_or_end c plan past steps r.0) r)
over_or_end c plan past (Does a taken ∷ steps) r =
    let before = before_by c plan past (Does a taken) steps (over_or_end c plan r.0 steps r.1) r in
    elim (acted_over a taken (decided plan (state plan steps)) steps) [
      | inl h ↦ inl (h ∙ same_over plan (state plan steps) ∙ before)
      | inr e ↦ inr e
    ]

earlier_run : (c : Codecs) (plan : CarPlan) (past : List Entry) (step : Step) (steps : List Step) → IsRun c plan past (step ∷ steps) → (earlier : List Entry) × IsRun c plan earlier steps
earlier_run c plan past (Hears at e) steps r = (r.0, r.1)
earlier_run c plan past Loses steps r = (r.0, r.1)
earlier_run c plan past (Reads w) steps r = (past, r.0)
earlier_run c plan past (Does a taken) steps r = (r.0, r.1)

pub before_step : (c : Codecs) (plan : CarPlan) (past : List Entry) (step : Step) (steps : List Step) → IsRun c plan past (step ∷ steps) → (state plan steps).over ≡ false
before_step c plan past step steps r =
    let e = earlier_run c plan past step steps r in before_by c plan past step steps (over_or_end c plan e.0 steps e.1) r
