-- Whether a car has ended, behind what it reads and does.
use Rattle.std.proofs.Common.{◌≡◌, ℕ, Bool, true, false, Option, Some, None, is_some, refl, ◌∙◌}
use Rattle.charge_world.specs.declared.offer.Dialect.{Dialect}
use Rattle.session_words.specs.declared.cause.EndCause.{EndCause}
use Rattle.session_words.specs.declared.plan.CarPlan.{CarPlan}
use Rattle.session_words.specs.declared.word.Reply.{Reply}
use Rattle.car_rules.specs.declared.stage.CarStage.{CarStage}
use Rattle.car_rules.specs.Moves.{is_again, stage_behind}
use Rattle.car_rules.specs.Replies.{reply_cause}
use Rattle.car_spec.specs.Codecs.{Judged, Chosen, Told, WrongSide, Refused}
use Rattle.car_spec.specs.Steps.{Act, Seek, Dial, Give, Say, End}
use Rattle.car_spec.specs.States.{Session, State}
use Rattle.car_spec.specs.Deciding.{decided}
use Rattle.car_spec.specs.Judging.{chosen, moved, replied, replied_by, judged, judged_in, read}
use Rattle.car_spec.specs.Acting.{acted}
use Rattle.car_laws.proofs.Decided.{same_over}
use Rattle.pipe_spec.specs.Histories.{car_ended_by}

chosen_over : (plan : CarPlan) (s : State) (session : Session) (d : Option Dialect) → (chosen plan s session d).over ≡ s.over
chosen_over plan s session None = refl
chosen_over plan s session (Some d) = refl

moved_over : (plan : CarPlan) (s : State) (session : Session) (from : CarStage) (r : Reply) (to : CarStage) (b : Bool) → is_again from.phase to.phase ≡ b → (moved plan s session from r to).over ≡ s.over
moved_over plan s session from r to true e = rw e refl
moved_over plan s session from r to false e = rw e refl

replied_over : (o : Option EndCause) (plan : CarPlan) (s : State) (session : Session) (stage : CarStage) (r : Reply) → (replied_by o plan s session stage r).over ≡ s.over
replied_over (Some cause) plan s session stage r = refl
replied_over None plan s session stage r = moved_over plan s session stage r (stage_behind plan stage r session.stop) _ refl

told_over : (plan : CarPlan) (s : State) (session : Session) (o : Option CarStage) (r : Reply) → (replied plan s session o r).over ≡ s.over
told_over plan s session None r = refl
told_over plan s session (Some stage) r = replied_over (reply_cause plan stage _ r) plan s session stage r

judged_over : (plan : CarPlan) (s : State) (session : Session) (w : Judged) → (judged plan s session w).over ≡ s.over
judged_over plan s session (Chosen d) = chosen_over plan s session d
judged_over plan s session (Told r) = told_over plan s session session.stage r
judged_over plan s session WrongSide = refl
judged_over plan s session Refused = refl

over_in : (plan : CarPlan) (s : State) (o : Option Session) (w : Judged) → (judged_in plan s o w).over ≡ s.over
over_in plan s None w = refl
over_in plan s (Some session) w = judged_over plan s session w

pub read_over : (plan : CarPlan) (s : State) (w : Judged) → (read plan (decided plan s) w).over ≡ s.over
read_over plan s w = over_in plan (decided plan s) (decided plan s).session w ∙ same_over plan s

-- an act ends it where it says so
pub acted_over : (plan : CarPlan) (s : State) (act : Act) (cause : Option ℕ) → s.over ≡ is_some cause → (acted act true (decided plan s)).over ≡ is_some (car_ended_by act cause)
acted_over plan s (Seek datagram) cause e = same_over plan s ∙ e
acted_over plan s (Dial port) cause e = same_over plan s ∙ e
acted_over plan s (Give order) cause e = same_over plan s ∙ e
acted_over plan s (Say spoken bytes) cause e = same_over plan s ∙ e
acted_over plan s (End n) cause e = refl
